use Rattle.std.specs.Str.{chars}
use Rattle.domain_label.specs.Wire.{labels_in}
use Rattle.domain_text.specs.NameSymbols.{name_symbols}
use Rattle.domain_text.proofs.Outcomes.{items_of, items_read, relative_read}
use Rattle.domain_text.proofs.text.relative_from_str.Goals as goal

pub returns-clause-text : goal.returns-clause-text
returns-clause-text g c = relative_read (λ o. labels_in (g.Octs.Octets.octets o)) g.Octs.Builder.EmptyBuilder.ROOM (chars c.args.text.now) c.relative_octets.result (c.relative_octets.ensures.text (name_symbols (items_of (chars c.args.text.now))) (c.read_relative_str-read.ensures (items_of (chars c.args.text.now)) (items_read (chars c.args.text.now))))
