use Rattle.std.specs.Str.{chars}
use Rattle.domain_label.specs.Wire.{labels_in}
use Rattle.domain_text.specs.NameSymbols.{name_symbols}
use Rattle.domain_text.proofs.Outcomes.{items_of, items_read, name_read}
use Rattle.domain_text.proofs.text.absolute_from_str.Goals as goal

pub returns-clause-text : goal.returns-clause-text
returns-clause-text g c = name_read (λ o. labels_in (g.Octs.Octets.octets o)) g.Octs.Builder.EmptyBuilder.ROOM (chars c.args.text.now) c.absolute_octets.result (c.absolute_octets.ensures.text (name_symbols (items_of (chars c.args.text.now))) (c.read_name_str-read.ensures (items_of (chars c.args.text.now)) (items_read (chars c.args.text.now))))
