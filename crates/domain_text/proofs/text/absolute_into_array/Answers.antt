use Rattle.std.proofs.Common.{Some}
use Rattle.std.specs.Str.{chars}
use Rattle.domain_label.specs.Wire.{labels_in}
use Rattle.domain_text.specs.NameSymbols.{name_symbols}
use Rattle.domain_text.proofs.Outcomes.{items_of, items_read, name_read}
use Rattle.domain_text.proofs.text.absolute_into_array.Goals as goal

pub returns-clause-text : goal.returns-clause-text
returns-clause-text g c = name_read (λ _. labels_in c.absolute_array.new.octets.items) (Some g.row.N) (chars c.args.text.now) c.absolute_array.result (c.absolute_array.ensures.text (name_symbols (items_of (chars c.args.text.now))) (c.read_name_str-read.ensures (items_of (chars c.args.text.now)) (items_read (chars c.args.text.now))))
