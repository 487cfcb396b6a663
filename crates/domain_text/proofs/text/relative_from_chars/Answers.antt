use Rattle.domain_label.specs.Wire.{labels_in}
use Rattle.domain_text.specs.NameSymbols.{name_symbols}
use Rattle.domain_text.proofs.Outcomes.{items_of, items_read, relative_read}
use Rattle.domain_text.proofs.text.relative_from_chars.Goals as goal

pub returns-clause-text : goal.returns-clause-text
returns-clause-text g c = λ cs h. relative_read (λ o. labels_in (g.Octs.Octets.octets o)) g.Octs.Builder.EmptyBuilder.ROOM cs c.relative_octets.result (c.relative_octets.ensures.text (name_symbols (items_of cs)) (c.read_relative_text-read.ensures (items_of cs) (c.new.ensures.items cs (items_of cs) h (items_read cs))))
