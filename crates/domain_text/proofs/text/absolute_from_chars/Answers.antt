use Rattle.domain_label.specs.Wire.{labels_in}
use Rattle.domain_text.proofs.Outcomes.{items_of, items_read, name_read}
use Rattle.domain_text.proofs.text.absolute_from_chars.Goals as goal

pub returns-clause-text : goal.returns-clause-text
returns-clause-text g c = λ cs h. name_read (λ o. labels_in (g.Octs.Octets.octets o)) g.Octs.Builder.EmptyBuilder.ROOM cs c.absolute_from_items.result (c.absolute_from_items.ensures.text (items_of cs) (c.new.ensures.items cs (items_of cs) h (items_read cs)))
