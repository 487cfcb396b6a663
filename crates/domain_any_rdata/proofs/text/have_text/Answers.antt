use Rattle.domain_any_rdata.proofs.Named.{all_left, part_taken}
use Rattle.domain_any_rdata.proofs.Telling.{decides_more, decides_first}
use Rattle.domain_any_rdata.proofs.text.have_text.Goals as goal

pub field-init : goal.field-init
field-init c = decides_first _ _ _ _ c.fields-fields.ensures.kinds (all_left c.args.rdata.now c.fields-fields.result c.fields-fields.ensures)

pub field-preserved : goal.field-preserved
field-preserved c =
    let taken = part_taken c.field.fields c.in-Some.field c.next.new.self c.in-Some.ensures.steps in
    decides_more _ _ _ _ _ _ _ c.field.invariant c.in-Some.ensures.steps.kinds taken c.has_text.result c.has_text.ensures c.if-not-has_text.false
