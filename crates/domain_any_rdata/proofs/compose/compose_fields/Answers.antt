use Rattle.domain_any_rdata.proofs.Named.{part_taken}
use Rattle.domain_any_rdata.proofs.Composed.{still_more}
use Rattle.domain_any_rdata.proofs.compose.compose_fields.Goals as goal

pub field-preserved : goal.field-preserved
field-preserved g c =
    let taken = part_taken c.field.fields c.in-Some.field c.next.new.self c.in-Some.ensures.steps in
    still_more _ g.met.T.Composer.kept_twice _ _ _ _ _ _ _ _ c.field.invariant taken c.in_default-append_field.ensures.ok c.in_default-append_field.ensures.names c.append_field.ensures.memory c.append_field.ensures.capacity
