use Rattle.std.proofs.Common.{take, get_or, sym, subst}
use Rattle.std.proofs.lemmas.List.{take_more}
use Rattle.domain_descriptor.specs.Fields.{FieldsAt}
use Rattle.domain_descriptor.specs.declared.kind.FieldKind.TheVariants.{Number8}
use Rattle.domain_descriptor.proofs.Steps.{one_field_more, fault_after}
use Rattle.domain_descriptor.proofs.field.fields_end.Goals as goal

pub loop-kind-preserved : goal.loop-kind-preserved
loop-kind-preserved c =
    let m = c.args.message.now in
    let kinds = c.args.kinds.now in
    let i = c.loop-kind.kind-index in
    let all = one_field_more m c.args.begin (take i kinds) c.loop-kind.at (get_or kinds i Number8) c.in-Ok.end c.loop-kind.invariant.at c.in-Ok.ensures.ok in
    record {
      at = subst (λ ks. FieldsAt ks m c.args.begin c.in-Ok.end) (sym (take_more kinds i Number8 c.loop-kind-test.true)) all;
      inside = c.in-Ok.ensures.inside;
    }

pub returns-in-Err-clause-err : goal.returns-in-Err-clause-err
returns-in-Err-clause-err c =
    fault_after c.args.message.now c.args.begin c.args.kinds.now c.loop-kind.kind-index c.loop-kind.at c.in-Err.fault c.loop-kind-test.true c.loop-kind.invariant.at c.in-Err.ensures.err
