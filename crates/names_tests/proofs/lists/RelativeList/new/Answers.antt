use Rattle.std.proofs.Common.{rules, arith, sym, ◌∙◌, true≢false}
use Rattle.names_tests.proofs.Listed.{more_relative, more_size}
use Rattle.names_tests.proofs.lists.RelativeList.new.Goals as goal

pub loop-label-preserved : goal.loop-label-preserved
loop-label-preserved c =
    let xs = c.args.labels.now in
    let i = c.loop-label.label-index in
    let x = c.label-item.result in
    record {
      relative = more_relative xs i x (search rules) c.label-item.is (λ e. true≢false (sym (c.is_root.ensures.1 e) ∙ c.if-is_root.false)) x.short c.loop-label.invariant.relative;
      sized = omega (arith, more_size xs i x (search rules) c.label-item.is, c.len.ensures, c.loop-label.invariant.sized);
      few = omega arith;
    }
