use Rattle.std.proofs.Common.{inl, inr}
use Rattle.domain_flat.proofs.LabelBounds.{seam_next}
use Rattle.domain_flat.proofs.Splits.{step_stays, walk_tells}
use Rattle.domain_flat.proofs.label_ends.is_label_end.Goals.{then-loop-start-test+else-start-octets, else-loop-start-test}
use Rattle.domain_flat.proofs.label_ends.is_label_end.Goals as goal

pub loop-start-preserved : goal.loop-start-preserved
loop-start-preserved c =
    let next = seam_next c.args.octets.now c.loop-start.start c.loop-start.invariant.seam c.if-start-octets.true in
    record {
      within = next.0;
      seam = next.1;
      before = λ t. step_stays c.args.octets.now c.loop-start.start c.args.offset c.loop-start.invariant.seam t c.loop-start-test.true;
    }

pub returns : goal.returns
returns c =
    walk_tells c.args.octets.now c.loop-start.start c.args.offset c.requires c.loop-start.invariant.seam c.loop-start.invariant.within c.loop-start.invariant.before
    (elim c.loop-start-test.branch [
      | then-loop-start-test+else-start-octets w ↦ inr w.if-start-octets.false
      | else-loop-start-test w ↦ inl w.loop-start-test.false
    ])
