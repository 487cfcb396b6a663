use Rattle.std.proofs.Common.{◌++◌, ◌∷◌, [], sym, ap, ◌∙◌, arith}
use Rattle.std.proofs.lemmas.List.{take_more_set, length-set}
use Rattle.domain_flat.proofs.LabelBounds.{seam_next}
use Rattle.domain_flat.proofs.Starts.{starts_more}
use Rattle.domain_flat.proofs.iter.find_starts.Goals as goal

pub loop-start-preserved : goal.loop-start-preserved
loop-start-preserved c =
    let o = c.args.octets.now in
    let l = c.loop-start in
    let s = seam_next o l.start l.invariant.seam c.loop-start-test.true in
    record {
      within = s.0;
      seam = s.1;
      few = omega (arith, l.invariant.few, c.from.ensures, c.if-from-eq-MAX_LABELS.false);
      room = rw c.from-in-loop-start.ensures (length-set l.starts _ _ ∙ l.invariant.room);
      table = rw c.from-in-loop-start.ensures (take_more_set l.starts l.count l.start (omega (arith, l.invariant.few, c.from.ensures, c.if-from-eq-MAX_LABELS.false)) ∙ (ap (λ ps. ps ++ l.start ∷ []) l.invariant.table ∙ sym (starts_more o l.start l.invariant.seam c.loop-start-test.true)));
    }
