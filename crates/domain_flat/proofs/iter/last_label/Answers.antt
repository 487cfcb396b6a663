use Rattle.std.proofs.Common.{rules, arith}
use Rattle.std.proofs.lemmas.Grind.{common_steps}
use Rattle.domain_flat.proofs.LabelBounds.{seam_next, last_at}
use Rattle.domain_flat.proofs.iter.last_label.Goals as goal

pub returns-then-next-octets : goal.returns-then-next-octets
returns-then-next-octets c =
    grind (arith, common_steps, last_at c.args.octets.now c.loop-start.start c.loop-start.invariant.seam c.loop-start.invariant.within c.if-next-octets.true)

pub loop-start-preserved : goal.loop-start-preserved
loop-start-preserved c = record {
  within = search rules;
  seam = (seam_next c.args.octets.now c.loop-start.start c.loop-start.invariant.seam c.loop-start.invariant.within).1;
}
