use Rattle.std.proofs.Common.{arith}
use Rattle.std.proofs.lemmas.Grind.{common_steps}
use Rattle.domain_flat.proofs.LabelBounds.{first_at}
use Rattle.domain_flat.proofs.iter.first_label.Goals as goal

pub returns : goal.returns
returns c = rw (c.split_at.ensures.front, c.split_at.ensures.back) (grind (arith, common_steps, first_at c.args.octets.now c.requires c.in-len1-up.len_at_least))
