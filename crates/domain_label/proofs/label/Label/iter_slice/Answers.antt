use Rattle.domain_label.proofs.WalkLemmas.{walk-whole}
use Rattle.domain_label.proofs.label.Label.iter_slice.Goals as goal

pub returns-clause-whole : goal.returns-clause-whole
returns-clause-whole c n = walk-whole c.args.slice.now c.args.start n
