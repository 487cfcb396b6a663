use Rattle.domain_dnssec.proofs.TypesWalk.{at_start}
use Rattle.domain_dnssec.proofs.type_blocks.TypesIter.new.Goals as goal

pub returns : goal.returns
returns c = λ h. at_start c.args.blocks.now c.result-3-1.given.1.0 h
