use Rattle.domain_make.proofs.Texts.{heading_some, heading_none}
use Rattle.domain_make.proofs.remark.is_heading.Goals as goal

pub returns-in-Some : goal.returns-in-Some
returns-in-Some c = heading_some _ _ _ _ c.in-Some.ensures c.ends_heading.ensures

pub returns-in-None : goal.returns-in-None
returns-in-None c = heading_none _ _ c.in-None.ensures
