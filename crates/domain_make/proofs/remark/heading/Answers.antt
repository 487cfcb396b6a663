use Rattle.domain_make.specs.Remarks.IsHeading.{questions, answers, authority, additional}
use Rattle.domain_make.proofs.remark.heading.Goals as goal

pub returns-then-is_heading-clause-some : goal.returns-then-is_heading-clause-some
returns-then-is_heading-clause-some c = questions (c.is_heading.ensures.0 c.if-is_heading.true)

pub returns-then-is_heading-2-clause-some : goal.returns-then-is_heading-2-clause-some
returns-then-is_heading-2-clause-some c = answers (c.is_heading-2.ensures.0 c.if-is_heading-2.true)

pub returns-then-is_heading-3-clause-some : goal.returns-then-is_heading-3-clause-some
returns-then-is_heading-3-clause-some c = authority (c.is_heading-3.ensures.0 c.if-is_heading-3.true)

pub returns-then-is_heading-4-clause-some : goal.returns-then-is_heading-4-clause-some
returns-then-is_heading-4-clause-some c = additional (c.is_heading-4.ensures.0 c.if-is_heading-4.true)
