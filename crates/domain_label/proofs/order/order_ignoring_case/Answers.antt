use Rattle.std.proofs.Common.{rules, sym, ◌∙◌}
use Rattle.domain_label.proofs.LowercaseLemmas.{cmp_ignoring_case-more}
use Rattle.domain_label.proofs.order.order_ignoring_case.Goals as goal

pub returns-in-len1-up-empty : goal.returns-in-len1-up-empty
returns-in-len1-up-empty c = sym (cmp_ignoring_case-more c.loop-a.a.now c.loop-a.b.now (search rules) (search rules)) ∙ c.loop-a.invariant
