use Rattle.std.proofs.Common.{◌≡◌, drop}
use Rattle.domain_zone_signed.specs.ChainSections.{is_new_to}
use Rattle.domain_zone_signed.specs.ChainViews.{answer_view, answer_views}
use Rattle.domain_zone_signed.proofs.chain.is_new.Given as goal

-- the rest decides
abbrev pub invariant-loop-answer : goal.invariant-loop-answer
invariant-loop-answer l = is_new_to (answer_views (drop l.answer-index l.answers)) (answer_view l.set) ≡ is_new_to (answer_views l.answers) (answer_view l.set)
