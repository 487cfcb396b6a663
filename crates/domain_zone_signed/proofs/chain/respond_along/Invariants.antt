use Rattle.std.proofs.Common.{map, take}
use Rattle.domain_name.specs.Names.{name_labels}
use Rattle.domain_zone.specs.Kept.{zone_view}
use Rattle.domain_zone_answer.specs.Views.{response_name, response_outcome, response_sections}
use Rattle.domain_zone_signed.specs.ChainViews.{answer_views}
use Rattle.domain_zone_signed.proofs.Joining.{FollowsSoFar}
use Rattle.domain_zone_signed.proofs.chain.respond_along.Given as goal

-- the questions so far have these sections
abbrev pub invariant-loop-name : goal.invariant-loop-name
invariant-loop-name l =
    FollowsSoFar (zone_view l.zone) (response_name l.fn.first) l.rtype (response_outcome l.fn.first) (response_outcome l.last) (map name_labels (take l.name-index l.names)) (answer_views l.answers.items) (response_sections l.last)
