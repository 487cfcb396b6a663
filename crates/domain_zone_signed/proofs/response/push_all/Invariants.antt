use Rattle.std.proofs.Common.{take}
use Rattle.domain_zone.specs.Kept.{zone_view}
use Rattle.domain_zone_signed.specs.ChainViews.{answer_views}
use Rattle.domain_zone_signed.specs.SignedViews.{response_views, AddsAllSigned}
use Rattle.domain_zone_signed.proofs.response.push_all.Given as goal

-- those so far
abbrev pub invariant-loop-set : goal.invariant-loop-set
invariant-loop-set l =
    AddsAllSigned (zone_view l.zone) l.dnssec_ok (answer_views (take l.set-index l.from)) (response_views l.initial.sets.items) (response_views l.sets.items)
