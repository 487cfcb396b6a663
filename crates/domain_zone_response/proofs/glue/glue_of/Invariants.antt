use Rattle.std.proofs.Common.{drop}
use Rattle.domain_zone_response.specs.Included.{cut_of}
use Rattle.domain_zone_response.proofs.Parting.{GoesOn}
use Rattle.domain_zone_response.proofs.glue.glue_of.Given as goal
use Rattle.domain_zone_signed.specs.SignedViews.{response_views, signed_last, signed_sections}

abbrev pub invariant-loop-set : goal.invariant-loop-set
invariant-loop-set l =
    GoesOn (cut_of (signed_last l.fn.response)) (signed_sections l.fn.response).additional (response_views (drop l.set-index l.set-items)) (response_views l.sets.items) (response_views l.others.items)
