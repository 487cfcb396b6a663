use Rattle.std.proofs.Common.{◌∷◌, [], map, take}
use Rattle.domain_name.specs.Names.{name_labels}
use Rattle.domain_zone.specs.Kept.{zone_view}
use Rattle.domain_zone_signed.specs.ChainViews.{answer_views}
use Rattle.domain_zone_signed.specs.Signing.{AddDenials}
use Rattle.domain_zone_signed.proofs.denials.denials_of.Given as goal

-- what denies for the questions so far
abbrev pub invariant-loop-name : goal.invariant-loop-name
invariant-loop-name l = AddDenials (zone_view l.zone) l.rtype (name_labels l.fn.questions.name.now ∷ map name_labels (take l.name-index l.names)) [] (answer_views l.sets.items)
