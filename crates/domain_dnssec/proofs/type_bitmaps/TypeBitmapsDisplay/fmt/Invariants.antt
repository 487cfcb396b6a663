use Rattle.std.proofs.Common.{length}
use Rattle.std.specs.Fmt.{IsPlainFormatter}
use Rattle.std.specs.List.{flat_map}
use Rattle.domain_list.specs.Moving.{HasMoved}
use Rattle.domain_dnssec.specs.BitmapViews.{bitmaps_types}
use Rattle.domain_dnssec.specs.TypeViews.{types_left}
use Rattle.domain_dnssec.specs.TypesText.{spaced_type, types_text}
use Rattle.domain_dnssec.proofs.type_bitmaps.TypeBitmapsDisplay.fmt.Given as goal

abbrev pub invariant-loop-rtype : goal.invariant-loop-rtype
invariant-loop-rtype g l =
    IsPlainFormatter l.fn.f → HasMoved g.W.Write.write_str_gives l.fn.f (types_text (bitmaps_types l.fn.self)) (flat_map spaced_type (types_left l.types)) l.f

abbrev pub decreases-loop-rtype : goal.decreases-loop-rtype
decreases-loop-rtype g l = length (types_left l.types)
