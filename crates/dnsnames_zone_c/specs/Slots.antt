-- What a slot owns, and what it holds.
use Rattle.std.specs.Prelude.{ℕ, zero, suc}
use Rattle.std.specs.Box.Ownership.{box_owns}
use Rattle.std.specs.Global.{Box}
use Rattle.std.specs.contracts.impls.GlobalAllocator.TheImpl.{ghosts}
use Rattle.std.specs.declared.alloc.Global.{Global}
use Rattle.std.specs.declared.option.Option.{Option}
use Rattle.std.specs.declared.option.Option.TheVariants.{None, Some}
use base.Fml.{Fml, ffalse, feq, fex}
use denote.RawPtr.{Ptr}
use Rattle.domain_zone.specs.contracts.kept.Zone as zone
use Rattle.domain_zone.specs.declared.kept.Zone.{Zone}
use Rattle.dnsnames_zone_c.specs.declared.loose.Loose.{Loose}

-- the zone at a pointer, and the right to free its block
abbrev pub zone_at : Ptr → Zone → Fml
zone_at p z = fex Global (λ a. box_owns (ghosts.dealloc_token a) zone.the_row p z)

-- A slot whose number is 0 owns nothing, and holds none. Another owns the zone that it holds.
abbrev pub slot_owns : ℕ → Ptr → Option Zone → Fml
slot_owns zero p held = feq (Option Zone) held None
slot_owns (suc n) p None = ffalse
slot_owns (suc n) p (Some z) = zone_at p z

-- the zone behind a pointer, if there is one
abbrev pub loose_zone : Option (Loose Zone Global) → Option Zone
loose_zone None = None
loose_zone (Some it) = Some it.value

-- the zone in a box, if there is one
abbrev pub boxed_zone : Option (Box Zone) → Option Zone
boxed_zone None = None
boxed_zone (Some it) = Some it.value
