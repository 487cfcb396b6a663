-- Lines and columns of a text.
use Rattle.std.specs.Prelude.{ℕ, ◌+◌, List, [], ◌∷◌, ◌==◌, if◌then◌else◌}
use Rattle.domain_rdata_text.specs.declared.place.Place.{Place}

abbrev pub at_line : ℕ → ℕ → Place
at_line l c = record { line = l; column = c }

-- the place after octets, where they begin at this one
abbrev pub place_after : ℕ → ℕ → List ℕ → Place
place_after l c [] = at_line l c
place_after l c (o ∷ os) = if o == 10 then place_after (l + 1) 1 os else place_after l (c + 1) os
