-- The order of values by their octets, and what is written of octets to a hasher (RFC 4034, 6.3).
use Rattle.std.specs.Prelude.{◌≡◌, ℕ, Bool, List, ◌++◌, fold}
use Rattle.std.specs.Cmp.Lexicographic.{slice_cmp}
use Rattle.std.specs.Ordering.{nat_cmp, ordering_then}
use Rattle.std.specs.declared.cmp.Ordering.{Ordering}
use Rattle.domain_label.specs.Lowercase.{as_writes}
use Rattle.domain_list.specs.Order.{composed_order}
use Rattle.domain_fields.specs.Cases.{cased_labels}

-- the order of the octets of two values from the left, names in lowercase if so; what begins another comes first
abbrev pub octets_order : {F : Type 0} → (F → Bool → List ℕ) → Bool → F → F → Ordering
octets_order octets lowercase x y = slice_cmp nat_cmp (octets x lowercase) (octets y lowercase)

-- With more octets after those of the two values, these are looked at only where the two are the same.
abbrev pub DecidesFirst : {F : Type 0} → (F → Bool → List ℕ) → Bool → F → F → Ordering → Type 0
DecidesFirst octets lowercase x y order =
    (s t : List ℕ) → slice_cmp nat_cmp (octets x lowercase ++ s) (octets y lowercase ++ t)
    ≡ ordering_then order (slice_cmp nat_cmp s t)

-- the order of the octets of two names, in lowercase if so
abbrev pub cased_order : Bool → List (List ℕ) → List (List ℕ) → Ordering
cased_order lowercase xs ys = composed_order (cased_labels lowercase xs) (cased_labels lowercase ys)

-- what a hasher becomes where these octets are written to it, each as one write
abbrev pub hashed : {H : Type 0} → (H → List ℕ → H) → List ℕ → H → H
hashed write octets state = fold write state (as_writes octets)
