-- The orders of names.
use Rattle.std.specs.Prelude.{◌≡◌, ◌≢◌, ℕ, Bool, List, Option, None, Some, reverse, MatchBool}
use Rattle.std.specs.Cmp.Lexicographic.{slice_cmp}
use Rattle.std.specs.Ordering.{on, nat_cmp, eq_by_cmp}
use Rattle.std.specs.declared.cmp.Ordering.{Ordering}
use Rattle.std.specs.declared.cmp.Ordering.TheVariants.{Less, Equal, Greater}
use Rattle.domain_label.specs.Lowercase.{lowercase, lowercase_labels, cmp_ignoring_case}
use Rattle.domain_label.specs.Labels.{label_octets}
use Rattle.domain_label.specs.declared.label.Label.{Label}
use Rattle.domain_label.specs.Wire.{wire}

-- the labels from the right, ignoring case
abbrev pub from_right : List (List ℕ) → List (List ℕ)
from_right ls = reverse (lowercase_labels ls)

-- Labels are compared from the right, as lists of octets ignoring case; a list that begins another is less (RFC 4034,
-- 6.1).
abbrev pub canonical_order : List (List ℕ) → List (List ℕ) → Ordering
canonical_order = on from_right (slice_cmp (slice_cmp nat_cmp))

-- The order of two names of which these labels are the last in which they differ.
abbrev pub last_order : Option Label → Option Label → Ordering
last_order None None = Equal
last_order None (Some y) = Less
last_order (Some x) None = Greater
last_order (Some x) (Some y) = cmp_ignoring_case (label_octets x) (label_octets y)

-- The order of the octets on the wire.
abbrev pub composed_order : List (List ℕ) → List (List ℕ) → Ordering
composed_order = on wire (slice_cmp nat_cmp)

-- The order of the octets on the wire ignoring case.
abbrev pub lowercase_composed_order : List (List ℕ) → List (List ℕ) → Ordering
lowercase_composed_order = on lowercase_labels composed_order

-- The names that the order finds equal: those whose labels are the same ignoring case.
abbrev pub same_name : List (List ℕ) → List (List ℕ) → Bool
same_name = on from_right (eq_by_cmp (slice_cmp (slice_cmp nat_cmp)))

-- The labels are the same ignoring case (RFC 4343).
abbrev pub SameLabels : List (List ℕ) → List (List ℕ) → Type 0
SameLabels xs ys = lowercase_labels xs ≡ lowercase_labels ys

-- The result says whether the octets differ, ignoring case.
abbrev pub TellsDifference : Bool → List ℕ → List ℕ → Type 0
TellsDifference told x y = MatchBool told (lowercase x ≢ lowercase y) (lowercase x ≡ lowercase y)
