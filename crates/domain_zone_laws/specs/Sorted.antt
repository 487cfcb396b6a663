-- RRsets in the canonical order of their owners (RFC 4034, 6.1), those of one owner by their types.
use Rattle.std.specs.Prelude.{◌≡◌, ℕ, ◌<◌, ◌⊎◌, List, length, slice_index_or}
use Rattle.std.specs.declared.cmp.Ordering.TheVariants.{Less, Equal}
use Rattle.domain_list.specs.Order.{canonical_order}
use Rattle.domain_zone_laws.specs.Zone.{Zone, RRset}

-- The RRset comes before what the name n would have of the type t.
abbrev pub ComesBefore : RRset → List (List ℕ) → ℕ → Type 0
ComesBefore s n t = (canonical_order s.owner n ≡ Less) ⊎ ((canonical_order s.owner n ≡ Equal) × (s.rtype < t))

-- Of the first n RRsets each comes before those after it.
abbrev pub IsSortedUpTo : Zone → ℕ → Type 0
IsSortedUpTo z n = (j k : ℕ) (d : RRset) → j < k → k < n →
    ComesBefore (slice_index_or z.rrsets j d) (slice_index_or z.rrsets k d).owner (slice_index_or z.rrsets k d).rtype

-- Each RRset comes before those after it.
pub record IsSorted (z : Zone) : Type 0 where
  pub ordered : IsSortedUpTo z (length z.rrsets)

-- The RRsets before the index i come before what n would have of t, and the others don't.
abbrev pub IsPlace : Zone → List (List ℕ) → ℕ → ℕ → Type 0
IsPlace z n t i = (k : ℕ) (d : RRset) → k < length z.rrsets →
    (k < i → ComesBefore (slice_index_or z.rrsets k d) n t) × ((ComesBefore (slice_index_or z.rrsets k d) n t) → k < i)
