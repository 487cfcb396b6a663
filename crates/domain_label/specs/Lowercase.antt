-- Octets ignoring ASCII case (RFC 1035, 2.3.3; RFC 4343).
use Rattle.std.specs.Prelude.{ℕ, Bool, List, ◌==◌, map}
use Rattle.std.specs.Char.{to_ascii_lowercase}
use Rattle.std.specs.Cmp.Lexicographic.{pointwise, slice_cmp}
use Rattle.std.specs.Hash as fed
use Rattle.std.specs.List.{flat_map}
use Rattle.std.specs.Ordering.{on, nat_cmp}
use Rattle.std.specs.declared.cmp.Ordering.{Ordering}
use Rattle.domain_label.specs.Wire.{wire_label}

-- A to Z as a to z, and each other octet as it is
abbrev pub lowercase : List ℕ → List ℕ
lowercase = map to_ascii_lowercase

-- the same for each label
abbrev pub lowercase_labels : List (List ℕ) → List (List ℕ)
lowercase_labels = map lowercase

-- Equal ignoring case.
abbrev pub eq_ignoring_case : List ℕ → List ℕ → Bool
eq_ignoring_case = on lowercase (pointwise ◌==◌)

-- Two labels in canonical order: as octets from the left ignoring case, and what begins another is less (RFC 4034,
-- 6.1).
abbrev pub cmp_ignoring_case : List ℕ → List ℕ → Ordering
cmp_ignoring_case = on lowercase (slice_cmp nat_cmp)

-- Two labels in the order of the octets of their wire formats, and of those in lower case.
abbrev pub label_composed_order : List ℕ → List ℕ → Ordering
label_composed_order = on wire_label (slice_cmp nat_cmp)

-- the same of the labels in lower case
abbrev pub label_lowercase_composed_order : List ℕ → List ℕ → Ordering
label_lowercase_composed_order = on lowercase label_composed_order

-- Each octet as one write of a `u8`.
abbrev pub as_writes : List ℕ → fed.HashWrites
as_writes = flat_map fed.u8

-- What a label writes to a hasher: its length, and then its octets in lower case.
abbrev pub label_hash_input : List ℕ → fed.HashWrites
label_hash_input l = as_writes (wire_label (lowercase l))
