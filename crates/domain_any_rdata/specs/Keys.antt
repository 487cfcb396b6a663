-- What record data is compared by: type, class, and the octets of the canonical form (RFC 4034, 6.2 and 6.3).
use Rattle.std.specs.Prelude.{ℕ, false, true, List, [], ◌∷◌, ◌++◌, ◌==◌, Option, Some, None, if◌then◌else◌, refl}
use Rattle.std.specs.Cmp.{unsigned_Decides}
use Rattle.std.specs.Cmp.Lexicographic.{pointwise, slice_cmp}
use Rattle.std.specs.Hash as fed
use Rattle.std.specs.Ordering.{nat_cmp}
use Rattle.std.specs.declared.cmp.Ordering.{Ordering}
use Rattle.std.proofs.lemmas.Slice.Eq.{slice_eq-Decides}
use Rattle.domain_label.specs.Lowercase.{as_writes}
use Rattle.domain_rdata.specs.Canonical.{canonical_form}
use Rattle.domain_fields.specs.Parts.{Part, parts_octets}
use Rattle.domain_any_rdata.specs.AllData.{data_type, data_class, data_parts, lowered_octets}
use Rattle.domain_any_rdata.specs.declared.all.AllRecordData.{AllRecordData}

-- the octets of the canonical form of data of the type t in the class k with these parts (RFC 4034, 6.2)
abbrev pub canonical_octets : ℕ → ℕ → List Part → List ℕ
canonical_octets t k parts = canonical_form t (parts_octets false parts) (lowered_octets t k parts)

-- what such data is compared by
abbrev pub canonical_key : ℕ → ℕ → List Part → List ℕ
canonical_key t k parts = t ∷ k ∷ canonical_octets t k parts

-- what this data is compared by
abbrev pub data_key : AllRecordData → List ℕ
data_key it = canonical_key (data_type it) (data_class it) (data_parts it)

-- The order of types, then of classes, and then of octets from the left, where a missing octet comes before any (RFC
-- 4034, 6.3).
abbrev pub key_order : List ℕ → List ℕ → Ordering
key_order = slice_cmp nat_cmp

-- what a key writes to a hasher: type and class as a `u16` each, and each octet as a `u8`
abbrev pub key_writes : List ℕ → fed.HashWrites
key_writes [] = []
key_writes (t ∷ []) = fed.u16 t
key_writes (t ∷ k ∷ octets) = fed.u16 t ++ (fed.u16 k ++ as_writes octets)

pub same_key_writes : fed.Alike (pointwise ◌==◌) key_writes
same_key_writes = fed.same_Alike key_writes (λ xs ys. slice_eq-Decides unsigned_Decides xs ys _ refl)
