-- What is remembered of the label at an offset.
use Rattle.std.specs.Prelude.{◌≡◌, ℕ, ◌+◌, ◌<◌, ◌≤◌, List, ◌++◌, length, slice_index, slice_range, take, Bool, true}
use Rattle.std.specs.List.{All}
use Rattle.domain_compress.specs.declared.written.Written.{Written}
use Rattle.domain_compress.specs.Ends.{label_hash}

-- The hash of the label whose first octet stands at p.
abbrev pub hash_at : List ℕ → ℕ → ℕ
hash_at t p = label_hash (slice_range t (p + 1) (p + 1 + slice_index t p))

-- A label stands at p in t, ends at e at the latest, and has that hash.
abbrev pub HasHash : List ℕ → ℕ → ℕ → ℕ → Type 0
HasHash t p e h = (slice_index t p < 64) × ((p + 1 + slice_index t p ≤ e) × (e ≤ length t)) × (h ≡ hash_at t p)

-- The label at a remembered offset has that hash, and ends where its name does at the latest.
abbrev pub IsHashOf : List ℕ → Written → ℕ → Type 0
IsHashOf t w h = HasHash t w.offset w.end h

-- It has the hash that is kept.
abbrev pub IsHashed : List ℕ → Written → Type 0
IsHashed t w = IsHashOf t w w.hash

-- It has, where the hashes count.
abbrev pub IsHashedIf : Bool → List ℕ → Written → Type 0
IsHashedIf hashed t w = hashed ≡ true → IsHashed t w

-- Where the hashes count, they are those of the labels at the offsets.
abbrev pub IsKnown : Bool → List ℕ → List Written → Type 0
IsKnown hashed t ws = hashed ≡ true → All (IsHashed t) ws

-- The labels stand in t from start on, and end at end at the latest, with what else was written for their name.
pub record StandFrom (t labels : List ℕ) (start end : ℕ) : Type 0 where
  pub before : List ℕ
  pub after : List ℕ
  pub whole : t ≡ before ++ (labels ++ after)
  pub starts : start ≡ length before
  pub within : start + length labels ≤ end
  pub inside : end ≤ length t

-- In octets in which the labels stand so, the new entries have the hashes of their labels if the old ones do.
abbrev pub StayKnown : List ℕ → ℕ → ℕ → List Written → List Written → Type 0
StayKnown labels start end old new =
    (t : List ℕ) → StandFrom t labels start end → All (IsHashed t) old → All (IsHashed t) new

-- Suppose that the hashes of the old entries, where they count, are those of their labels. Then so are, where `holds`
-- is true, those of the entries that a cut to n octets leaves.
abbrev pub KnownWithin : ℕ → List ℕ → Bool → Bool → List Written → List Written → Type 0
KnownWithin n t hashed holds old new = IsKnown hashed t old → IsKnown holds (take n t) new
