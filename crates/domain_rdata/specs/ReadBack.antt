-- What a composer may append for a name.
use Rattle.std.specs.Prelude.{◌≡◌, ℕ, ◌+◌, ◌<◌, ◌≤◌, List, ◌++◌, length}
use Rattle.domain_label.specs.Lowercase.{lowercase_labels}
use Rattle.domain_label.specs.Wire.{wire}
use Rattle.domain_reading.specs.Limits.{max_pointers}
use Rattle.domain_reading.specs.Grammar.{Names, EncodingEnds}

-- A name that equals ls without case is read at the offset p of t (RFC 1035, 4.1.4).
abbrev pub StandsAt : List ℕ → ℕ → List (List ℕ) → Type 0
StandsAt t p ls = (c : List (List ℕ)) × Names max_pointers t p c × (lowercase_labels c ≡ lowercase_labels ls)

-- After the octets t, the octets s are read as a name that equals ls without case, and end where its front
-- ends. They are no more than those of the wire format.
pub record ReadsBack (t : List ℕ) (ls : List (List ℕ)) (s : List ℕ) : Type 0 where
  pub short : length s ≤ length (wire ls)
  pub stands : StandsAt (t ++ s) (length t) ls
  pub ends : EncodingEnds (t ++ s) (length t) (length t + length s)

-- New is old with octets after it that may be appended.
pub record Appended (MayAppend : List ℕ → Type 0) (old new : List ℕ) : Type 0 where
  pub octets : List ℕ
  pub allowed : MayAppend octets
  pub all : new ≡ old ++ octets

-- Some octets that may be appended exceed the spare capacity.
pub record Exceeds (MayAppend : List ℕ → Type 0) (old : List ℕ) (capacity : ℕ) : Type 0 where
  pub octets : List ℕ
  pub allowed : MayAppend octets
  pub full : capacity < length old + length octets
