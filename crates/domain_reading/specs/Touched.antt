-- Which octets of a message a name is read from.
use Rattle.std.specs.Prelude.{◌≡◌, ℕ, ◌+◌, ◌<◌, ◌≤◌, ◌⊎◌, List, length, drop, slice_index}
use Rattle.domain_reading.specs.Grammar.{Reads}
use Rattle.domain_reading.specs.Grammar.Reads.{root, label, pointer}

-- The octet at i is one of those that the name is read from: the root, the length or an octet of a label, or one of
-- the two octets of a pointer.
abbrev pub Touches : {m : List ℕ} {p k : ℕ} {ls : List (List ℕ)} → Reads m p k ls → ℕ → Type 0
Touches {m} {p} (root x) i = i ≡ p
Touches {m} {p} (label {l = l} x r) i = ((p ≤ i) × (i ≤ p + length l)) ⊎ Touches r i
Touches {m} {p} (pointer x lt r) i = ((p ≤ i) × (i ≤ p + 1)) ⊎ Touches r i

-- The octet at i of w is there, and is the one of m.
abbrev pub IsKept : List ℕ → List ℕ → ℕ → Type 0
IsKept m w i = (i < length w) × (slice_index w i ≡ slice_index m i)

-- w has each octet of m that the name is read from, at the same offset.
abbrev pub KeepsTouched : {m : List ℕ} {p k : ℕ} {ls : List (List ℕ)} → Reads m p k ls → List ℕ → Type 0
KeepsTouched {m} r w = (i : ℕ) → Touches r i → IsKept m w i

-- From n on w has the octets of m, and ends with them.
abbrev pub IsSameFrom : ℕ → List ℕ → List ℕ → Type 0
IsSameFrom n m w = drop n w ≡ drop n m

-- A list of labels is read at p, from octets at n and after it alone.
pub record ReadsFrom (n : ℕ) (m : List ℕ) (p : ℕ) (ls : List (List ℕ)) : Type 0 where
  pub pointers : ℕ
  pub reads : Reads m p pointers ls
  pub after : (i : ℕ) → Touches reads i → n ≤ i
