-- What octets are after two parts of them were borrowed: those before and after a place, or the octets of the label
-- that they begin with and the octets after it.
use Rattle.std.specs.Prelude.{ℕ, ◌≤◌, ◌<◌, List, ◌++◌, length, take, drop, Option, Result, Ok, Err}
use Rattle.std.specs.Borrow.{Fml, MutBor, Array, u8, LendsBoth, LendsBothIf}
use Rattle.domain_label.specs.Splitting.{BeginsWithLabel, SplitFault}
use Rattle.domain_label.specs.declared.split_error.SplitLabelError.{SplitLabelError}

-- once both borrows end, the octets are what the two borrows show last
abbrev pub LendsParts : MutBor (List ℕ) → MutBor (List ℕ) × MutBor (List ℕ) → Fml
LendsParts s r = LendsBoth (Array u8 0) (Array u8 0) (Array u8 0) s r ◌++◌

-- the octets of the head, and then those of two parts
abbrev pub after_head : List ℕ → List ℕ → List ℕ → List ℕ
after_head head = λ x y. head ++ (x ++ y)

-- once both borrows end, the octets are their first one, and then what the two borrows show last
abbrev pub LendsPastFirst : MutBor (List ℕ) → MutBor (List ℕ) × MutBor (List ℕ) → Fml
LendsPastFirst s r = LendsBoth (Array u8 0) (Array u8 0) (Array u8 0) s r (after_head (take 1 s.now))

-- once both borrows end, the octets are their first one, and then what the two borrows show last; where there is no
-- label, they stay as they are
abbrev pub LendsIfFirst : MutBor (List ℕ) → Option (MutBor (List ℕ) × MutBor (List ℕ)) → Fml
LendsIfFirst s r = LendsBothIf (Array u8 0) (Array u8 0) (Array u8 0) s r (after_head (take 1 s.now)) s.now

-- once both borrows end, the octets are what the two borrows show last; where there is no label, they stay as they
-- are
abbrev pub LendsWireIfFirst : MutBor (List ℕ) → Option (MutBor (List ℕ) × MutBor (List ℕ)) → Fml
LendsWireIfFirst s r = LendsBothIf (Array u8 0) (Array u8 0) (Array u8 0) s r ◌++◌ s.now

-- how many octets the label has that the octets begin with, or why they begin with none
abbrev pub FirstOf : List ℕ → Result ℕ SplitLabelError → Type 0
FirstOf o (Ok len) = (len ≤ 63) × (len < length o) × BeginsWithLabel o (take len (drop 1 o)) (drop len (drop 1 o))
FirstOf o (Err e) = SplitFault o e
