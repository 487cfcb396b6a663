-- Where the pointers lead through which a name is read (RFC 1035, 4.1.4).
use Rattle.std.specs.Prelude.{ℕ, ◌≤◌, ⊤, List}
use Rattle.domain_reading.specs.Grammar.{Reads}
use Rattle.domain_reading.specs.Grammar.Reads.{root, label, pointer}

-- Each pointer on this way to the labels leads to the offset n or to one behind it.
abbrev pub LeadsBehind : (n : ℕ) {m : List ℕ} {p k : ℕ} {ls : List (List ℕ)} → Reads m p k ls → Type 0
LeadsBehind n (root x) = ⊤
LeadsBehind n (label x way) = LeadsBehind n way
LeadsBehind n (pointer {q = q} x before way) = (n ≤ q) × LeadsBehind n way

-- However a name is read at p, each pointer on the way leads to the offset n or to one behind it.
abbrev pub PointsBehind : ℕ → List ℕ → ℕ → Type 0
PointsBehind n m p = (k : ℕ) (ls : List (List ℕ)) (way : Reads m p k ls) → LeadsBehind n way

-- An entry is at p, and each pointer of the name that it begins with leads to the offset n or to one behind it.
abbrev pub EntryPointsBehind : {V : Type 0} → ℕ → (List ℕ → ℕ → V → ℕ → Type 0) → List ℕ → ℕ → V → ℕ → Type 0
EntryPointsBehind n At m p x e = At m p x e × PointsBehind n m p
