-- At an offset there is one entry, with one end, or none. An entry is a question or a record.
use Rattle.std.specs.Prelude.{◌≡◌, ℕ, ◌⊎◌, List}

-- No entry is at p.
abbrev pub NoneAt : {V : Type 0} → (List ℕ → ℕ → V → ℕ → Type 0) → List ℕ → ℕ → Type 0
NoneAt {V} At m p = (x : V) (e : ℕ) → At m p x e → ⊥

-- At most one entry is at each offset, and it has one end.
abbrev pub IsOnce : {V : Type 0} → (List ℕ → ℕ → V → ℕ → Type 0) → Type 0
IsOnce {V} At =
    (m : List ℕ) (p : ℕ) (a b : V) (e f : ℕ) → At m p a e → At m p b f → (a ≡ b) × (e ≡ f)

-- An entry is at each offset, or none.
abbrev pub IsDecided : {V : Type 0} → (List ℕ → ℕ → V → ℕ → Type 0) → Type 0
IsDecided {V} At = (m : List ℕ) (p : ℕ) → ((x : V) × (e : ℕ) × At m p x e) ⊎ NoneAt At m p
