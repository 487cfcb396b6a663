-- Reading a text step by step.

-- From the first state the steps lead to this one.
pub data Reaches {S : Type 0} (Step : S → S → Type 0) (first : S) : (last : S) → Type 0 where
  begins : Reaches Step first first
  further : {s t : S} → Reaches Step first s → Step s t → Reaches Step first t
