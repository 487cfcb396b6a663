-- The statements of the laws for callers.
use Rattle.std.specs.Prelude.{◌≡◌, ℕ, ◌<◌, ◌≤◌, Bool, List, [], ◌∷◌, Option, Some, None}
use Rattle.std.specs.List.{filter}
use Rattle.domain_message.specs.Aliases.{Leads, ChainEnd, ChainEndWithin, cname_count}
use Rattle.domain_message.specs.Entries.{RecordFields, RecordAt}
use Rattle.domain_message.specs.Kept.{FirstKept, NoneKept}
use Rattle.domain_message.specs.Runs.{Given}

-- At each offset the next entries are one list: as many as are counted, or fewer, up to where none is.
pub record GivesOneList {V : Type 0} (At : List ℕ → ℕ → V → ℕ → Type 0) : Type 0 where
  pub some : (m : List ℕ) (p n : ℕ) → (xs : List V) × Given At m p n xs
  pub once : (m : List ℕ) (p n : ℕ) (xs ys : List V) → Given At m p n xs → Given At m p n ys
      → xs ≡ ys

-- The first record that is kept is the first of the section's list that is, and the others that are kept come after
-- it.
abbrev pub FirstIsKept : Type 0
FirstIsKept =
    (keep : RecordFields → Bool) (m : List ℕ) (p n q k : ℕ) (it : RecordFields)
    (rs : List RecordFields) → FirstKept keep m p n it q k → Given RecordAt m p n rs
    → (rest : List RecordFields) × (filter keep rs ≡ it ∷ filter keep rest)
    × Given RecordAt m q k rest

-- Where none is kept, the section's list has none that is.
abbrev pub NoneIsKept : Type 0
NoneIsKept =
    (keep : RecordFields → Bool) (m : List ℕ) (p n : ℕ) (rs : List RecordFields)
    → NoneKept keep m p n → Given RecordAt m p n rs → filter keep rs ≡ []

-- A chain of CNAME records has one end, or goes round, and never both.
abbrev pub ChainEndsOnce : Type 0
ChainEndsOnce =
    (rs : List RecordFields) (name : List (List ℕ)) (a b : Option (List (List ℕ)))
    → ChainEnd rs name a → ChainEnd rs name b → a ≡ b

-- A chain of more records than there are CNAME records goes round.
abbrev pub LongChainGoesRound : Type 0
LongChainGoesRound =
    (rs : List RecordFields) (name : List (List ℕ)) (n : ℕ) (to : List (List ℕ))
    → cname_count rs < n → Leads rs name n to → ChainEnd rs name None

-- A chain with a limit has one end, or more records lead on. Its end is the end without a limit; so is what it comes
-- to within as many records as there are CNAME records.
pub record ChainsWithin : Type 0 where
  pub once : (rs : List RecordFields) (limit : ℕ) (name : List (List ℕ))
      (a b : Option (List (List ℕ))) → ChainEndWithin limit rs name a
      → ChainEndWithin limit rs name b → a ≡ b
  pub ends : (rs : List RecordFields) (limit : ℕ) (name end : List (List ℕ))
      → ChainEndWithin limit rs name (Some end) → ChainEnd rs name (Some end)
  pub enough : (rs : List RecordFields) (limit : ℕ) (name : List (List ℕ))
      (end : Option (List (List ℕ))) → cname_count rs ≤ limit → ChainEndWithin limit rs name end
      → ChainEnd rs name end
