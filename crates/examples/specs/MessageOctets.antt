-- Octets that are appended to messages and changed there.
use Rattle.std.specs.Prelude.{◌≡◌, ℕ, List, [], ◌∷◌, ◌++◌, length, take, drop}
use Rattle.std.specs.Int.{w16, to_be_bytes}
use Rattle.domain_label.specs.Text.{text_with_final_dot}
use Rattle.domain_reading.specs.Grammar.{Names}
use Rattle.domain_rdata.specs.ReadBack.{StandsAt}

-- The name is read at the offset.
abbrev pub StandsIn : List ℕ → (name : List (List ℕ)) → (offset : ℕ) → Type 0
StandsIn octets name offset = StandsAt octets offset name

-- the octets with their length in front, in two octets
abbrev pub with_len : List ℕ → List ℕ
with_len octets = to_be_bytes w16 (length octets) ++ octets

-- the message whose header tells so many answers
abbrev pub with_ancount : ℕ → List ℕ → List ℕ
with_ancount count m = take 6 m ++ (to_be_bytes w16 count ++ drop 8 m)

-- A line with the name that the message begins with was appended.
abbrev pub ShowsFirst : (message : List ℕ) → List ℕ → List ℕ → Type 0
ShowsFirst m old new =
    (ls : List (List ℕ)) × Names 255 m 0 ls × (new ≡ old ++ text_with_final_dot ls ++ 10 ∷ [])
