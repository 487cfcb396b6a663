-- Laws of writing names shorter.
use Rattle.std.specs.Prelude.{◌≡◌, ℕ, ◌≤◌, List, ◌++◌, length, take, drop}
use Rattle.domain_label.specs.Wire.{IsAbsoluteName}
use Rattle.domain_rdata.specs.ReadBack.{StandsAt, ReadsBack}
use Rattle.domain_reading.specs.Touched.{ReadsFrom}
use Rattle.domain_compress.specs.Compressing.{RememberedLabel, Compresses, AddsCompressed, remembered_within}
use Rattle.domain_compress.specs.Standing.{AllRememberedStand}

-- For a name one list of octets is written, and one list of labels is spelled out.
abbrev pub WritesOneList : Type 0
WritesOneList =
    (t : List ℕ) (ws : List RememberedLabel) (ls a b : List (List ℕ)) (r s : List ℕ)
    → Compresses t ws ls a r → Compresses t ws ls b s → (a ≡ b) × (r ≡ s)

-- What is written is read back.
abbrev pub WrittenReadsBack : Type 0
WrittenReadsBack =
    (t : List ℕ) (ws : List RememberedLabel) (ls a : List (List ℕ)) (s : List ℕ)
    → IsAbsoluteName ls → Compresses t ws ls a s → ReadsBack t ls s

-- A name stands where it did after more octets.
abbrev pub StandsWithMore : Type 0
StandsWithMore = (t u : List ℕ) (p : ℕ) (ls : List (List ℕ)) → StandsAt t p ls → StandsAt (t ++ u) p ls

-- A name that stands in the first e octets stands in the first n, where these are no fewer.
abbrev pub StandsWhenCut : Type 0
StandsWhenCut =
    (t : List ℕ) (p e n : ℕ) (ls : List (List ℕ)) → StandsAt (take e t) p ls → e ≤ n → StandsAt (take n t) p ls

-- A name that is read from the octets at n and after alone stands where it did, whatever is written before n.
abbrev pub StandsWhenWrittenOver : Type 0
StandsWhenWrittenOver =
    (n : ℕ) (t o : List ℕ) (p : ℕ) (c ls : List (List ℕ))
    → ReadsFrom n t p c → drop n o ≡ drop n t → StandsAt t p ls → StandsAt o p ls

-- Where each remembered label stands in the octets at n and after, those of the next name do, too, and so does the
-- name.
abbrev pub AddedStands : Type 0
AddedStands =
    (n : ℕ) (t u : List ℕ) (ws vs : List RememberedLabel) (ls : List (List ℕ)) → IsAbsoluteName ls → n ≤ length t
    → AllRememberedStand n t ws → AddsCompressed t ws ls u vs
    → AllRememberedStand n u vs × ((c : List (List ℕ)) × ReadsFrom n u (length t) c)

-- There the next name stands where it was written, after more octets, and whatever is written before n.
abbrev pub AddedStays : Type 0
AddedStays =
    (n : ℕ) (t u v o : List ℕ) (ws vs : List RememberedLabel) (ls : List (List ℕ)) → IsAbsoluteName ls → n ≤ length t
    → AllRememberedStand n t ws → AddsCompressed t ws ls u vs → drop n o ≡ drop n (u ++ v) → StandsAt o (length t) ls

-- Remembered labels stand where they did after more octets;
abbrev pub RememberedStandWithMore : Type 0
RememberedStandWithMore =
    (n : ℕ) (t u : List ℕ) (ws : List RememberedLabel) → AllRememberedStand n t ws → AllRememberedStand n (t ++ u) ws

-- so do those that a cut leaves;
abbrev pub RememberedStandWhenCut : Type 0
RememberedStandWhenCut =
    (n e : ℕ) (t : List ℕ) (ws : List RememberedLabel)
    → AllRememberedStand n t ws → AllRememberedStand n (take e t) (remembered_within e ws)

-- and so do all, whatever is written before n.
abbrev pub RememberedStandWhenWrittenOver : Type 0
RememberedStandWhenWrittenOver =
    (n : ℕ) (t o : List ℕ) (ws : List RememberedLabel) → drop n o ≡ drop n t → length o ≡ length t
    → AllRememberedStand n t ws → AllRememberedStand n o ws
