-- How names are compressed (RFC 1035, 4.1.4). `t` is the list of the octets that were composed.
use Rattle.std.specs.Prelude.{◌≡◌, ℕ, ◌+◌, ◌/◌, ◌%◌, ◌<◌, ◌⊎◌, List, [], ◌∷◌, ◌++◌, length, take, filter, nat_lt, nat_le, if◌then◌else◌, ⊤}
use Rattle.domain_label.specs.Wire.{wire}
use Rattle.domain_rdata.specs.ReadBack.{StandsAt}

-- An offset at which a label was written, and the end of the name that it was written for.
pub record RememberedLabel : Type 0 where
  pub at : ℕ
  pub end : ℕ

-- The two octets of a pointer to p.
abbrev pub pointer_to : ℕ → List ℕ
pointer_to p = (192 + p / 256) ∷ p % 256 ∷ []

-- A name that equals b without case stands at none of the offsets.
abbrev pub NoneRemembered : List ℕ → List RememberedLabel → List (List ℕ) → Type 0
NoneRemembered t [] b = ⊤
NoneRemembered t (w ∷ ws) b = (StandsAt t w.at b → ⊥) × NoneRemembered t ws b

-- Such a name stands at p, the first such one of the offsets.
abbrev pub FirstRemembered : List ℕ → List RememberedLabel → List (List ℕ) → ℕ → Type 0
FirstRemembered t [] b p = ⊥
FirstRemembered t (w ∷ ws) b p = (StandsAt t w.at b × (p ≡ w.at)) ⊎ ((StandsAt t w.at b → ⊥) × FirstRemembered t ws b p)

-- ls is a and then b, which isn't the root alone. b is the longest suffix of ls that stands at one of the offsets,
-- and p is the first of these.
pub record LongestSuffix (t : List ℕ) (ws : List RememberedLabel) (ls a b : List (List ℕ)) (p : ℕ) : Type 0 where
  pub parts : ls ≡ a ++ b
  pub more : 1 < length b
  pub offset : FirstRemembered t ws b p
  pub longest : (xs ys : List (List ℕ)) → ls ≡ xs ++ ys → length xs < length a → NoneRemembered t ws ys

-- No suffix of ls but the root stands at any of the offsets.
abbrev pub NoSuffix : List ℕ → List RememberedLabel → List (List ℕ) → Type 0
NoSuffix t ws ls = (xs ys : List (List ℕ)) → ls ≡ xs ++ ys → 1 < length ys → NoneRemembered t ws ys

-- After t, a and a pointer to p are read as a name that equals ls without case.
abbrev pub IsRead : List ℕ → List (List ℕ) → List (List ℕ) → ℕ → Type 0
IsRead t ls a p = StandsAt (t ++ (wire a ++ pointer_to p)) (length t) ls

-- What is written after t for the name ls: the labels, and all octets.
pub data Compresses (t : List ℕ) (ws : List RememberedLabel) (ls : List (List ℕ)) : List (List ℕ) → List ℕ → Type 0 where
  pointer : {a b : List (List ℕ)} {p : ℕ} → LongestSuffix t ws ls a b p → IsRead t ls a p → Compresses t ws ls a (wire a ++ pointer_to p)
  flat : NoSuffix t ws ls → Compresses t ws ls ls (wire ls)
  unread : {a b : List (List ℕ)} {p : ℕ} → LongestSuffix t ws ls a b p → (IsRead t ls a p → ⊥) → Compresses t ws ls ls (wire ls)

-- The offsets of these labels, the root left out, from the offset p on; a pointer leads to offsets below 16,384
-- only.
abbrev pub remembered_from : ℕ → ℕ → List (List ℕ) → List RememberedLabel
remembered_from p end [] = []
remembered_from p end (l ∷ ls) =
    if nat_lt 0 (length l) then (if nat_lt p 16384 then record { at = p; end = end } ∷ remembered_from (p + 1 + length l) end ls else []) else []

-- The offsets ws, and those of these labels, which were written from p on for a name that ends at `end`, up to 128 in
-- all.
abbrev pub remembered_too : List RememberedLabel → ℕ → ℕ → List (List ℕ) → List RememberedLabel
remembered_too ws p end labels = take 128 (ws ++ remembered_from p end labels)

-- The offsets ws, and those of the labels that were written after t.
abbrev pub more_remembered : List RememberedLabel → List ℕ → List (List ℕ) → List ℕ → List RememberedLabel
more_remembered ws t labels s = remembered_too ws (length t) (length t + length s) labels

-- The offsets of names that end within the first n octets.
abbrev pub remembered_within : ℕ → List RememberedLabel → List RememberedLabel
remembered_within n = filter (λ w. nat_le w.end n)

-- The octets t and the offsets ws become t' and ws': the name ls was written.
pub record AddsCompressed (t : List ℕ) (ws : List RememberedLabel) (ls : List (List ℕ)) (t' : List ℕ) (ws' : List RememberedLabel) : Type 0 where
  pub labels : List (List ℕ)
  pub octets : List ℕ
  pub compresses : Compresses t ws ls labels octets
  pub all : t' ≡ t ++ octets
  pub offsets : ws' ≡ more_remembered ws t labels octets
