-- Labels one after another in octets, where pointers lead on (RFC 1035, 3.1 and 4.1.4).
use Rattle.std.specs.Prelude.{ℕ, zero, suc, ◌+◌, ◌-◌, ◌*◌, List, [], ◌∷◌, length, take, drop, ⊤, if◌then◌else◌, nat_lt, nat_le}

-- What a first octet means. A label that isn't the root is given, and reading goes on at an offset. The root is given,
-- and is the last. A pointer is followed to an offset. Anything else ends the labels.
pub data Step : Type 0 where
  past_label : List ℕ → ℕ → Step
  at_root : Step
  at_pointer : ℕ → Step
  at_end : Step

-- A first octet from 0 to 63 at the offset p, and the octets after it: a label, where it is whole.
abbrev pub label_step : ℕ → ℕ → List ℕ → Step
label_step p zero rest = at_root
label_step p (suc len) rest =
    if nat_lt (length rest) (suc len) then at_end else past_label (take (suc len) rest) (p + (suc len + 1))

-- A first octet from 192 on at the offset p, and the octets after it: a pointer to its low 14 bits. It is followed
-- where it is whole and leads to its own offset or before.
abbrev pub pointer_step : ℕ → ℕ → List ℕ → Step
pointer_step p head [] = at_end
pointer_step p head (octet ∷ rest) =
    let offset = (head - 192) * 256 + octet in if nat_le offset p then at_pointer offset else at_end

-- The octets from the offset p on.
abbrev pub step_of : ℕ → List ℕ → Step
step_of p [] = at_end
step_of p (head ∷ rest) =
    if nat_lt head 64 then label_step p head rest else
    (if nat_lt head 192 then at_end else pointer_step p head rest)

-- the step from the offset p of the slice
abbrev pub step_at : List ℕ → ℕ → Step
step_at s p = step_of p (drop p s)

-- The labels of a step, and then those that come from where it goes on.
abbrev pub labels_past : Step → (ℕ → List (List ℕ)) → List (List ℕ)
labels_past (past_label l next) from = l ∷ from next
labels_past at_root from = [] ∷ []
labels_past (at_pointer offset) from = from offset
labels_past at_end from = []

-- The labels among the first n labels and pointers from the offset p of s.
abbrev pub slice_walk : List ℕ → ℕ → ℕ → List (List ℕ)
slice_walk s p zero = []
slice_walk s p (suc n) = labels_past (step_at s p) (λ q. slice_walk s q n)

-- What holds where the labels go on, and nothing where they end.
abbrev pub WherePast : Step → (ℕ → Type 0) → Type 0
WherePast (past_label l next) P = P next
WherePast at_root P = ⊤
WherePast (at_pointer offset) P = P offset
WherePast at_end P = ⊤

-- The labels from the offset p of s end within n labels and pointers.
abbrev pub WalkEnds : List ℕ → ℕ → ℕ → Type 0
WalkEnds s p zero = ⊥
WalkEnds s p (suc n) = WherePast (step_at s p) (λ q. WalkEnds s q n)
