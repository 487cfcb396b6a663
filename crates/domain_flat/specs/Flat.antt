-- Octets in wire format, read from the left (RFC 1035, 3.1).
use Rattle.std.specs.Prelude.{◌≡◌, ℕ, ◌+◌, ◌⊎◌, List, [], ◌∷◌, ◌++◌, length, drop, Option, MatchOption}
use denote.Bor.{Bor}
use Rattle.domain_label.specs.Wire.{wire, labels_in, IsLabel, IsRelative, IsAbsoluteName, IsWire}

-- how many octets the labels have on the wire, all length octets among them
abbrev pub wire_len : List (List ℕ) → ℕ
wire_len ls = length (wire ls)

-- o begins with the labels fs, none of them empty, and rest is after them.
pub record LabelsBefore (o : List ℕ) (fs : List (List ℕ)) (rest : List ℕ) : Type 0 where
  pub labels : IsRelative fs
  pub parts : o ≡ wire fs ++ rest

-- o begins with labels, none of them empty, and rest is after them: nothing, or from the root on.
abbrev pub IsAfterLabels : List ℕ → List ℕ → Type 0
IsAfterLabels o rest =
    ((fs : List (List ℕ)) × LabelsBefore o fs rest) × ((rest ≡ []) ⊎ ((more : List ℕ) × (rest ≡ 0 ∷ more)))

-- o begins with an absolute name of len octets.
abbrev pub BeginsWithNameOf : List ℕ → ℕ → Type 0
BeginsWithNameOf o len =
    (ls : List (List ℕ)) × (rest : List ℕ) × IsAbsoluteName ls × (o ≡ wire ls ++ rest) × (len ≡ length (wire ls))

-- If o begins with an absolute name, then P.
abbrev pub IfBeginsWithName : List ℕ → Type 0 → Type 0
IfBeginsWithName o P = (ls : List (List ℕ)) (rest : List ℕ) → IsAbsoluteName ls → o ≡ wire ls ++ rest → P

-- The name ls is at p in m without a pointer, and e is the offset after it.
pub record NameAt (m : List ℕ) (p : ℕ) (ls : List (List ℕ)) (e : ℕ) : Type 0 where
  pub name : IsAbsoluteName ls
  pub after : List ℕ
  pub octets : drop p m ≡ wire ls ++ after
  pub end : e ≡ p + length (wire ls)

-- The wire format o is a label l, and then the wire format r.
pub record HasFirst (o l r : List ℕ) : Type 0 where
  pub label : IsLabel l
  pub rest : IsWire r
  pub parts : labels_in o ≡ l ∷ labels_in r

-- The parts are the first label of the wire format o, and the wire format after it; none where o is empty.
abbrev pub IsFirstAndRest : List ℕ → Option (Bor (List ℕ) × Bor (List ℕ)) → Type 0
IsFirstAndRest o parts = MatchOption parts (o ≡ []) (λ it. HasFirst o it.0.now it.1.now)

-- The wire format o is the wire format r, and then a label l.
pub record HasLast (o r l : List ℕ) : Type 0 where
  pub label : IsLabel l
  pub rest : IsWire r
  pub parts : labels_in o ≡ labels_in r ++ l ∷ []

-- The parts are the wire format before the last label of the wire format o, and that label; none where o is empty.
abbrev pub IsFrontAndLast : List ℕ → Option (Bor (List ℕ) × Bor (List ℕ)) → Type 0
IsFrontAndLast o parts = MatchOption parts (o ≡ []) (λ it. HasLast o it.0.now it.1.now)

-- The list ls is xs, which has p octets on the wire, and then ys.
pub record SplitsAt (ls : List (List ℕ)) (p : ℕ) (xs ys : List (List ℕ)) : Type 0 where
  pub parts : ls ≡ xs ++ ys
  pub offset : length (wire xs) ≡ p

-- A label of ls begins at the offset p of the wire format.
abbrev pub IsLabelStart : List (List ℕ) → ℕ → Type 0
IsLabelStart ls p = (xs : List (List ℕ)) × (y : List ℕ) × (ys : List (List ℕ)) × SplitsAt ls p xs (y ∷ ys)

-- A label begins there, or the list ends there.
abbrev pub IsLabelEnd : List (List ℕ) → ℕ → Type 0
IsLabelEnd ls p = (xs : List (List ℕ)) × (ys : List (List ℕ)) × SplitsAt ls p xs ys

-- part is what ls has between the offsets p and q of its wire format.
abbrev pub IsPartOf : List (List ℕ) → ℕ → ℕ → List (List ℕ) → Type 0
IsPartOf ls p q part = (before : List (List ℕ)) × (after : List (List ℕ)) × SplitsAt ls p before (part ++ after) × (p + length (wire part) ≡ q)

-- rest is what ls has from the offset p of its wire format on.
abbrev pub IsRestFrom : List (List ℕ) → ℕ → List (List ℕ) → Type 0
IsRestFrom ls p rest = (before : List (List ℕ)) × SplitsAt ls p before rest

-- The list, the list without its first label, and so on to the last label alone.
abbrev pub suffix_lists : List (List ℕ) → List (List (List ℕ))
suffix_lists [] = []
suffix_lists (l ∷ ls) = (l ∷ ls) ∷ suffix_lists ls
