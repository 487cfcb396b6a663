-- Labels, lists of labels, and how they are encoded on the wire.
use Rattle.std.specs.Prelude.{◌≡◌, ℕ, zero, suc, ◌≤◌, List, [], ◌∷◌, ◌++◌, length, take, drop, ⊤, ◌⊎◌}

-- A label has at most 63 octets (RFC 1035, 3.1).
abbrev pub IsLabel : List ℕ → Type 0
IsLabel l = length l ≤ 63

-- Each label as one octet with its length, and then that many octets (RFC 1035, 3.1).
abbrev pub wire : List (List ℕ) → List ℕ
wire [] = []
wire (l ∷ ls) = length l ∷ (l ++ wire ls)

-- One label alone.
abbrev pub wire_label : List ℕ → List ℕ
wire_label l = length l ∷ l

-- The root is the empty label alone.
abbrev pub Root : List (List ℕ)
Root = [] ∷ []

-- Labels that are not empty, and then the root.
abbrev pub IsAbsolute : List (List ℕ) → Type 0
IsAbsolute [] = ⊥
IsAbsolute ([] ∷ ls) = ls ≡ []
IsAbsolute ((c ∷ l) ∷ ls) = IsLabel (c ∷ l) × IsAbsolute ls

-- Labels that are not empty.
abbrev pub IsRelative : List (List ℕ) → Type 0
IsRelative [] = ⊤
IsRelative ([] ∷ ls) = ⊥
IsRelative ((c ∷ l) ∷ ls) = IsLabel (c ∷ l) × IsRelative ls

-- The list of an absolute name: at most 255 octets with all length octets (RFC 1035, 3.1).
abbrev pub IsAbsoluteName : List (List ℕ) → Type 0
IsAbsoluteName ls = IsAbsolute ls × (length (wire ls) ≤ 255)

-- The list of a relative name: one octet is left for a root.
abbrev pub IsRelativeName : List (List ℕ) → Type 0
IsRelativeName ls = IsRelative ls × (length (wire ls) ≤ 254)

-- The list of an absolute or a relative name.
abbrev pub IsName : List (List ℕ) → Type 0
IsName ls = IsAbsoluteName ls ⊎ IsRelativeName ls

-- The labels at the first n length octets of o.
abbrev pub cut : ℕ → List ℕ → List (List ℕ)
cut zero o = []
cut (suc n) [] = []
cut (suc n) (len ∷ o) = take len o ∷ cut n (drop len o)

-- The labels that o encodes, where it is a wire format: `labels_in (wire ls) ≡ ls`.
abbrev pub labels_in : List ℕ → List (List ℕ)
labels_in o = cut (length o) o

-- Each is a label.
abbrev pub AreLabels : List (List ℕ) → Type 0
AreLabels [] = ⊤
AreLabels (l ∷ ls) = IsLabel l × AreLabels ls

-- o is the wire format of the labels that it encodes, and of no other list.
abbrev pub IsWire : List ℕ → Type 0
IsWire o = (wire (labels_in o) ≡ o) × AreLabels (labels_in o)

-- o is the wire format of an absolute name.
abbrev pub IsAbsoluteWire : List ℕ → Type 0
IsAbsoluteWire o = (wire (labels_in o) ≡ o) × IsAbsoluteName (labels_in o)

-- o is the wire format of a relative name.
abbrev pub IsRelativeWire : List ℕ → Type 0
IsRelativeWire o = (wire (labels_in o) ≡ o) × IsRelativeName (labels_in o)
