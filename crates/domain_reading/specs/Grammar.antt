-- Names in a message, with compression pointers (RFC 1035, 4.1.4). `m` is the message: the list of its octets.
use Rattle.std.specs.Prelude.{◌≡◌, ℕ, suc, ◌+◌, ◌*◌, ◌≤◌, ◌<◌, List, [], ◌∷◌, ◌++◌, length, slice_index, slice_range}
use Rattle.domain_label.specs.Wire.{wire, Root}
use Rattle.domain_reading.specs.Limits.{max_name}

-- The octet o is at p.
pub record OctetAt (m : List ℕ) (p o : ℕ) : Type 0 where
  pub inside : p < length m
  pub octet : slice_index m p ≡ o

-- A whole label is at p, and it isn't the root: its length, 1 to 63, and that many octets.
pub record LabelAt (m : List ℕ) (p : ℕ) (l : List ℕ) : Type 0 where
  pub nonempty : 0 < length l
  pub short : length l < 64
  pub head : slice_index m p ≡ length l
  pub inside : p + 1 + length l ≤ length m
  pub octets : slice_range m (p + 1) (p + 1 + length l) ≡ l

-- A whole pointer to q is at p: two octets, the two high bits ones, the other 14 the offset.
pub record PointerAt (m : List ℕ) (p q : ℕ) : Type 0 where
  pub inside : p + 1 < length m
  pub head : 192 ≤ slice_index m p
  pub target : q + 49152 ≡ 256 * slice_index m p + slice_index m (p + 1)

-- The labels ls are read at p, through k pointers. Each pointer leads to an offset before its own.
pub data Reads (m : List ℕ) : ℕ → ℕ → List (List ℕ) → Type 0 where
  root : {p : ℕ} → OctetAt m p 0 → Reads m p 0 Root
  label : {p k : ℕ} {l : List ℕ} {rest : List (List ℕ)} → LabelAt m p l → Reads m (p + 1 + length l) k rest → Reads m p k (l ∷ rest)
  pointer : {p q k : ℕ} {ls : List (List ℕ)} → PointerAt m p q → q < p → Reads m q k ls → Reads m p (suc k) ls

-- The name at p is ls: it is read through at most n pointers, and it has at most 255 octets (RFC 1035, 3.1).
pub record Names (n : ℕ) (m : List ℕ) (p : ℕ) (ls : List (List ℕ)) : Type 0 where
  pub pointers : ℕ
  pub reads : Reads m p pointers ls
  pub few_pointers : pointers ≤ n
  pub short : length (wire ls) ≤ max_name

-- A name of at most n pointers is at p.
abbrev pub HasNameWithin : ℕ → List ℕ → ℕ → Type 0
HasNameWithin n m p = (ls : List (List ℕ)) × Names n m p ls

-- The labels fs are at the octets from p to r, one after the other, with no pointer between them.
abbrev pub LabelRun : List ℕ → ℕ → List (List ℕ) → ℕ → Type 0
LabelRun m p [] r = p ≡ r
LabelRun m p (l ∷ fs) r = LabelAt m p l × LabelRun m (p + 1 + length l) fs r

-- What ends the encoding of a name.
pub data Stop : Type 0 where
  root : Stop
  pointer : ℕ → Stop

-- The root or a whole pointer is at r, and e is the offset after it.
abbrev pub StopAt : List ℕ → ℕ → Stop → ℕ → Type 0
StopAt m r root e = OctetAt m r 0 × (e ≡ r + 1)
StopAt m r (pointer q) e = PointerAt m r q × (e ≡ r + 2)

-- The encoding of the name at p: the labels fs, then the first root or pointer c, and e is the offset after it.
pub record Encoding (m : List ℕ) (p : ℕ) (fs : List (List ℕ)) (c : Stop) (e : ℕ) : Type 0 where
  pub stop : ℕ
  pub run : LabelRun m p fs stop
  pub ends : StopAt m stop c e

-- At most one encoding is at p.
abbrev pub HasOneEncoding : List ℕ → ℕ → Type 0
HasOneEncoding m p =
    (xs ys : List (List ℕ)) (c d : Stop) (e f : ℕ) → Encoding m p xs c e → Encoding m p ys d f
    → (xs ≡ ys) × (c ≡ d) × (e ≡ f)

-- Between the octets t and u the octets s are an encoding that ends in the root.
abbrev pub IsPlainEncoding : List ℕ → List ℕ → List ℕ → Type 0
IsPlainEncoding t s u =
    (fs : List (List ℕ)) × Encoding (t ++ s ++ u) (length t) fs root (length t + length s)

-- The encoding of the name at p ends before e.
abbrev pub EncodingEnds : List ℕ → ℕ → ℕ → Type 0
EncodingEnds m p e = (fs : List (List ℕ)) × (c : Stop) × Encoding m p fs c e

-- The offset of the first label of the name at p, after its pointers at the beginning: no pointer to an earlier
-- offset is there.
pub data FirstLabelAt (m : List ℕ) : ℕ → ℕ → Type 0 where
  here : {p : ℕ} → ((q : ℕ) → PointerAt m p q → p ≤ q) → FirstLabelAt m p p
  past : {p q b : ℕ} → PointerAt m p q → q < p → FirstLabelAt m q b → FirstLabelAt m p b

-- From its first label on the name is uncompressed: its encoding there ends in the root.
abbrev pub IsContiguous : List ℕ → ℕ → Type 0
IsContiguous m p = (b : ℕ) × (fs : List (List ℕ)) × (e : ℕ) × FirstLabelAt m p b × Encoding m b fs root e
