-- Why no name can be read or skipped at an offset (RFC 1035, 4.1.4).
use Rattle.std.specs.Prelude.{◌≡◌, ℕ, suc, ◌+◌, ◌≤◌, ◌<◌, ◌⊎◌, List, [], ◌∷◌, ◌++◌, length, slice_index, codes}
use Rattle.domain_wire.specs.Refusals.{Refusal, short_input, form}
use Rattle.domain_label.specs.Wire.{wire}
use Rattle.domain_reading.specs.Limits.{max_name, max_before_root}
use Rattle.domain_reading.specs.Grammar.{OctetAt, LabelAt, PointerAt, LabelRun, Encoding, Stop, root, pointer}
use Rattle.domain_reading.specs.declared.fault.NameFault.{NameFault}
use Rattle.domain_reading.specs.declared.fault.NameFault.TheVariants.{ShortInput, BadLabelType, TooManyPointers, LongName}

-- The error that is returned for each.
abbrev pub error_of : NameFault → Refusal
error_of ShortInput = short_input
error_of BadLabelType = form (codes "invalid label type")
error_of TooManyPointers = form (codes "too many compression pointers")
error_of LongName = form (codes "long domain name")

-- From p on the labels fs and k of at most n pointers were read, and the next label or pointer is at r.
pub data Followed (n : ℕ) (m : List ℕ) (p : ℕ) : ℕ → List (List ℕ) → ℕ → Type 0 where
  start : Followed n m p 0 [] p
  past_label : {k r : ℕ} {fs : List (List ℕ)} {l : List ℕ} → Followed n m p k fs r → LabelAt m r l → length (wire fs) + 1 + length l ≤ max_before_root → Followed n m p k (fs ++ l ∷ []) (r + 1 + length l)
  past_pointer : {k r q : ℕ} {fs : List (List ℕ)} → Followed n m p k fs r → PointerAt m r q → q < r → k < n → Followed n m p (suc k) fs q

-- The first octet at r, the second octet of a pointer or an octet of a label is at or after the end.
abbrev pub EndsTooEarly : List ℕ → ℕ → Type 0
EndsTooEarly m r = (length m ≤ r) ⊎ ((length m ≤ r + 1) × (192 ≤ slice_index m r)) ⊎ ((slice_index m r < 64) × (length m < r + 1 + slice_index m r))

-- The octet at r is the first of neither a label nor a pointer.
abbrev pub BadTypeAt : List ℕ → ℕ → Type 0
BadTypeAt m r = (r < length m) × (64 ≤ slice_index m r) × (slice_index m r < 192)

-- After the labels fs and k of at most n pointers the next label or pointer, at r, can't be read, and why.
abbrev pub StepFaultAt : ℕ → List ℕ → ℕ → List (List ℕ) → ℕ → NameFault → Type 0
StepFaultAt n m k fs r ShortInput = EndsTooEarly m r
StepFaultAt n m k fs r BadLabelType = BadTypeAt m r
StepFaultAt n m k fs r TooManyPointers = (q : ℕ) × PointerAt m r q × ((r ≤ q) ⊎ (k ≡ n))
StepFaultAt n m k fs r LongName = (l : List ℕ) × LabelAt m r l × (max_before_root < length (wire fs) + 1 + length l)

-- No name of at most n pointers is at p, and why: from p on labels and pointers can be read up to one that can't.
pub record NameFaultAt (n : ℕ) (m : List ℕ) (p : ℕ) (fault : NameFault) : Type 0 where
  pub pointers : ℕ
  pub passed : List (List ℕ)
  pub stopped : ℕ
  pub walk : Followed n m p pointers passed stopped
  pub at : StepFaultAt n m pointers passed stopped fault

-- Two errors are the same, after as many pointers and the same labels.
abbrev pub AreSameFault : {n : ℕ} {m : List ℕ} {p : ℕ} {d e : NameFault} → NameFaultAt n m p d → NameFaultAt n m p e → Type 0
AreSameFault {d = d} {e} f g = (d ≡ e) × (f.pointers ≡ g.pointers) × (f.passed ≡ g.passed)

-- There is at most one, after one list of labels and one number of pointers.
abbrev pub HasOneFault : ℕ → List ℕ → ℕ → Type 0
HasOneFault n m p = (d e : NameFault) (f : NameFaultAt n m p d) (g : NameFaultAt n m p e) → AreSameFault f g

-- There is an error for the name at p.
abbrev pub HasFault : ℕ → List ℕ → ℕ → Type 0
HasFault n m p = (e : NameFault) × NameFaultAt n m p e

-- How many octets the end of an encoding counts: one for the root, none for a pointer.
abbrev pub stop_len : Stop → ℕ
stop_len root = 1
stop_len (pointer q) = 0

-- At p is an encoding of at most 255 octets, the root included and a pointer left out, and e is the offset after it.
pub record Skips (m : List ℕ) (p e : ℕ) : Type 0 where
  pub passed : List (List ℕ)
  pub stop : Stop
  pub front : Encoding m p passed stop e
  pub short : length (wire passed) + stop_len stop ≤ max_name

-- Such an encoding is at p.
abbrev pub HasSkip : List ℕ → ℕ → Type 0
HasSkip m p = (e : ℕ) × Skips m p e

-- The labels fs were skipped, but what comes next, at r, can't be, and why.
abbrev pub SkipFaultAt : List ℕ → List (List ℕ) → ℕ → NameFault → Type 0
SkipFaultAt m fs r ShortInput = EndsTooEarly m r
SkipFaultAt m fs r BadLabelType = BadTypeAt m r
SkipFaultAt m fs r TooManyPointers = ⊥
SkipFaultAt m fs r LongName = (OctetAt m r 0 × (max_name ≤ length (wire fs))) ⊎ ((l : List ℕ) × LabelAt m r l × (max_name < length (wire fs) + 1 + length l))

-- No name can be skipped at p, and why.
pub record SkipFault (m : List ℕ) (p : ℕ) (fault : NameFault) : Type 0 where
  pub passed : List (List ℕ)
  pub stopped : ℕ
  pub run : LabelRun m p passed stopped
  pub short : length (wire passed) ≤ max_name
  pub at : SkipFaultAt m passed stopped fault

-- There is an error for skipping one at p.
abbrev pub HasSkipFault : List ℕ → ℕ → Type 0
HasSkipFault m p = (d : NameFault) × SkipFault m p d
