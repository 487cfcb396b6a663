-- What octets begin with (RFC 1035, 3.1 and 4.1.4).
use Rattle.std.specs.Prelude.{◌≡◌, ℕ, ◌+◌, ◌*◌, ◌<◌, ◌≤◌, ◌⊎◌, List, [], ◌∷◌, ◌++◌, length}
use denote.Bor.{Bor}
use Rattle.domain_label.specs.Labels.{label_octets}
use Rattle.domain_label.specs.Wire.{IsLabel}
use Rattle.domain_label.specs.declared.label.Label.{Label}
use Rattle.domain_label.specs.declared.split_error.SplitLabelError.{SplitLabelError}
use Rattle.domain_label.specs.declared.split_error.SplitLabelError.TheVariants.{Pointer, BadType, ShortInput}
use Rattle.domain_label.specs.declared.split_error.LabelTypeError.TheVariants.{Undefined, Extended}

-- The octets o begin with the label l, and rest is after it.
abbrev pub BeginsWithLabel : List ℕ → List ℕ → List ℕ → Type 0
BeginsWithLabel o l rest = IsLabel l × (o ≡ length l ∷ (l ++ rest))

-- They begin with a label.
abbrev pub HasFirstLabel : List ℕ → Type 0
HasFirstLabel o = (l : List ℕ) × (rest : List ℕ) × BeginsWithLabel o l rest

-- These are the label that they begin with, and the octets after it.
abbrev pub SplitsInto : List ℕ → Label × Bor (List ℕ) → Type 0
SplitsInto o parts = BeginsWithLabel o (label_octets parts.0) parts.1.now

-- No label begins with this first octet and the octets after it, and why: octets are missing, the first octet is that
-- of another type of label, or it begins a pointer. Its low 14 bits are an offset.
abbrev pub HeadFault : ℕ → List ℕ → SplitLabelError → Type 0
HeadFault head rest ShortInput = ((head ≤ 63) × (length rest < head)) ⊎ ((192 ≤ head) × (rest ≡ []))
HeadFault head rest (BadType (Extended value)) = (value ≡ head) × (64 ≤ head) × (head < 128)
HeadFault head rest (BadType Undefined) = (128 ≤ head) × (head < 192)
HeadFault head [] (Pointer offset) = ⊥
HeadFault head (low ∷ rest) (Pointer offset) = (192 ≤ head) × (offset + 192 * 256 ≡ head * 256 + low)

-- The octets begin with no whole label, and why.
abbrev pub SplitFault : List ℕ → SplitLabelError → Type 0
SplitFault [] e = e ≡ ShortInput
SplitFault (head ∷ rest) e = HeadFault head rest e
