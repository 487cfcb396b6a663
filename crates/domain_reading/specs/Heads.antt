-- What is at an offset of a message: the root, another label, or a pointer.
use Rattle.std.specs.Prelude.{◌≡◌, ℕ, ◌<◌, ◌^◌, List, length}
use Rattle.domain_reading.specs.Grammar.{OctetAt, LabelAt, PointerAt}
use Rattle.domain_reading.specs.Faults.{EndsTooEarly, BadTypeAt}
use Rattle.domain_reading.specs.declared.fault.NameFault.{NameFault}
use Rattle.domain_reading.specs.declared.fault.NameFault.TheVariants.{ShortInput, BadLabelType, TooManyPointers, LongName}
use Rattle.domain_reading.specs.declared.head.Head.{Head}
use Rattle.domain_reading.specs.declared.head.Head.TheVariants.{Root, Label, Pointer}

-- This is at r.
abbrev pub IsHeadAt : List ℕ → ℕ → Head → Type 0
IsHeadAt m r Root = OctetAt m r 0
IsHeadAt m r (Label n) = (l : List ℕ) × (length l ≡ n) × LabelAt m r l
IsHeadAt m r (Pointer q) = PointerAt m r q × (q < 2 ^ 14)

-- No label and no pointer can be read at r, and why.
abbrev pub BrokenAt : List ℕ → ℕ → NameFault → Type 0
BrokenAt m r ShortInput = EndsTooEarly m r
BrokenAt m r BadLabelType = BadTypeAt m r
BrokenAt m r TooManyPointers = ⊥
BrokenAt m r LongName = ⊥
