-- Why octets are no name: the first reason from the left, but that too many octets come first.
use Rattle.std.specs.Prelude.{◌≡◌, ◌≢◌, ℕ, ◌<◌, ◌≤◌, ◌⊎◌, List, [], ◌∷◌, length, codes}
use Rattle.domain_label.specs.Wire.{wire}
use Rattle.domain_label.specs.Splitting.{SplitFault}
use Rattle.domain_label.specs.ErrorText.{split_refusal}
use Rattle.domain_label.specs.declared.split_error.SplitLabelError.{SplitLabelError}
use Rattle.domain_wire.specs.Refusals.{Refusal, form}
use Rattle.domain_label.specs.declared.split_error.SplitLabelError.TheVariants.{Pointer, BadType, ShortInput as MissingOctets}
use Rattle.domain_flat.specs.Flat.{LabelsBefore}
use Rattle.domain_flat.specs.declared.error.NameErrorKind.{NameErrorKind}
use Rattle.domain_flat.specs.declared.error.NameErrorKind.TheVariants as absolute
use Rattle.domain_flat.specs.declared.error.RelativeNameErrorKind.{RelativeNameErrorKind}
use Rattle.domain_flat.specs.declared.error.RelativeNameErrorKind.TheVariants as relative

-- After labels, none of them empty, the octets o go on, but with no whole label, and e says why.
abbrev pub LacksLabel : List ℕ → SplitLabelError → Type 0
LacksLabel o e =
    (fs : List (List ℕ)) × (rest : List ℕ) × LabelsBefore o fs rest × SplitFault rest e × (rest ≢ [])

-- After the labels fs no absolute name can go on with the octets rest.
abbrev pub AbsoluteFaultAt : List (List ℕ) → List ℕ → NameErrorKind → Type 0
AbsoluteFaultAt fs rest (absolute.BadLabel label_type) = SplitFault rest (BadType label_type)
AbsoluteFaultAt fs rest absolute.CompressedName = (offset : ℕ) × SplitFault rest (Pointer offset)
AbsoluteFaultAt fs rest absolute.ShortInput = SplitFault rest MissingOctets × ((fs ≡ []) ⊎ (rest ≢ []))
AbsoluteFaultAt fs rest absolute.RelativeName = (fs ≢ []) × (rest ≡ [])
AbsoluteFaultAt fs rest absolute.TrailingData = (c : ℕ) × (more : List ℕ) × (rest ≡ 0 ∷ c ∷ more)
AbsoluteFaultAt fs rest absolute.LongName = ⊥

-- The octets o are no absolute name, and why.
abbrev pub AbsoluteFault : List ℕ → NameErrorKind → Type 0
AbsoluteFault o absolute.LongName = 255 < length o
AbsoluteFault o kind = (length o ≤ 255) × ((fs : List (List ℕ)) × (rest : List ℕ) × LabelsBefore o fs rest × AbsoluteFaultAt fs rest kind)

-- After the labels fs no relative name can go on with the octets rest.
abbrev pub RelativeFaultAt : List ℕ → RelativeNameErrorKind → Type 0
RelativeFaultAt rest (relative.BadLabel label_type) = SplitFault rest (BadType label_type)
RelativeFaultAt rest relative.CompressedName = (offset : ℕ) × SplitFault rest (Pointer offset)
RelativeFaultAt rest relative.ShortInput = SplitFault rest MissingOctets × (rest ≢ [])
RelativeFaultAt rest relative.LongName = ⊥
RelativeFaultAt rest relative.AbsoluteName = (more : List ℕ) × (rest ≡ 0 ∷ more)

-- The octets o are no relative name, and why.
abbrev pub RelativeFault : List ℕ → RelativeNameErrorKind → Type 0
RelativeFault o relative.LongName = 254 < length o
RelativeFault o kind = (length o ≤ 254) × ((fs : List (List ℕ)) × (rest : List ℕ) × LabelsBefore o fs rest × RelativeFaultAt rest kind)

-- After the labels fs no name can go on with the octets rest: no label begins there, or a root that makes more than
-- 255 octets. This is the error for it.
abbrev pub StartFaultAt : List (List ℕ) → List ℕ → Refusal → Type 0
StartFaultAt fs rest r =
    ((e : SplitLabelError) × SplitFault rest e × (r ≡ split_refusal e))
    ⊎ ((more : List ℕ) × (rest ≡ 0 ∷ more) × (254 < length (wire fs)) × (r ≡ form (codes "long domain name")))

-- The octets o begin with no absolute name, whatever follows, and why.
abbrev pub StartFault : List ℕ → Refusal → Type 0
StartFault o r = (fs : List (List ℕ)) × (rest : List ℕ) × LabelsBefore o fs rest × StartFaultAt fs rest r

-- All octets have at most one such fault.
abbrev pub HaveOneFault : {K : Type 0} → (List ℕ → K → Type 0) → Type 0
HaveOneFault {K} Fault = (o : List ℕ) (j k : K) → Fault o j → Fault o k → j ≡ k

-- Octets that are such a name have no such fault.
abbrev pub HaveNoFault : {K : Type 0} → (List ℕ → Type 0) → (List ℕ → K → Type 0) → Type 0
HaveNoFault {K} IsSuch Fault = (o : List ℕ) (k : K) → IsSuch o → Fault o k → ⊥
