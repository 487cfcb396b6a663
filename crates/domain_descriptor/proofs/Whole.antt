-- Data that is whole has each of its fields.
use Rattle.std.proofs.Common.{◌≡◌, ◌∙◌, ◌↔◌, ℕ, zero, suc, ◌<◌, ◌≤◌, ◌-◌, Bool, false, List, [], ◌∷◌, length, take, get_or, inl, inr, sym, ap, subst, arith}
use Rattle.std.proofs.lemmas.List.{take_all}
use Rattle.domain_reading.proofs.Encodings.{front_inside}
use Rattle.domain_reading.proofs.NameOrFault.{names_or_fault}
use Rattle.domain_reading.specs.Faults.{NameFaultAt}
use Rattle.domain_reading.specs.Grammar.{Names, IsContiguous}
use Rattle.domain_reading.specs.ParseResult.{HasNoName}
use Rattle.domain_reading.specs.declared.fault.NameFault.{NameFault}
use Rattle.domain_wire.specs.Refusals.{Refusal}
use Rattle.domain_descriptor.specs.declared.fault.DataFault.{DataFault}
use Rattle.domain_descriptor.specs.declared.form.FieldForm.{FieldForm}
use Rattle.domain_descriptor.specs.declared.form.FieldForm.TheVariants as forms
use Rattle.domain_descriptor.specs.declared.kind.FieldKind.{FieldKind}
use Rattle.domain_descriptor.specs.declared.kind.FieldKind.TheVariants.{Number8, Name}
use Rattle.domain_descriptor.specs.Forms.{form}
use Rattle.domain_descriptor.specs.Fields.{NameAt, FormAt, FieldAt, FieldFault, FieldsAt, FieldsFault, AreData, AreNoData}
use Rattle.domain_descriptor.specs.Values.{width, size_of}
use Rattle.domain_descriptor.proofs.Exact.{data_or_fault}
use Rattle.domain_descriptor.proofs.Steps.{fault_after}

-- nothing is wrong with data
pub data_is_whole : (kinds known : List FieldKind) (m : List ℕ) (p : ℕ) → kinds ≡ known → AreData known m p → (why : DataFault) → AreNoData kinds m p why → ⊥
data_is_whole kinds known m p same at why fault = data_or_fault known m p why at (subst (λ ks. AreNoData ks m p why) same fault)

-- an error in the first fields is one in all
fault_before : (m : List ℕ) (p : ℕ) (kinds : List FieldKind) (i : ℕ) (why : DataFault) → FieldsFault (take i kinds) m p why → FieldsFault kinds m p why
fault_before m p [] zero why fault = absurd fault
fault_before m p [] (suc i) why fault = absurd fault
fault_before m p (k ∷ kinds) zero why fault = absurd fault
fault_before m p (k ∷ kinds) (suc i) why (inl fault) = inl fault
fault_before m p (k ∷ kinds) (suc i) why (inr (q, at, fault)) = inr (q, at, fault_before m q kinds i why fault)

-- so there is none in the first fields
pub no_fault_before : (kinds : List FieldKind) (m : List ℕ) (p i : ℕ) (why : DataFault) → ((w : DataFault) → AreNoData kinds m p w → ⊥) → FieldsFault (take i kinds) m p why → ⊥
no_fault_before kinds m p i why whole fault = whole why (inl (fault_before m p kinds i why fault))

-- nor in the next
pub no_fault_at : (kinds : List FieldKind) (m : List ℕ) (p i q : ℕ) (why : DataFault) → ((w : DataFault) → AreNoData kinds m p w → ⊥) → i < length kinds → FieldsAt (take i kinds) m p q → FieldFault (get_or kinds i Number8) m q why → ⊥
no_fault_at kinds m p i q why whole inside before fault = whole why (inl (fault_after m p kinds i q why inside before fault))

optional_inside : (m : List ℕ) (p e : ℕ) → FormAt forms.OptionalCounted m p e → p ≤ e
optional_inside m p e (inl a) = omega (arith, a.1)
optional_inside m p e (inr a) = omega (arith, a.1)

form_inside : (it : FieldForm) (m : List ℕ) (p e : ℕ) → p ≤ length m → FormAt it m p e → p ≤ e
form_inside (forms.Fixed n) m p e inside at = omega (arith, at.0)
form_inside forms.Name m p e inside at = front_inside at.1.2
form_inside forms.Counted m p e inside at = omega (arith, at.1)
form_inside forms.OptionalCounted m p e inside at = optional_inside m p e at
form_inside forms.SomeCounted m p e inside at = omega (arith, at.0.1)
form_inside forms.Strings m p e inside at = omega (arith, inside, at.0)
form_inside forms.Tag m p e inside at = omega (arith, at.0.1)
form_inside forms.LongCounted m p e inside at = omega (arith, at.1)
form_inside forms.Blocks m p e inside at = omega (arith, inside, at.0)
form_inside forms.OptionalBlocks m p e inside at = omega (arith, inside, at.0)
form_inside forms.Params m p e inside at = omega (arith, inside, at.0)
form_inside forms.Rest m p e inside at = at.1

-- a field begins before it ends
pub field_inside : (kind : FieldKind) (m : List ℕ) (p e : ℕ) → p ≤ length m → FieldAt kind m p e → p ≤ e
field_inside kind m p e inside at = form_inside (form kind) m p e inside at

width_inside : (it : FieldForm) (m : List ℕ) (p e : ℕ) → FormAt it m p e → width it ≤ e - p
width_inside (forms.Fixed n) m p e at = omega (arith, at.0)
width_inside forms.Name m p e at = omega arith
width_inside forms.Counted m p e at = omega arith
width_inside forms.OptionalCounted m p e at = omega arith
width_inside forms.SomeCounted m p e at = omega arith
width_inside forms.Strings m p e at = omega arith
width_inside forms.Tag m p e at = omega arith
width_inside forms.LongCounted m p e at = omega arith
width_inside forms.Blocks m p e at = omega arith
width_inside forms.OptionalBlocks m p e at = omega arith
width_inside forms.Params m p e at = omega arith
width_inside forms.Rest m p e at = omega arith

-- a field has as many octets as its kind has at least
pub size_inside : (kind : FieldKind) (m : List ℕ) (p e : ℕ) → FieldAt kind m p e → size_of kind ≤ e - p
size_inside kind m p e at = width_inside (form kind) m p e at

-- where a name is, there is no error
pub names_here : (kind : FieldKind) (m : List ℕ) (p e : ℕ) → FieldAt kind m p e → kind ≡ Name → (f : NameFault) → NameFaultAt 255 m p f → ⊥
names_here kind m p e at is f fault =
    let named : NameAt m p e = subst (λ k. FieldAt k m p e) is at in
    names_or_fault named.0.1 fault

-- a parser over all octets reads what is in them
pub named_here : (m o : List ℕ) (p q : ℕ) (ls : List (List ℕ)) → o ≡ take (length m) m → q ≡ p → Names 255 o q ls → Names 255 m p ls
named_here m o p q ls same is named =
    let all : o ≡ m = same ∙ take_all (length m) m (omega arith) in
    subst (λ x. Names 255 m x ls) is (subst (λ x. Names 255 x q ls) all named)

pub contiguous_here : (m o : List ℕ) (p q : ℕ) (c : Bool) → o ≡ take (length m) m → q ≡ p → ((c ≡ false) ↔ IsContiguous o q) → (c ≡ false) ↔ IsContiguous m p
contiguous_here m o p q c same is told =
    let all : o ≡ m = same ∙ take_all (length m) m (omega arith) in
    subst (λ x. (c ≡ false) ↔ IsContiguous m x) is (subst (λ x. (c ≡ false) ↔ IsContiguous x q) all told)

pub fault_here : (m o : List ℕ) (p q : ℕ) (r : Refusal) → o ≡ take (length m) m → q ≡ p → HasNoName 255 o q r → (f : NameFault) × NameFaultAt 255 m p f
fault_here m o p q r same is none =
    let all : o ≡ m = same ∙ take_all (length m) m (omega arith) in
    (none.0, subst (λ x. NameFaultAt 255 m x none.0) is (subst (λ x. NameFaultAt 255 x q none.0) all none.2))

pub no_name_fault : (kind : FieldKind) (m : List ℕ) (p : ℕ) → (kind ≡ Name → (f : NameFault) → NameFaultAt 255 m p f → ⊥) → kind ≡ Name → (f : NameFault) × NameFaultAt 255 m p f → ⊥
no_name_fault kind m p named is fault = named is fault.0 fault.1

-- there is the first of fields that are left
pub no_first_fault : (kinds : List FieldKind) (kind : FieldKind) (others : List FieldKind) (m : List ℕ) (p : ℕ) (why : DataFault) → kinds ≡ kind ∷ others → ((w : DataFault) → AreNoData kinds m p w → ⊥) → FieldFault kind m p why → ⊥
no_first_fault kinds kind others m p why first whole fault = whole why (subst (λ ks. AreNoData ks m p why) (sym first) (inl (inl fault)))

-- and after it there are the others
after_first : (kind : FieldKind) (others : List FieldKind) (m : List ℕ) (p e : ℕ) (why : DataFault) → ((w : DataFault) → AreNoData (kind ∷ others) m p w → ⊥) → FieldAt kind m p e → AreNoData others m e why → ⊥
after_first kind others m p e why whole at (inl fault) = whole why (inl (inr (e, at, fault)))
after_first kind others m p e why whole at (inr (is, (q, rest, less))) = whole why (inr (is, (q, (e, at, rest), less)))

pub others_whole : (kinds : List FieldKind) (kind : FieldKind) (others : List FieldKind) (m : List ℕ) (p e : ℕ) → kinds ≡ kind ∷ others → ((w : DataFault) → AreNoData kinds m p w → ⊥) → FieldAt kind m p e → (why : DataFault) → AreNoData others m e why → ⊥
others_whole kinds kind others m p e first whole at why fault =
    let all : (w : DataFault) → AreNoData (kind ∷ others) m p w → ⊥ = λ w no. whole w (subst (λ ks. AreNoData ks m p w) (sym first) no) in
    after_first kind others m p e why all at fault

-- what is left is one field less
pub one_less : (kinds : List FieldKind) (kind : FieldKind) (others : List FieldKind) → kinds ≡ kind ∷ others → length others < length kinds
one_less kinds kind others first = omega (arith, ap (λ (ks : List FieldKind). length ks) first)
