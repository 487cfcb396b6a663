-- Octets that aren't data have one first error. That an error and a field exclude one another is in
-- domain_descriptor/proofs/Exact.antt.
use Rattle.std.specs.Prelude.{◌≡◌, ◌⊎◌, ℕ, ◌+◌, ◌<◌, ◌≤◌, List, [], ◌∷◌, length, slice_index}
use Rattle.std.proofs.Common.{◌∙◌, sym, ap, subst, inl, inr, arith}
use Rattle.domain_header.specs.Numbers.{number16}
use Rattle.domain_reading.proofs.NameOrFault.{one_fault}
use Rattle.domain_reading.specs.declared.fault.NameFault.{NameFault}
use Rattle.domain_descriptor.proofs.Exact.{form_once, form_or_fault, fields_or_fault}
use Rattle.domain_descriptor.specs.Fields.{BlockAt, BlockFault, BlocksFault, ParamAt, ParamFault, ParamsFault, SomeCountedFault, TagFault, NoNameAt, FormFault, FieldsFault, AreNoData}
use Rattle.domain_descriptor.specs.Fields.BlocksFault.{here as block_here, later as block_later}
use Rattle.domain_descriptor.specs.Fields.ParamsFault.{here as param_here, later as param_later}
use Rattle.domain_descriptor.specs.Forms.{form}
use Rattle.domain_descriptor.specs.declared.fault.DataFault.{DataFault}
use Rattle.domain_descriptor.specs.declared.fault.DataFault.TheVariants as faults
use Rattle.domain_descriptor.specs.declared.form.FieldForm.{FieldForm}
use Rattle.domain_descriptor.specs.declared.form.FieldForm.TheVariants as forms
use Rattle.domain_descriptor.specs.declared.kind.FieldKind.{FieldKind}
use Rattle.domain_any_rdata.specs.Whole.{form_whole}

-- ---- blocks
bad_length : (n : ℕ) → 1 ≤ n → n ≤ 32 → (n < 1) ⊎ (32 < n) → ⊥
bad_length n some few (inl none) = omega (arith, some, none)
bad_length n some few (inr many) = omega (arith, few, many)

block_or_fault : (m : List ℕ) (p least e : ℕ) (why : DataFault) → BlockAt m p least e → BlockFault m p least why → ⊥
block_or_fault m p least e why a (inl b) = omega (arith, a.0, b.1)
block_or_fault m p least e why a (inr (inl b)) = omega (arith, a.1, b.2)
block_or_fault m p least e why a (inr (inr (inl b))) = bad_length (slice_index m (p + 1)) a.2 a.3 b.3
block_or_fault m p least e why a (inr (inr (inr b))) = omega (arith, a.4, a.5, b.5)

block_once : (m : List ℕ) (p least : ℕ) (why other : DataFault) → BlockFault m p least why → BlockFault m p least other → why ≡ other
block_once m p least why other (inl a) (inl b) = a.0 ∙ sym b.0
block_once m p least why other (inl a) (inr (inl b)) = absurd (omega (arith, a.1, b.1))
block_once m p least why other (inl a) (inr (inr (inl b))) = absurd (omega (arith, a.1, b.1))
block_once m p least why other (inl a) (inr (inr (inr b))) = a.0 ∙ sym b.0
block_once m p least why other (inr (inl a)) (inl b) = absurd (omega (arith, a.1, b.1))
block_once m p least why other (inr (inl a)) (inr (inl b)) = a.0 ∙ sym b.0
block_once m p least why other (inr (inl a)) (inr (inr (inl b))) = absurd (omega (arith, a.2, b.2))
block_once m p least why other (inr (inl a)) (inr (inr (inr b))) = absurd (omega (arith, a.2, b.2))
block_once m p least why other (inr (inr (inl a))) (inl b) = absurd (omega (arith, a.1, b.1))
block_once m p least why other (inr (inr (inl a))) (inr (inl b)) = absurd (omega (arith, a.2, b.2))
block_once m p least why other (inr (inr (inl a))) (inr (inr (inl b))) = a.0 ∙ sym b.0
block_once m p least why other (inr (inr (inl a))) (inr (inr (inr b))) = absurd (bad_length (slice_index m (p + 1)) b.3 b.4 a.3)
block_once m p least why other (inr (inr (inr a))) (inl b) = a.0 ∙ sym b.0
block_once m p least why other (inr (inr (inr a))) (inr (inl b)) = absurd (omega (arith, a.2, b.2))
block_once m p least why other (inr (inr (inr a))) (inr (inr (inl b))) = absurd (bad_length (slice_index m (p + 1)) a.3 a.4 b.3)
block_once m p least why other (inr (inr (inr a))) (inr (inr (inr b))) = a.0 ∙ sym b.0

blocks_once : (m : List ℕ) (p least : ℕ) (why other : DataFault) → BlocksFault m p least why → BlocksFault m p least other → why ≡ other
blocks_once m p least why other (block_here inside a) (block_here also b) = block_once m p least why other a b
blocks_once m p least why other (block_here inside a) (block_later at rest) = absurd (block_or_fault m p least _ why at a)
blocks_once m p least why other (block_later at rest) (block_here inside b) = absurd (block_or_fault m p least _ other at b)
blocks_once m p least why other (block_later at rest) (block_later too more) =
    blocks_once m _ _ why other rest (subst (λ x. BlocksFault m x (slice_index m p + 1) other) (too.4 ∙ sym at.4) more)

blocks_begin : (m : List ℕ) (p least : ℕ) (why : DataFault) → BlocksFault m p least why → p < length m
blocks_begin m p least why (block_here inside a) = inside
blocks_begin m p least why (block_later at rest) = omega (arith, at.0)

-- ---- parameters
param_or_fault : (m : List ℕ) (p least e : ℕ) (why : DataFault) → ParamAt m p least e → ParamFault m p least why → ⊥
param_or_fault m p least e why a (inl b) = omega (arith, a.0, b.1)
param_or_fault m p least e why a (inr (inl b)) = omega (arith, a.1, b.2)
param_or_fault m p least e why a (inr (inr (inl b))) = omega (arith, a.0, b.3)
param_or_fault m p least e why a (inr (inr (inr b))) = omega (arith, a.2, a.3, b.3)

param_once : (m : List ℕ) (p least : ℕ) (why other : DataFault) → ParamFault m p least why → ParamFault m p least other → why ≡ other
param_once m p least why other (inl a) (inl b) = a.0 ∙ sym b.0
param_once m p least why other (inl a) (inr (inl b)) = absurd (omega (arith, a.1, b.1))
param_once m p least why other (inl a) (inr (inr (inl b))) = a.0 ∙ sym b.0
param_once m p least why other (inl a) (inr (inr (inr b))) = a.0 ∙ sym b.0
param_once m p least why other (inr (inl a)) (inl b) = absurd (omega (arith, a.1, b.1))
param_once m p least why other (inr (inl a)) (inr (inl b)) = a.0 ∙ sym b.0
param_once m p least why other (inr (inl a)) (inr (inr (inl b))) = absurd (omega (arith, a.2, b.2))
param_once m p least why other (inr (inl a)) (inr (inr (inr b))) = absurd (omega (arith, a.2, b.2))
param_once m p least why other (inr (inr (inl a))) (inl b) = a.0 ∙ sym b.0
param_once m p least why other (inr (inr (inl a))) (inr (inl b)) = absurd (omega (arith, a.2, b.2))
param_once m p least why other (inr (inr (inl a))) (inr (inr (inl b))) = a.0 ∙ sym b.0
param_once m p least why other (inr (inr (inl a))) (inr (inr (inr b))) = a.0 ∙ sym b.0
param_once m p least why other (inr (inr (inr a))) (inl b) = a.0 ∙ sym b.0
param_once m p least why other (inr (inr (inr a))) (inr (inl b)) = absurd (omega (arith, a.2, b.2))
param_once m p least why other (inr (inr (inr a))) (inr (inr (inl b))) = a.0 ∙ sym b.0
param_once m p least why other (inr (inr (inr a))) (inr (inr (inr b))) = a.0 ∙ sym b.0

params_once : (m : List ℕ) (p least : ℕ) (why other : DataFault) → ParamsFault m p least why → ParamsFault m p least other → why ≡ other
params_once m p least why other (param_here inside a) (param_here also b) = param_once m p least why other a b
params_once m p least why other (param_here inside a) (param_later at rest) = absurd (param_or_fault m p least _ why at a)
params_once m p least why other (param_later at rest) (param_here inside b) = absurd (param_or_fault m p least _ other at b)
params_once m p least why other (param_later at rest) (param_later too more) =
    params_once m _ _ why other rest (subst (λ x. ParamsFault m x (number16 m p + 1) other) (too.2 ∙ sym at.2) more)

-- ---- names
named_fault : (m : List ℕ) (p : ℕ) (f : NameFault) (other : DataFault) → NoNameAt m p (faults.Name f) → NoNameAt m p other → faults.Name f ≡ other
named_fault m p f (faults.Name g) a b = ap faults.Name (one_fault a b).0
named_fault m p f faults.ShortInput a b = absurd b
named_fault m p f faults.InvalidTag a b = absurd b
named_fault m p f faults.EmptyHash a b = absurd b
named_fault m p f faults.WindowOrder a b = absurd b
named_fault m p f faults.BitmapLength a b = absurd b
named_fault m p f faults.KeyOrder a b = absurd b
named_fault m p f faults.TrailingData a b = absurd b

name_once : (m : List ℕ) (p : ℕ) (why other : DataFault) → NoNameAt m p why → NoNameAt m p other → why ≡ other
name_once m p (faults.Name f) other a b = named_fault m p f other a b
name_once m p faults.ShortInput other a b = absurd a
name_once m p faults.InvalidTag other a b = absurd a
name_once m p faults.EmptyHash other a b = absurd a
name_once m p faults.WindowOrder other a b = absurd a
name_once m p faults.BitmapLength other a b = absurd a
name_once m p faults.KeyOrder other a b = absurd a
name_once m p faults.TrailingData other a b = absurd a

-- ---- each form
some_counted_once : (m : List ℕ) (p : ℕ) (why other : DataFault) → SomeCountedFault m p why → SomeCountedFault m p other → why ≡ other
some_counted_once m p why other (inl a) (inl b) = a.0 ∙ sym b.0
some_counted_once m p why other (inl a) (inr b) = absurd (omega (arith, a.1, b.1, b.2))
some_counted_once m p why other (inr a) (inl b) = absurd (omega (arith, b.1, a.1, a.2))
some_counted_once m p why other (inr a) (inr b) = a.0 ∙ sym b.0

tag_once : (m : List ℕ) (p : ℕ) (why other : DataFault) → TagFault m p why → TagFault m p other → why ≡ other
tag_once m p why other (inl a) (inl b) = a.0 ∙ sym b.0
tag_once m p why other (inl a) (inr b) = absurd (omega (arith, a.1, b.1.1.1, b.1.1.2))
tag_once m p why other (inr a) (inl b) = absurd (omega (arith, b.1, a.1.1.1, a.1.1.2))
tag_once m p why other (inr a) (inr b) = a.0 ∙ sym b.0

some_once : (m : List ℕ) (p : ℕ) (why other : DataFault) → FormFault forms.Blocks m p why → FormFault forms.Blocks m p other → why ≡ other
some_once m p why other (inl a) (inl b) = a.0 ∙ sym b.0
some_once m p why other (inl a) (inr b) = absurd (omega (arith, a.1, blocks_begin m p 0 other b))
some_once m p why other (inr a) (inl b) = absurd (omega (arith, b.1, blocks_begin m p 0 why a))
some_once m p why other (inr a) (inr b) = blocks_once m p 0 why other a b

form_fault_once : (it : FieldForm) (m : List ℕ) (p : ℕ) (why other : DataFault) → p ≤ length m → FormFault it m p why → FormFault it m p other → why ≡ other
form_fault_once (forms.Fixed n) m p why other inside a b = a.0 ∙ sym b.0
form_fault_once forms.Name m p why other inside a b = name_once m p why other a b
form_fault_once forms.Counted m p why other inside a b = a.0 ∙ sym b.0
form_fault_once forms.OptionalCounted m p why other inside a b = a.0 ∙ sym b.0
form_fault_once forms.SomeCounted m p why other inside a b = some_counted_once m p why other a b
form_fault_once forms.Strings m p why other inside a b = a.0 ∙ sym b.0
form_fault_once forms.Tag m p why other inside a b = tag_once m p why other a b
form_fault_once forms.LongCounted m p why other inside a b = a.0 ∙ sym b.0
form_fault_once forms.Blocks m p why other inside a b = some_once m p why other a b
form_fault_once forms.OptionalBlocks m p why other inside a b = blocks_once m p 0 why other a b
form_fault_once forms.Params m p why other inside a b = params_once m p 0 why other a b
form_fault_once forms.Rest m p why other inside a b = absurd (omega (arith, inside, a))

fields_fault_once : (kinds : List FieldKind) (m : List ℕ) (p : ℕ) (why other : DataFault) → p ≤ length m → FieldsFault kinds m p why → FieldsFault kinds m p other → why ≡ other
fields_fault_once [] m p why other inside a b = absurd a
fields_fault_once (k ∷ ks) m p why other inside (inl a) (inl b) = form_fault_once (form k) m p why other inside a b
fields_fault_once (k ∷ ks) m p why other inside (inl a) (inr (q, at, rest)) = absurd (form_or_fault (form k) m p q why at a)
fields_fault_once (k ∷ ks) m p why other inside (inr (q, at, rest)) (inl b) = absurd (form_or_fault (form k) m p q other at b)
fields_fault_once (k ∷ ks) m p why other inside (inr (q, at, rest)) (inr (r, too, more)) =
    let same = form_once (form k) m p q r at too in
    fields_fault_once ks m r why other (form_whole (form k) m p r too) (subst (λ x. FieldsFault ks m x why) same rest) more

-- so octets that aren't data have one first error
pub data_fault_once : (kinds : List FieldKind) (m : List ℕ) (p : ℕ) (why other : DataFault) → p ≤ length m → AreNoData kinds m p why → AreNoData kinds m p other → why ≡ other
data_fault_once kinds m p why other inside (inl a) (inl b) = fields_fault_once kinds m p why other inside a b
data_fault_once kinds m p why other inside (inl a) (inr (told, (e, at, left))) = absurd (fields_or_fault kinds m p e why at a)
data_fault_once kinds m p why other inside (inr (told, (e, at, left))) (inl b) = absurd (fields_or_fault kinds m p e other at b)
data_fault_once kinds m p why other inside (inr a) (inr b) = a.0 ∙ sym b.0
