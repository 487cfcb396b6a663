-- A field has one end or one that it lacks: there is a field or an error, never both.
use Rattle.std.proofs.Common.{◌≡◌, ◌⊎◌, ◌∙◌, ℕ, ◌<◌, ◌≤◌, ◌+◌, List, [], ◌∷◌, length, sym, subst, inl, inr, arith}
use Rattle.std.specs.Prelude.{slice_index, slice_range}
use Rattle.domain_header.specs.Numbers.{number16}
use Rattle.domain_reading.proofs.NameOrFault.{names_or_fault}
use Rattle.domain_reading.proofs.OneEncoding.{front_once}
use Rattle.domain_descriptor.specs.declared.fault.DataFault.{DataFault}
use Rattle.domain_descriptor.specs.declared.fault.DataFault.TheVariants as faults
use Rattle.domain_descriptor.specs.declared.form.FieldForm.{FieldForm}
use Rattle.domain_descriptor.specs.declared.form.FieldForm.TheVariants as forms
use Rattle.domain_descriptor.specs.declared.kind.FieldKind.{FieldKind}
use Rattle.domain_descriptor.specs.Forms.{form}
use Rattle.domain_descriptor.specs.Fields.{StringsAt, StringsCut, IsTag, TagAt, TagFault, BlockAt, BlockFault, BlocksAt, BlocksFault, ParamAt, ParamFault, ParamsAt, ParamsFault}
use Rattle.domain_descriptor.specs.Fields.{SomeCountedAt, SomeCountedFault, LongCountedAt, LongCountedCut, NameAt, NoNameAt, FormAt, FormFault, FieldsAt, FieldsFault, AreData, AreNoData}
use Rattle.domain_descriptor.specs.Fields.StringsAt.{last, more}
use Rattle.domain_descriptor.specs.Fields.StringsCut.{here as cut_here, later as cut_later}
use Rattle.domain_descriptor.specs.Fields.BlocksAt.{none as no_blocks, block}
use Rattle.domain_descriptor.specs.Fields.BlocksFault.{here as block_here, later as block_later}
use Rattle.domain_descriptor.specs.Fields.ParamsAt.{none as no_params, param}
use Rattle.domain_descriptor.specs.Fields.ParamsFault.{here as param_here, later as param_later}

name_or_fault : (m : List ℕ) (p e : ℕ) (why : DataFault) → NameAt m p e → NoNameAt m p why → ⊥
name_or_fault m p e (faults.Name f) a b = names_or_fault a.0.1 b
name_or_fault m p e faults.ShortInput a b = b
name_or_fault m p e faults.InvalidTag a b = b
name_or_fault m p e faults.EmptyHash a b = b
name_or_fault m p e faults.WindowOrder a b = b
name_or_fault m p e faults.BitmapLength a b = b
name_or_fault m p e faults.KeyOrder a b = b
name_or_fault m p e faults.TrailingData a b = b

strings_or_cut : (m : List ℕ) (p : ℕ) → StringsAt m p → StringsCut m p → ⊥
strings_or_cut m p (last a) (cut_here b) = omega (arith, a.1, a.2, b)
strings_or_cut m p (last a) (cut_later b inside rest) = omega (arith, a.1, b.1, inside)
strings_or_cut m p (more a rest) (cut_here b) = omega (arith, a.1, a.2, b)
strings_or_cut m p (more a rest) (cut_later b inside other) = strings_or_cut m _ (subst (λ x. StringsAt m x) (a.1 ∙ sym b.1) rest) other

tag_or_fault : (m : List ℕ) (p e : ℕ) (why : DataFault) → TagAt m p e → TagFault m p why → ⊥
tag_or_fault m p e why a (inl b) = omega (arith, a.0.1, a.0.2, b.1)
tag_or_fault m p e why a (inr b) = b.1.2 (subst (λ x. IsTag (slice_range m (p + 1) x)) (a.0.1 ∙ sym b.1.1.1) a.1)

some_counted_or_fault : (m : List ℕ) (p e : ℕ) (why : DataFault) → SomeCountedAt m p e → SomeCountedFault m p why → ⊥
some_counted_or_fault m p e why a (inl b) = omega (arith, a.0.1, a.0.2, b.1)
some_counted_or_fault m p e why a (inr b) = omega (arith, a.1, b.2)

long_or_cut : (m : List ℕ) (p e : ℕ) → LongCountedAt m p e → LongCountedCut m p → ⊥
long_or_cut m p e a (inl b) = omega (arith, a.0, b)
long_or_cut m p e a (inr b) = omega (arith, a.1, a.2, b.1)

bad_length : (n : ℕ) → 1 ≤ n → n ≤ 32 → (n < 1) ⊎ (32 < n) → ⊥
bad_length n some few (inl none) = omega (arith, some, none)
bad_length n some few (inr many) = omega (arith, few, many)

block_or_fault : (m : List ℕ) (p least e : ℕ) (why : DataFault) → BlockAt m p least e → BlockFault m p least why → ⊥
block_or_fault m p least e why a (inl b) = omega (arith, a.0, b.1)
block_or_fault m p least e why a (inr (inl b)) = omega (arith, a.1, b.2)
block_or_fault m p least e why a (inr (inr (inl b))) = bad_length (slice_index m (p + 1)) a.2 a.3 b.3
block_or_fault m p least e why a (inr (inr (inr b))) = omega (arith, a.4, a.5, b.5)

blocks_or_fault : (m : List ℕ) (p least : ℕ) (why : DataFault) → BlocksAt m p least → BlocksFault m p least why → ⊥
blocks_or_fault m p least why (no_blocks a) (block_here inside b) = omega (arith, a, inside)
blocks_or_fault m p least why (no_blocks a) (block_later b other) = omega (arith, a, b.0)
blocks_or_fault m p least why (block a rest) (block_here inside b) = block_or_fault m p least _ why a b
blocks_or_fault m p least why (block a rest) (block_later b other) =
    blocks_or_fault m _ _ why (subst (λ x. BlocksAt m x (slice_index m p + 1)) (a.4 ∙ sym b.4) rest) other

param_or_fault : (m : List ℕ) (p least e : ℕ) (why : DataFault) → ParamAt m p least e → ParamFault m p least why → ⊥
param_or_fault m p least e why a (inl b) = omega (arith, a.0, b.1)
param_or_fault m p least e why a (inr (inl b)) = omega (arith, a.1, b.2)
param_or_fault m p least e why a (inr (inr (inl b))) = omega (arith, a.0, b.3)
param_or_fault m p least e why a (inr (inr (inr b))) = omega (arith, a.2, a.3, b.3)

params_or_fault : (m : List ℕ) (p least : ℕ) (why : DataFault) → ParamsAt m p least → ParamsFault m p least why → ⊥
params_or_fault m p least why (no_params a) (param_here inside b) = omega (arith, a, inside)
params_or_fault m p least why (no_params a) (param_later b other) = omega (arith, a, b.0)
params_or_fault m p least why (param a rest) (param_here inside b) = param_or_fault m p least _ why a b
params_or_fault m p least why (param a rest) (param_later b other) =
    params_or_fault m _ _ why (subst (λ x. ParamsAt m x (number16 m p + 1)) (a.2 ∙ sym b.2) rest) other

optional_once : (m : List ℕ) (p e f : ℕ) → FormAt forms.OptionalCounted m p e → FormAt forms.OptionalCounted m p f → e ≡ f
optional_once m p e f (inl a) (inl b) = a.1 ∙ sym b.1
optional_once m p e f (inl a) (inr b) = omega (arith, a.0, b.0)
optional_once m p e f (inr a) (inl b) = omega (arith, a.0, b.0)
optional_once m p e f (inr a) (inr b) = a.1 ∙ sym b.1

optional_or_cut : (m : List ℕ) (p e : ℕ) (why : DataFault) → FormAt forms.OptionalCounted m p e → FormFault forms.OptionalCounted m p why → ⊥
optional_or_cut m p e why (inl a) b = omega (arith, a.0, b.1)
optional_or_cut m p e why (inr a) b = omega (arith, a.1, a.2, b.2)

some_or_fault : (m : List ℕ) (p e : ℕ) (why : DataFault) → FormAt forms.Blocks m p e → FormFault forms.Blocks m p why → ⊥
some_or_fault m p e why a (inl b) = omega (arith, a.1, b.1)
some_or_fault m p e why a (inr b) = blocks_or_fault m p 0 why a.2 b

-- a field ends at one offset
pub form_once : (it : FieldForm) (m : List ℕ) (p e f : ℕ) → FormAt it m p e → FormAt it m p f → e ≡ f
form_once (forms.Fixed n) m p e f a b = a.0 ∙ sym b.0
form_once forms.Name m p e f a b = (front_once a.1.2 b.1.2).2
form_once forms.Counted m p e f a b = a.1 ∙ sym b.1
form_once forms.OptionalCounted m p e f a b = optional_once m p e f a b
form_once forms.SomeCounted m p e f a b = a.0.1 ∙ sym b.0.1
form_once forms.Strings m p e f a b = a.0 ∙ sym b.0
form_once forms.Tag m p e f a b = a.0.1 ∙ sym b.0.1
form_once forms.LongCounted m p e f a b = a.1 ∙ sym b.1
form_once forms.Blocks m p e f a b = a.0 ∙ sym b.0
form_once forms.OptionalBlocks m p e f a b = a.0 ∙ sym b.0
form_once forms.Params m p e f a b = a.0 ∙ sym b.0
form_once forms.Rest m p e f a b = a.0 ∙ sym b.0

-- where a field is, there is no error
pub form_or_fault : (it : FieldForm) (m : List ℕ) (p e : ℕ) (why : DataFault) → FormAt it m p e → FormFault it m p why → ⊥
form_or_fault (forms.Fixed n) m p e why a b = omega (arith, a.0, a.1, b.1)
form_or_fault forms.Name m p e why a b = name_or_fault m p e why a b
form_or_fault forms.Counted m p e why a b = omega (arith, a.1, a.2, b.1)
form_or_fault forms.OptionalCounted m p e why a b = optional_or_cut m p e why a b
form_or_fault forms.SomeCounted m p e why a b = some_counted_or_fault m p e why a b
form_or_fault forms.Strings m p e why a b = strings_or_cut m p a.1 b.1
form_or_fault forms.Tag m p e why a b = tag_or_fault m p e why a b
form_or_fault forms.LongCounted m p e why a b = long_or_cut m p e a b.1
form_or_fault forms.Blocks m p e why a b = some_or_fault m p e why a b
form_or_fault forms.OptionalBlocks m p e why a b = blocks_or_fault m p 0 why a.1 b
form_or_fault forms.Params m p e why a b = params_or_fault m p 0 why a.1 b
form_or_fault forms.Rest m p e why a b = omega (arith, a.0, a.1, b)

-- so fields one after another
pub fields_once : (kinds : List FieldKind) (m : List ℕ) (p e f : ℕ) → FieldsAt kinds m p e → FieldsAt kinds m p f → e ≡ f
fields_once [] m p e f a b = a ∙ sym b
fields_once (k ∷ ks) m p e f (q, a, rest) (r, b, other) =
    fields_once ks m r e f (subst (λ x. FieldsAt ks m x e) (form_once (form k) m p q r a b) rest) other

pub fields_or_fault : (kinds : List FieldKind) (m : List ℕ) (p e : ℕ) (why : DataFault) → FieldsAt kinds m p e → FieldsFault kinds m p why → ⊥
fields_or_fault [] m p e why a b = b
fields_or_fault (k ∷ ks) m p e why (q, a, rest) (inl b) = form_or_fault (form k) m p q why a b
fields_or_fault (k ∷ ks) m p e why (q, a, rest) (inr (r, b, other)) =
    fields_or_fault ks m r e why (subst (λ x. FieldsAt ks m x e) (form_once (form k) m p q r a b) rest) other

pub data_or_fault : (kinds : List FieldKind) (m : List ℕ) (p : ℕ) (why : DataFault) → AreData kinds m p → AreNoData kinds m p why → ⊥
data_or_fault kinds m p why a (inl b) = fields_or_fault kinds m p (length m) why a b
data_or_fault kinds m p why a (inr (told, (e, b, left))) = omega (arith, fields_once kinds m p (length m) e a b, left)
