-- A field ends inside of the octets.
use Rattle.std.specs.Prelude.{◌≡◌, ℕ, ◌≤◌, List, length}
use Rattle.std.proofs.Common.{inl, inr, arith}
use Rattle.domain_reading.proofs.Encodings.{stop_whole}
use Rattle.domain_descriptor.specs.Fields.{FormAt, FieldAt}
use Rattle.domain_descriptor.specs.Forms.{form}
use Rattle.domain_descriptor.specs.declared.form.FieldForm.{FieldForm}
use Rattle.domain_descriptor.specs.declared.form.FieldForm.TheVariants as forms
use Rattle.domain_descriptor.specs.declared.kind.FieldKind.{FieldKind}

optional_whole : (m : List ℕ) (p e : ℕ) → FormAt forms.OptionalCounted m p e → e ≤ length m
optional_whole m p e (inl a) = omega (arith, a.0, a.1)
optional_whole m p e (inr a) = a.2

pub form_whole : (it : FieldForm) (m : List ℕ) (p e : ℕ) → FormAt it m p e → e ≤ length m
form_whole (forms.Fixed n) m p e a = a.1
form_whole forms.Name m p e a = stop_whole m a.1.2.stop e a.1.1 a.1.2.ends
form_whole forms.Counted m p e a = a.2
form_whole forms.OptionalCounted m p e a = optional_whole m p e a
form_whole forms.SomeCounted m p e a = a.0.2
form_whole forms.Strings m p e a = omega (arith, a.0)
form_whole forms.Tag m p e a = a.0.2
form_whole forms.LongCounted m p e a = a.2
form_whole forms.Blocks m p e a = omega (arith, a.0)
form_whole forms.OptionalBlocks m p e a = omega (arith, a.0)
form_whole forms.Params m p e a = omega (arith, a.0)
form_whole forms.Rest m p e a = omega (arith, a.0)

pub field_whole : (k : FieldKind) (m : List ℕ) (p e : ℕ) → FieldAt k m p e → e ≤ length m
field_whole k m p e a = form_whole (form k) m p e a
