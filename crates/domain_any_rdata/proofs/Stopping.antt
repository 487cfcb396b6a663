-- A field ends where the function says.
use Rattle.std.proofs.Common.{◌≡◌, ◌∙◌, ℕ, zero, suc, ◌+◌, ◌<◌, List, [], ◌∷◌, length, slice_index, refl, sym, ap, inl, inr, true, false, nat_eq, nat_lt, arith}
use Rattle.std.proofs.lemmas.Bool.Decides.{nat_tests}
use Rattle.domain_reading.proofs.Encodings.{run_inside}
use Rattle.domain_reading.specs.Grammar.{OctetAt, LabelAt, PointerAt, LabelRun, Stop, StopAt, EncodingEnds}
use Rattle.domain_reading.specs.Grammar.Stop.{root as stop_root, pointer as stop_pointer}
use Rattle.domain_descriptor.specs.Fields.{FormAt, FieldAt}
use Rattle.domain_descriptor.specs.Forms.{form}
use Rattle.domain_any_rdata.specs.Stops.{stop_from, name_stop, stop, field_stop}
use Rattle.domain_descriptor.specs.declared.form.FieldForm.{FieldForm}
use Rattle.domain_descriptor.specs.declared.form.FieldForm.TheVariants as forms
use Rattle.domain_descriptor.specs.declared.kind.FieldKind.{FieldKind}

-- as `read_root`, `read_label`, `read_pointer` of domain_reading/proofs/LabelsAt.antt, 17 to 32
at_root : (n : ℕ) {m : List ℕ} {p : ℕ} → OctetAt m p 0 → stop_from (suc n) m p ≡ p + 1
unfolding stop_from
at_root n x = rw x.octet refl

at_label : (n : ℕ) {m : List ℕ} {p : ℕ} {l : List ℕ} → LabelAt m p l → stop_from (suc n) m p ≡ stop_from n m (p + 1 + length l)
unfolding stop_from
at_label n {m} {p} {l} x =
    let some : nat_eq (length l) 0 ≡ false = grind (arith, nat_tests) in
    let low : nat_lt (length l) 64 ≡ true = grind (arith, nat_tests) in
    rw (x.head, some, low) refl

at_pointer : (n : ℕ) {m : List ℕ} {p q : ℕ} → PointerAt m p q → stop_from (suc n) m p ≡ p + 2
unfolding stop_from
at_pointer n {m} {p} {q} x =
    let some : nat_eq (slice_index m p) 0 ≡ false = grind (arith, nat_tests) in
    let high : nat_lt (slice_index m p) 64 ≡ false = grind (arith, nat_tests) in
    rw (some, high) refl

at_stop : (n : ℕ) (m : List ℕ) (p r e : ℕ) (c : Stop) → p ≡ r → StopAt m r c e → stop_from (suc n) m p ≡ e
at_stop n m p r e stop_root here (octet, end) = ap (stop_from (suc n) m) here ∙ at_root n octet ∙ sym end
at_stop n m p r e (stop_pointer q) here (pointer, end) = ap (stop_from (suc n) m) here ∙ at_pointer n pointer ∙ sym end

stop_inside : (m : List ℕ) (r e : ℕ) (c : Stop) → StopAt m r c e → r < length m
stop_inside m r e stop_root (octet, end) = octet.inside
stop_inside m r e (stop_pointer q) (pointer, end) = omega (arith, pointer.inside)

stop_after : (n : ℕ) (m : List ℕ) (fs : List (List ℕ)) (p r e : ℕ) (c : Stop) → LabelRun m p fs r → StopAt m r c e → r < p + n → stop_from n m p ≡ e
stop_after zero m fs p r e c run ends few = absurd (omega (arith, run_inside m p r fs run, few))
stop_after (suc n) m [] p r e c run ends few = at_stop n m p r e c run ends
stop_after (suc n) m (l ∷ fs) p r e c (label, run) ends few =
    at_label n label ∙ stop_after n m fs (p + 1 + length l) r e c run ends (omega (arith, few, label.nonempty))

name_stops : (m : List ℕ) (p e : ℕ) → EncodingEnds m p e → name_stop m p ≡ e
unfolding name_stop
name_stops m p e (fs, c, front) =
    stop_after (length m) m fs p front.stop e c front.run front.ends (omega (arith, stop_inside m front.stop e c front.ends))

optional_stops : (m : List ℕ) (p e : ℕ) → FormAt forms.OptionalCounted m p e → stop forms.OptionalCounted m p ≡ e
optional_stops m p e (inl a) = let last : nat_lt p (length m) ≡ false = grind (arith, nat_tests) in rw last (sym a.1)
optional_stops m p e (inr a) = let some : nat_lt p (length m) ≡ true = grind (arith, nat_tests) in rw some (sym a.1)

form_stops : (it : FieldForm) (m : List ℕ) (p e : ℕ) → FormAt it m p e → stop it m p ≡ e
form_stops (forms.Fixed n) m p e a = sym a.0
form_stops forms.Name m p e a = name_stops m p e a.1
form_stops forms.Counted m p e a = sym a.1
form_stops forms.OptionalCounted m p e a = optional_stops m p e a
form_stops forms.SomeCounted m p e a = sym a.0.1
form_stops forms.Strings m p e a = sym a.0
form_stops forms.Tag m p e a = sym a.0.1
form_stops forms.LongCounted m p e a = sym a.1
form_stops forms.Blocks m p e a = sym a.0
form_stops forms.OptionalBlocks m p e a = sym a.0
form_stops forms.Params m p e a = sym a.0
form_stops forms.Rest m p e a = sym a.0

pub field_stops : (kind : FieldKind) (m : List ℕ) (p e : ℕ) → FieldAt kind m p e → field_stop kind m p ≡ e
field_stops kind m p e at = form_stops (form kind) m p e at
