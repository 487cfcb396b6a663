-- Fields of some kinds hold the same, wherever they are looked at.
use Rattle.std.proofs.Common.{◌≡◌, ◌∙◌, ℕ, List, [], ◌∷◌, ◌++◌, refl, sym, subst, ap, inl, inr}
use Rattle.std.proofs.lemmas.List.{append_cancel_right}
use Rattle.domain_label.specs.Wire.{Root}
use Rattle.domain_reading.proofs.LabelsAt.{labels_named}
use Rattle.domain_reading.specs.Grammar.{Names}
use Rattle.domain_descriptor.proofs.Exact.{form_once, data_or_fault}
use Rattle.domain_descriptor.specs.Forms.{form}
use Rattle.domain_descriptor.specs.declared.kind.FieldKind.{FieldKind}
use Rattle.domain_rdata_text.specs.Texts.{IsPlain, IsNotPlain}
use Rattle.domain_rdata_text.specs.Values.{Val, vals_octets, ValueAt, ValuesAt}
use Rattle.domain_rdata_text.specs.Values.Val.{name}

one_name : (m : List ℕ) (p : ℕ) (xs ys : List (List ℕ)) → Names 255 m p (xs ++ Root) → Names 255 m p (ys ++ Root) → xs ≡ ys
one_name m p xs ys a b = append_cancel_right xs ys Root (sym (labels_named a) ∙ labels_named b)

one_value : (k : FieldKind) (m : List ℕ) (p e : ℕ) (v w : Val) → ValueAt k m p e v → ValueAt k m p e w → v ≡ w
one_value k m p e v w (inl (xs, is, a, same)) (inl (ys, also, b, other)) = same ∙ ap name (one_name m p xs ys a b) ∙ sym other
one_value k m p e v w (inl (xs, is, a, same)) (inr (not, other)) = absurd (not is)
one_value k m p e v w (inr (not, same)) (inl (ys, is, b, other)) = absurd (not is)
one_value k m p e v w (inr (not, same)) (inr (neither, other)) = same ∙ sym other

pub values_once : (kinds : List FieldKind) (m : List ℕ) (p : ℕ) (vs ws : List Val) (e f : ℕ) → ValuesAt kinds m p vs e → ValuesAt kinds m p ws f → vs ≡ ws
values_once [] m p [] [] e f a b = refl
values_once [] m p [] (w ∷ ws) e f a b = absurd b
values_once [] m p (v ∷ vs) ws e f a b = absurd a
values_once (k ∷ kinds) m p [] ws e f a b = absurd a
values_once (k ∷ kinds) m p (v ∷ vs) [] e f a b = absurd b
values_once (k ∷ kinds) m p (v ∷ vs) (w ∷ ws) e f (q, at, x, rest) (r, there, y, others) =
    let same = form_once (form k) m p q r at there in
    let first = one_value k m p r v w (subst (λ z. ValueAt k m p z v) same x) y in
    let after = values_once kinds m r vs ws e f (subst (λ z. ValuesAt kinds m z vs e) same rest) others in
    ap (λ (z : Val). z ∷ vs) first ∙ ap (λ (z : List Val). w ∷ z) after

pub plain_or_not : (kinds : List FieldKind) (os : List ℕ) → IsPlain kinds os → IsNotPlain kinds os → ⊥
plain_or_not kinds os (at, (vs, e, held, same)) (inl (why, lacks)) = data_or_fault kinds os 0 why at lacks
plain_or_not kinds os (at, (vs, e, held, same)) (inr (ws, f, other, differ)) =
    differ (ap (λ (z : List Val). vals_octets z) (values_once kinds os 0 ws vs f e other held) ∙ same)
