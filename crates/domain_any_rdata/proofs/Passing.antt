-- Whoever passes over the fields of data has seen that the octets are data.
use Rattle.std.proofs.Common.{◌≡◌, ◌∙◌, ℕ, ◌≤◌, ◌<◌, List, [], ◌∷◌, length, refl, sym, ap, subst, inr, arith}
use Rattle.domain_descriptor.specs.Fields.{FieldAt, FieldsAt, AreData, AreNoData}
use Rattle.domain_descriptor.specs.Rdatas.{rdata_kinds, rdata_message, rdata_begin, field_kind, field_after, kinds_left, fields_message, fields_offset, HasFieldsLeft, TakesField}
use Rattle.domain_descriptor.specs.declared.fault.DataFault.{DataFault}
use Rattle.domain_descriptor.specs.declared.fault.DataFault.TheVariants.{TrailingData}
use Rattle.domain_descriptor.specs.declared.kind.FieldKind.{FieldKind}
use Rattle.domain_descriptor.specs.declared.rdata.Field.{Field}
use Rattle.domain_descriptor.specs.declared.rdata.FieldIter.{FieldIter}
use Rattle.domain_descriptor.specs.declared.rdata.Rdata.{Rdata}

-- Of the fields these are left.
pub record Passed (all : Rdata) (it : FieldIter) : Type 0 where
  pub octets : fields_message it ≡ rdata_message all
  pub on : (e : ℕ) → FieldsAt (kinds_left it) (rdata_message all) (fields_offset it) e → FieldsAt (rdata_kinds all) (rdata_message all) (rdata_begin all) e

pub none_passed : (all : Rdata) (it : FieldIter) → HasFieldsLeft (rdata_kinds all) (rdata_message all) (rdata_begin all) it → Passed all it
none_passed all it has = record {
  octets = has.octets;
  on = λ e at. subst (λ p. FieldsAt (rdata_kinds all) (rdata_message all) p e) has.begins (subst (λ ks. FieldsAt ks (rdata_message all) (fields_offset it) e) has.kinds at);
}

pub one_passed : (all : Rdata) (old : FieldIter) (f : Field) (new : FieldIter) → Passed all old → TakesField old f new → Passed all new
one_passed all old f new passed took =
    let m = rdata_message all in
    let here = subst (λ x. FieldAt (field_kind f) x (fields_offset old) (field_after f)) passed.octets took.at in
    record {
      octets = took.same_octets ∙ passed.octets;
      on = λ e at. passed.on e (subst (λ ks. FieldsAt ks m (fields_offset old) e) (sym took.kinds) (field_after f, here, subst (λ p. FieldsAt (kinds_left new) m p e) took.next_begins at));
    }

ends : (ks : List FieldKind) (m : List ℕ) (p : ℕ) → ks ≡ [] → p ≤ length m → ((why : DataFault) → AreNoData ks m p why → ⊥) → length m ≡ p
ends ks m p none inside whole =
    let all : length m ≤ p = not_less p (length m) (λ (left : p < length m). whole TrailingData (inr (refl, (p, subst (λ x. FieldsAt x m p p) (sym none) refl, left)))) in
    omega (arith, inside, all)
  where
    not_less : (a b : ℕ) → ((a < b) → ⊥) → b ≤ a
    not_less a b never = omega (arith, never)

pub all_passed : (all : Rdata) (it : FieldIter) → Passed all it → kinds_left it ≡ [] → AreData (rdata_kinds all) (rdata_message all) (rdata_begin all)
all_passed all it passed none =
    let end = ends (kinds_left it) (fields_message it) (fields_offset it) none it.inside it.whole in
    passed.on (length (rdata_message all))
    (subst (λ ks. FieldsAt ks (rdata_message all) (fields_offset it) (length (rdata_message all))) (sym none)
    (sym (ap (λ (m : List ℕ). length m) passed.octets) ∙ end))
