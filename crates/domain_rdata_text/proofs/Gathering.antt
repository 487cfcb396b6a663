-- One field more.
use Rattle.std.proofs.Common.{◌≡◌, ◌∙◌, ℕ, List, [], ◌∷◌, ◌++◌, refl, sym, subst, ap, append_assoc, append-nil}
use Rattle.std.proofs.lemmas.List.{map-append}
use Rattle.std.proofs.lemmas.List.Concat.{flat_map-append}
use Rattle.domain_descriptor.specs.Fields.{FieldAt}
use Rattle.domain_descriptor.specs.Rdatas.{rdata_kinds, rdata_message, IsRdata, kinds_left, fields_message, fields_offset}
use Rattle.domain_descriptor.specs.Rdatas.{field_kind, field_message, field_begin, field_after, TakesField}
use Rattle.domain_descriptor.specs.declared.rdata.Field.{Field}
use Rattle.domain_descriptor.specs.declared.rdata.FieldIter.{FieldIter}
use Rattle.domain_descriptor.specs.Table.{known_fields}
use Rattle.domain_descriptor.specs.declared.kind.FieldKind.{FieldKind}
use Rattle.domain_descriptor.specs.declared.rdata.Rdata.{Rdata}
use Rattle.domain_rdata_text.specs.Values.{Val, val_of, vals_of, val_octets, vals_octets, ValueAt, ValuesAt, HasValues}
use Rattle.domain_rdata_text.specs.declared.value.Value.{Value}

values_more : (m : List ℕ) (p : ℕ) (done : List FieldKind) (vs : List Val) (q : ℕ) (k : FieldKind) (v : Val) (e : ℕ)
    → ValuesAt done m p vs q → FieldAt k m q e → ValueAt k m q e v → ValuesAt (done ++ k ∷ []) m p (vs ++ v ∷ []) e
values_more m p [] [] q k v e here at value = (e, subst (λ x. FieldAt k m x e) here at, subst (λ x. ValueAt k m x e v) here value, refl)
values_more m p [] (w ∷ vs) q k v e here at value = absurd here
values_more m p (j ∷ done) [] q k v e here at value = absurd here
values_more m p (j ∷ done) (w ∷ vs) q k v e (r, field, held, rest) at value = (r, field, held, values_more m r done vs q k v e rest at value)

-- Of the fields some hold these, and the others are left.
abbrev pub Passed : List FieldKind → List ℕ → ℕ → List Val → List FieldKind → ℕ → Type 0
Passed kinds m p vs left q = (done : List FieldKind) × (kinds ≡ done ++ left) × ValuesAt done m p vs q

pub field_more : (kinds : List FieldKind) (m : List ℕ) (p : ℕ) (vs : List Val) (left : List FieldKind) (q : ℕ) (k : FieldKind) (others : List FieldKind) (v : Val) (e : ℕ)
    → Passed kinds m p vs left q → left ≡ k ∷ others → FieldAt k m q e → ValueAt k m q e v → Passed kinds m p (vs ++ v ∷ []) others e
field_more kinds m p vs left q k others v e (done, all, at) first field value = (
  done ++ k ∷ [],
  all ∙ ap (λ (ks : List FieldKind). done ++ ks) first ∙ sym (append_assoc done (k ∷ []) others),
  values_more m p done vs q k v e at field value,
)

pub all_passed : (kinds : List FieldKind) (m : List ℕ) (p : ℕ) (vs : List Val) (left : List FieldKind) (q : ℕ) → Passed kinds m p vs left q → left ≡ [] → (e : ℕ) × ValuesAt kinds m p vs e
all_passed kinds m p vs left q (done, all, at) none =
    let same : kinds ≡ done = all ∙ ap (λ (ks : List FieldKind). done ++ ks) none ∙ append-nil done in
    (q, subst (λ ks. ValuesAt ks m p vs q) (sym same) at)

-- one that was taken
pub field_taken : (kinds : List FieldKind) (m : List ℕ) (p : ℕ) (vs : List Val) (old : FieldIter) (f : Field) (new : FieldIter) (v : Val) (ws : List Val)
    → fields_message old ≡ m → Passed kinds m p vs (kinds_left old) (fields_offset old) → TakesField old f new
    → ValueAt (field_kind f) (field_message f) (field_begin f) (field_after f) v → ws ≡ vs ++ v ∷ [] → Passed kinds m p ws (kinds_left new) (fields_offset new)
field_taken kinds m p vs old f new v ws same passed s held is =
    let k = field_kind f in
    let q = fields_offset old in
    let e = field_after f in
    let at = subst (λ x. FieldAt k x q e) same s.at in
    let value = subst (λ x. ValueAt k x q e v) (s.octets ∙ same) (subst (λ x. ValueAt k (field_message f) x e v) s.begins held) in
    let more = field_more kinds m p vs (kinds_left old) q k (kinds_left new) v e passed s.kinds at value in
    subst (λ us. Passed kinds m p us (kinds_left new) (fields_offset new)) (sym is)
    (subst (λ x. Passed kinds m p (vs ++ v ∷ []) (kinds_left new) x) (sym s.next_begins) more)

pub vals_more : (vs : List Value) (v : Value) → vals_of (vs ++ v ∷ []) ≡ vals_of vs ++ val_of v ∷ []
vals_more vs v = map-append val_of vs (v ∷ [])

pub octets_more : (vs : List Val) (v : Val) → vals_octets (vs ++ v ∷ []) ≡ vals_octets vs ++ val_octets v
octets_more vs v = flat_map-append val_octets vs (v ∷ []) ∙ ap (λ (x : List ℕ). vals_octets vs ++ x) (append-nil (val_octets v))

-- what record data at the beginning of octets holds
pub held_there : (rtype class : ℕ) (os : List ℕ) (it : Rdata) (vs : List Val) → IsRdata rtype class os 0 it → HasValues it vs → (e : ℕ) × ValuesAt (known_fields rtype class) os 0 vs e
held_there rtype class os it vs is (e, at) = (
  e,
  subst (λ ks. ValuesAt ks os 0 vs e) is.kinds
      (subst (λ m. ValuesAt (rdata_kinds it) m 0 vs e) is.octets
      (subst (λ p. ValuesAt (rdata_kinds it) (rdata_message it) p vs e) is.begins at)),
)
