-- What data with names are, by the table of types.
use Rattle.std.proofs.Common.{◌≡◌, ◌∙◌, ℕ, ◌≤◌, List, [], ◌∷◌, length, sym, ap, subst, inl, inr, arith}
use Rattle.std.proofs.lemmas.Bool.{or_cases, eqb-true, false≢true}
use Rattle.std.specs.Prelude.{Bool, Some, None, nat_eq, true, if◌then◌else◌}
use Rattle.std.specs.List.{list_any, AllByRecursion}
use Rattle.domain_descriptor.specs.Forms.{form}
use Rattle.domain_descriptor.specs.Table.{known_fields, compresses_names}
use Rattle.domain_descriptor.specs.Values.{width, size_of}
use Rattle.domain_descriptor.specs.declared.form.FieldForm.{FieldForm}
use Rattle.domain_descriptor.specs.declared.form.FieldForm.TheVariants as forms
use Rattle.domain_descriptor.specs.declared.kind.FieldKind.{FieldKind}
use Rattle.domain_descriptor.specs.declared.kind.FieldKind.TheVariants as kinds
use Rattle.domain_buffer.specs.Data.{shape, compressed_shape, IsSmall}
use Rattle.domain_buffer.specs.declared.data.Shape.{Shape}

-- a field of fixed size has at most the octets of an IPv6 address
small : (kind : FieldKind) → size_of kind ≤ 16
small kinds.Ipv6 = omega arith
small _ = omega arith

pub fixed_small : (kind : FieldKind) (it : FieldForm) (n : ℕ) → it ≡ form kind → it ≡ forms.Fixed n → n ≤ 16
fixed_small kind it n of_kind is = subst (λ k. k ≤ 16) (ap width (sym of_kind ∙ is)) (small kind)

-- what holds of each number of a list
each_of : (P : ℕ → Type 0) (n : ℕ) (xs : List ℕ) → list_any (nat_eq n) xs ≡ true → AllByRecursion P xs → P n
each_of P n [] is all = absurd (false≢true is)
each_of P n (x ∷ xs) is all = elim (or_cases (nat_eq n x) (list_any (nat_eq n) xs) is) [
  | inl here ↦ subst P (sym (eqb-true n x here)) all.0
  | inr there ↦ each_of P n xs there all.1
]

-- of data of a type whose names may be compressed
abbrev IsFew : ℕ → Type 0
IsFew rtype = (length (known_fields rtype 1) ≤ 1024) × IsSmall (shape (known_fields rtype 1))

few : (rtype : ℕ) → compresses_names rtype ≡ true → IsFew rtype
few rtype is =
    each_of IsFew rtype (2 ∷ 3 ∷ 4 ∷ 5 ∷ 6 ∷ 7 ∷ 8 ∷ 9 ∷ 12 ∷ 14 ∷ 15 ∷ []) is
    ((omega arith, record { few_before = omega arith; few_after = omega arith }), ((omega arith, record { few_before = omega arith; few_after = omega arith }), ((omega arith, record { few_before = omega arith; few_after = omega arith }), ((omega arith, record { few_before = omega arith; few_after = omega arith }), ((omega arith, record { few_before = omega arith; few_after = omega arith }), ((omega arith, record { few_before = omega arith; few_after = omega arith }), ((omega arith, record { few_before = omega arith; few_after = omega arith }), ((omega arith, record { few_before = omega arith; few_after = omega arith }), ((omega arith, record { few_before = omega arith; few_after = omega arith }), ((omega arith, record { few_before = omega arith; few_after = omega arith }), ((omega arith, record { few_before = omega arith; few_after = omega arith }), tt)))))))))))

-- where a test says that they may be
pub few_fields : (rtype : ℕ) (told : Bool) (fields : List FieldKind) → told ≡ compresses_names rtype → told ≡ true → fields ≡ known_fields rtype 1 → length fields ≤ 1024
few_fields rtype told fields is so same = subst (λ (ks : List FieldKind). length ks ≤ 1024) (sym same) (few rtype (sym is ∙ so)).0

pub small_shape : (rtype : ℕ) (told : Bool) (fields : List FieldKind) (it : Shape) → told ≡ compresses_names rtype → told ≡ true → fields ≡ known_fields rtype 1 → it ≡ shape fields → IsSmall it
small_shape rtype told fields it is so same made = subst IsSmall (sym (made ∙ ap shape same)) (few rtype (sym is ∙ so)).1

pub shape_known : (rtype : ℕ) (told : Bool) (fields : List FieldKind) (it : Shape) → told ≡ compresses_names rtype → told ≡ true → fields ≡ known_fields rtype 1 → it ≡ shape fields → Some it ≡ compressed_shape rtype
shape_known rtype told fields it is so same made =
    let here : Some it ≡ Some (shape (known_fields rtype 1)) = ap Some (made ∙ ap shape same) in
    subst (λ b. Some it ≡ if b then Some (shape (known_fields rtype 1)) else None) (sym (sym is ∙ so)) here
