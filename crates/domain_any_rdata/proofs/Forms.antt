-- What is composed: in the form of the type, in the canonical form (RFC 4034, 6.2), and of which length.
use Rattle.std.proofs.Common.{◌≡◌, ◌∙◌, ℕ, ◌+◌, ◌<◌, Bool, true, false, not, ◌&&◌, ◌||◌, if◌then◌else◌, Option, None, Some, IfSome, Result, OnOk, OnErr, IsNone, ◌↔◌, nat_le, List, ◌++◌, length, refl, sym, ap, subst, arith}
use Rattle.std.proofs.lemmas.Bool.{false≢true}
use Rattle.std.proofs.lemmas.Bool.Decides.{nat_tests}
use Rattle.std.proofs.lemmas.Result.{on_ok_weaker}
use Rattle.domain_rdata.specs.Canonical.{lowercase_where_known, canonical_form, names_known}
use Rattle.domain_rdata.specs.ReadBack.{Appended}
use Rattle.domain_rdata.specs.Rtypes.{has_lowercase_names}
use Rattle.domain_fields.specs.Parts.{Part, parts_octets}
use Rattle.domain_any_rdata.specs.Composing.{PartsComposed, composed_form, lowers, parts_whole, parts_flat}
use Rattle.domain_any_rdata.specs.declared.name_form.NameForm.TheVariants.{Whole}
use Rattle.domain_any_rdata.proofs.Lengths.{parts_size}

picked : (lowered known : Bool) (form : Bool → List ℕ) → (if lowered then lowercase_where_known (form false) (if known then Some (form true) else None) else form false) ≡ form (known && lowered)
picked true true form = refl
picked true false form = refl
picked false true form = refl
picked false false form = refl

-- so the canonical form of the trait is that of the parts
pub form_is : (t : ℕ) (known : Bool) (form : Bool → List ℕ) → canonical_form t (form false) (if known then Some (form true) else None) ≡ form (known && has_lowercase_names t)
form_is t known form = picked (has_lowercase_names t) known form

pub known_is : (t : ℕ) (known : Bool) (form : List ℕ) → (known || not (has_lowercase_names t)) ≡ names_known t (if known then Some form else None)
known_is t true form = refl
known_is t false form = refl

abbrev canonical : ℕ → Bool → List Part → List ℕ
canonical t known xs = canonical_form t (parts_octets false xs) (if known then Some (parts_octets true xs) else None)

pub lowered : (t : ℕ) (known lowercase : Bool) (xs : List Part) → lowercase ≡ (known && has_lowercase_names t) → parts_octets lowercase xs ≡ canonical t known xs
lowered t known lowercase xs is = ap (λ b. parts_octets b xs) is ∙ sym (form_is t known (λ b. parts_octets b xs))

pub canonical_grown : {U E : Type 0} (r : Result U E) (t : ℕ) (known lowercase compresses : Bool) (xs : List Part) (old new : List ℕ) → lowercase ≡ (known && has_lowercase_names t)
    → OnOk r (Appended (PartsComposed xs (Whole lowercase) compresses old) old new) → OnOk r (new ≡ old ++ canonical t known xs)
canonical_grown r t known lowercase compresses xs old new is done =
    on_ok_weaker r (λ (a : Appended (PartsComposed xs (Whole lowercase) compresses old) old new). a.all ∙ ap (λ (s : List ℕ). old ++ s) (parts_whole xs lowercase compresses old a.octets a.allowed ∙ lowered t known lowercase xs is)) done

pub canonical_full : {U E : Type 0} (r : Result U E) (t : ℕ) (known lowercase : Bool) (xs : List Part) (old : List ℕ) (capacity : ℕ) → lowercase ≡ (known && has_lowercase_names t)
    → OnErr r (capacity < length old + length (parts_octets lowercase xs)) → OnErr r (capacity < length old + length (canonical t known xs))
canonical_full r t known lowercase xs old capacity is full =
    subst (λ (o : List ℕ). OnErr r (capacity < length old + length o)) (lowered t known lowercase xs is) full

pub canonical_some : {U E : Type 0} (r : Result U E) (t : ℕ) (known lowercase : Bool) (xs : List Part) → lowercase ≡ (known && has_lowercase_names t)
    → OnErr r (0 < length (parts_octets lowercase xs)) → OnErr r (0 < length (canonical t known xs))
canonical_some r t known lowercase xs is some = subst (λ (o : List ℕ). OnErr r (0 < length o)) (lowered t known lowercase xs is) some

-- ---- lengths
sized_by : (told : Option ℕ) (xs : List Part) (o : List ℕ) → length o ≡ length (parts_octets false xs) → IfSome told (λ n. length (parts_octets false xs) ≡ n) → IfSome told (λ n. length o ≡ n)
sized_by None xs o same flat = tt
sized_by (Some n) xs o same flat = same ∙ flat

pub form_size : (t : ℕ) (known compress : Bool) (xs : List Part) (told : Option ℕ) → IfSome told (λ n. length (parts_octets false xs) ≡ n)
    → compress ≡ false → IfSome told (λ n. length (canonical t known xs) ≡ n)
form_size t known compress xs told flat flatly =
    sized_by told xs (canonical t known xs) (ap (λ (o : List ℕ). length o) (form_is t known (λ b. parts_octets b xs)) ∙ parts_size (known && has_lowercase_names t) xs) flat

pub no_left : (a b : Bool) → a ≡ false → (a && b) ≡ false
no_left a b no_a = ap (λ x. x && b) no_a

pub no_right : (a b : Bool) → b ≡ false → (a && b) ≡ false
no_right true b no_b = no_b
no_right false b no_b = refl

one_size : (compress compressed : Bool) (xs : List Part) (n : ℕ) → (compress && compressed) ≡ false → length (parts_octets false xs) ≡ n
    → (t s : List ℕ) → PartsComposed xs (composed_form compressed) compress t s → length s ≡ n
one_size true true xs n other flat t s may = absurd (false≢true (sym other))
one_size false true xs n other flat t s may = ap (λ (o : List ℕ). length o) (parts_flat xs t s may) ∙ flat
one_size true false xs n other flat t s may = ap (λ (o : List ℕ). length o) (parts_whole xs false true t s may) ∙ flat
one_size false false xs n other flat t s may = ap (λ (o : List ℕ). length o) (parts_whole xs false false t s may) ∙ flat

pub all_sized : (compress compressed : Bool) (xs : List Part) (told : Option ℕ) → (compress && compressed) ≡ false → IfSome told (λ n. length (parts_octets false xs) ≡ n)
    → IfSome told (λ n. (t s : List ℕ) → PartsComposed xs (composed_form compressed) compress t s → length s ≡ n)
all_sized compress compressed xs None other flat = tt
all_sized compress compressed xs (Some n) other flat = one_size compress compressed xs n other flat

-- a length is known of at most 65,535 octets
many_test : (n : ℕ) → 65535 < n → nat_le n 65535 ≡ false
many_test n many = grind (arith, nat_tests)

test_many : (n : ℕ) → nat_le n 65535 ≡ false → 65535 < n
test_many n many = grind (arith, nat_tests)

few_known : (n : ℕ) (told : Option ℕ) → (IsNone told ↔ (65535 < n)) → IsNone told ↔ (nat_le n 65535 ≡ false)
few_known n told by = (λ none. many_test n (by.0 none), λ many. by.1 (test_many n many))

pub len_known : (compress compressed : Bool) (n : ℕ) (told : Option ℕ) → (compress && compressed) ≡ false → (IsNone told ↔ (65535 < n))
    → IsNone told ↔ ((not (compress && compressed) && nat_le n 65535) ≡ false)
len_known compress compressed n told other by =
    subst (λ (b : Bool). IsNone told ↔ ((not b && nat_le n 65535) ≡ false)) (sym other) (few_known n told by)

-- ---- the form of the type
pub form_lowers : (compressed : Bool) → lowers (composed_form compressed) ≡ false
form_lowers true = refl
form_lowers false = refl
