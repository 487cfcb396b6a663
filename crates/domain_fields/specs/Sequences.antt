-- One field of record data after another.
use Rattle.std.specs.Prelude.{◌≡◌, ℕ, ◌+◌, ◌<◌, ◌≤◌, Bool, true, false, nat_le, if◌then◌else◌, List, ◌++◌, length, Option, None, Some, refl}
use Rattle.std.proofs.Common.{ap, subst, ◌∙◌, arith, length-append, append_assoc}
use Rattle.domain_wire.specs.Refusals.{Refusal}
use Rattle.domain_rdata.specs.Members.{Writing}
use Rattle.domain_rdata.specs.OctetsAlone.{WritesComposed}
use Rattle.domain_rdata.specs.ReadBack.{Appended}
use Rattle.domain_fields.specs.FieldLaws.{known_once, none_known}
use Rattle.domain_fields.specs.Reading.{IsReadingOf}

-- The octets that may be appended after t: those of one field, and then those of the next.
pub record BothComposed (First Rest : List ℕ → List ℕ → Type 0) (t s : List ℕ) : Type 0 where
  pub first : List ℕ
  pub rest : List ℕ
  pub first_allowed : First t first
  pub rest_allowed : Rest (t ++ first) rest
  pub all : s ≡ first ++ rest

-- What a target becomes where one field was appended, and then the next.
pub record BothWritten {T : Type 0} (First Rest : T → T → Type 0) (old new : T) : Type 0 where
  pub middle : T
  pub first : First old middle
  pub rest : Rest middle new

-- A length of two fields, where both are known and their sum fits 16 bits.
abbrev pub both_len : Option ℕ → Option ℕ → Option ℕ
both_len None _ = None
both_len (Some a) None = None
both_len (Some a) (Some b) = if nat_le (a + b) 65535 then Some (a + b) else None

-- A value is at offset p in m, the next value is at its end, and e is the end of both.
pub record BothAt {A B : Type 0} (FirstAt : List ℕ → ℕ → A → ℕ → Type 0) (RestAt : List ℕ → ℕ → B → ℕ → Type 0) (m : List ℕ) (p : ℕ) (it : A × B) (e : ℕ) : Type 0 where
  pub middle : ℕ
  pub first : FirstAt m p it.0 middle
  pub rest : RestAt m middle it.1 e

-- The first value isn't there, or it is and the next isn't at its end, and why.
pub data NotBoth {A E : Type 0} (FirstAt : List ℕ → ℕ → A → ℕ → Type 0) (NoFirst NoRest : List ℕ → ℕ → E → Type 0) (m : List ℕ) (p : ℕ) (why : E) : Type 0 where
  no_first : NoFirst m p why → NotBoth FirstAt NoFirst NoRest m p why
  no_rest : (it : A) (middle : ℕ) → FirstAt m p it middle → NoRest m middle why → NotBoth FirstAt NoFirst NoRest m p why

both_once : {A B E : Type 0} (said : E → Refusal) (F : List ℕ → ℕ → A → ℕ → Type 0) (R : List ℕ → ℕ → B → ℕ → Type 0) (NF NR : List ℕ → ℕ → E → Type 0) → IsReadingOf said F NF → IsReadingOf said R NR → (m : List ℕ) (p : ℕ) (a b : A × B) (e f : ℕ) → BothAt F R m p a e → BothAt F R m p b f → (a ≡ b) × (e ≡ f)
both_once said F R NF NR fl rl m p a b e f x y =
    let same = fl.one_value m p a.0 b.0 x.middle y.middle x.first y.first in
    let there : R m y.middle a.1 e = subst (λ q. R m q a.1 e) same.1 x.rest in
    let rest = rl.one_value m y.middle a.1 b.1 e f there y.rest in
    ((λ i. (same.0 i, rest.0 i)), rest.1)

both_with : {A B E : Type 0} (said : E → Refusal) (F : List ℕ → ℕ → A → ℕ → Type 0) (R : List ℕ → ℕ → B → ℕ → Type 0) (NF NR : List ℕ → ℕ → E → Type 0) → IsReadingOf said F NF → IsReadingOf said R NR → (m : List ℕ) (p : ℕ) (it : A × B) (e : ℕ) (why : E) → BothAt F R m p it e → NotBoth F NF NR m p why → ⊥
both_with said F R NF NR fl rl m p it e why at (no_first missing) = fl.not_both m p it.0 at.middle why at.first missing
both_with said F R NF NR fl rl m p it e why at (no_rest first middle there missing) =
    let same = fl.one_value m p it.0 first at.middle middle at.first there in
    rl.not_both m middle it.1 e why (subst (λ q. R m q it.1 e) same.1 at.rest) missing

not_both_once : {A B E : Type 0} (said : E → Refusal) (F : List ℕ → ℕ → A → ℕ → Type 0) (R : List ℕ → ℕ → B → ℕ → Type 0) (NF NR : List ℕ → ℕ → E → Type 0) → IsReadingOf said F NF → IsReadingOf said R NR → (m : List ℕ) (p : ℕ) (why other : E) → NotBoth F NF NR m p why → NotBoth F NF NR m p other → said why ≡ said other
not_both_once said F R NF NR fl rl m p why other (no_first a) (no_first b) = fl.one_error m p why other a b
not_both_once said F R NF NR fl rl m p why other (no_first a) (no_rest it q at b) = absurd (fl.not_both m p it q why at a)
not_both_once said F R NF NR fl rl m p why other (no_rest it q at a) (no_first b) = absurd (fl.not_both m p it q other at b)
not_both_once said F R NF NR fl rl m p why other (no_rest it q at a) (no_rest and r also b) =
    let same = fl.one_value m p it and q r at also in
    rl.one_error m r why other (subst (λ q. NR m q why) same.1 a) b

-- where both are readings, so is one after the other
pub both_reading : {A B E : Type 0} (said : E → Refusal) (F : List ℕ → ℕ → A → ℕ → Type 0) (R : List ℕ → ℕ → B → ℕ → Type 0) (NF NR : List ℕ → ℕ → E → Type 0) → IsReadingOf said F NF → IsReadingOf said R NR → IsReadingOf said (BothAt F R) (NotBoth F NF NR)
both_reading said F R NF NR fl rl = record {
  inside = λ m p it e at. let a = fl.inside m p it.0 at.middle at.first in let b = rl.inside m at.middle it.1 e at.rest in (omega (arith, a.0, b.0), b.1);
  one_value = both_once said F R NF NR fl rl;
  not_both = both_with said F R NF NR fl rl;
  one_error = not_both_once said F R NF NR fl rl;
}

-- the laws of the composed octets
pub both_plain : (First Rest : List ℕ → List ℕ → Type 0) (t a b : List ℕ) → First t a → Rest (t ++ a) b → BothComposed First Rest t (a ++ b)
both_plain First Rest t a b first rest = record { first = a; rest = b; first_allowed = first; rest_allowed = rest; all = refl }

pub both_flat : (First Rest : List ℕ → List ℕ → Type 0) (a b t s : List ℕ) → ((t s : List ℕ) → First t s → s ≡ a) → ((t s : List ℕ) → Rest t s → s ≡ b) → BothComposed First Rest t s → s ≡ a ++ b
both_flat First Rest a b t s first rest both =
    both.all ∙ (ap (λ x. x ++ both.rest) (first t both.first both.first_allowed) ∙ ap (λ x. a ++ x) (rest (t ++ both.first) both.rest both.rest_allowed))

pub both_written : (WriteFirst WriteRest : Writing) (First Rest : Bool → List ℕ → List ℕ → Type 0) → WritesComposed WriteFirst First → WritesComposed WriteRest Rest → WritesComposed (λ T extends named. BothWritten (WriteFirst T extends named) (WriteRest T extends named)) (λ c. BothComposed (First c) (Rest c))
both_written WriteFirst WriteRest First Rest first rest compresses t u both =
    let one = first compresses t both.middle both.first in
    let two = rest compresses both.middle u both.rest in
    record {
      octets = one.octets ++ two.octets;
      allowed = both_plain (First compresses) (Rest compresses) t one.octets two.octets one.allowed (subst (λ m. Rest compresses m two.octets) one.all two.allowed);
      all = two.all ∙ (ap (λ m. m ++ two.octets) one.all ∙ append_assoc t one.octets two.octets);
    }

sum_known : (a b : ℕ) (c : Bool) (n : ℕ) → (if c then Some (a + b) else None) ≡ Some n → a + b ≡ n
sum_known a b true n told = known_once told
sum_known a b false n told = none_known told

-- the length of both, by those of each
pub both_known : (x y : Option ℕ) (n : ℕ) (a b : ℕ) → ((k : ℕ) → x ≡ Some k → a ≡ k) → ((k : ℕ) → y ≡ Some k → b ≡ k) → both_len x y ≡ Some n → a + b ≡ n
both_known None y n a b first rest told = none_known told
both_known (Some k) None n a b first rest told = none_known told
both_known (Some k) (Some l) n a b first rest told =
    let one = first k refl in
    let two = rest l refl in
    let sum = sum_known k l (nat_le (k + l) 65535) n told in
    omega arith

pub both_sized : (First Rest : List ℕ → List ℕ → Type 0) (x y : Option ℕ) (n : ℕ) (t s : List ℕ) → ((k : ℕ) (t s : List ℕ) → x ≡ Some k → First t s → length s ≡ k) → ((k : ℕ) (t s : List ℕ) → y ≡ Some k → Rest t s → length s ≡ k) → both_len x y ≡ Some n → BothComposed First Rest t s → length s ≡ n
both_sized First Rest x y n t s first rest told both =
    let sum = both_known x y n (length both.first) (length both.rest) (λ k known. first k t both.first known both.first_allowed) (λ k known. rest k (t ++ both.first) both.rest known both.rest_allowed) told in
    ap length both.all ∙ (length-append both.first both.rest ∙ sum)

pub both_canonical : (a b : List ℕ) (x y : Option ℕ) (n : ℕ) → ((k : ℕ) → x ≡ Some k → length a ≡ k) → ((k : ℕ) → y ≡ Some k → length b ≡ k) → both_len x y ≡ Some n → length (a ++ b) ≡ n
both_canonical a b x y n first rest told = length-append a b ∙ both_known x y n (length a) (length b) first rest told

-- octets of both that are the same
pub both_same : {a b c d : List ℕ} → a ≡ b → c ≡ d → a ++ c ≡ b ++ d
both_same {b = b} {c = c} first rest = ap (λ x. x ++ c) first ∙ ap (λ y. b ++ y) rest

-- what may be appended for both is no longer than both with no name compressed
pub both_shorter : (First Rest : List ℕ → List ℕ → Type 0) (t s a b : List ℕ) → ((t s : List ℕ) → First t s → length s ≤ length a) → ((t s : List ℕ) → Rest t s → length s ≤ length b) → BothComposed First Rest t s → length s ≤ length (a ++ b)
both_shorter First Rest t s a b first rest both =
    omega (arith, ap length both.all, length-append both.first both.rest, length-append a b, first t both.first both.first_allowed, rest (t ++ both.first) both.rest both.rest_allowed)

-- Where the first exceeds the capacity, or the rest after it does, both do with no name compressed.
pub first_exceeds : (t a b : List ℕ) (capacity : ℕ) → capacity < length t + length a → capacity < length t + length (a ++ b)
first_exceeds t a b capacity full = omega (arith, full, length-append a b)

pub rest_exceeds : (First : List ℕ → Type 0) (t mid a b : List ℕ) (capacity grown : ℕ) → Appended First t mid → ((s : List ℕ) → First s → length s ≤ length a) → capacity ≤ grown → grown < length mid + length b → capacity < length t + length (a ++ b)
rest_exceeds First t mid a b capacity grown done shorter more full =
    omega (arith, full, more, ap length done.all, length-append t done.octets, shorter done.octets done.allowed, length-append a b)
