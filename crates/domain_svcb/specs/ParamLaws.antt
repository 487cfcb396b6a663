-- Octets are those of one list of parameters, or one fault is the first.
use Rattle.std.specs.Prelude.{◌≡◌, ℕ, ◌+◌, ◌*◌, ◌/◌, ◌%◌, ◌<◌, ◌≤◌, List, [], ◌∷◌, ◌++◌, length, drop, take, cond, nat_lt, Option, None, Some, refl}
use Rattle.std.proofs.Common.{arith, rules, ap, sym, subst, ◌∙◌, append_assoc, append-nil, length-append}
use Rattle.std.proofs.Math.Seq.{take-append_seam, drop-append_seam}
use Rattle.std.proofs.lemmas.Bool.{le-ltb}
use Rattle.std.specs.Coded.{×_prop, Unit-prop, le_prop, Coded-set, coded_list, coded_ℕ}
use Rattle.domain_svcb.specs.SvcParams.{params_octets, AreParams, HasParams, param_fault, next_key, NoParams}
use Rattle.domain_svcb.specs.declared.params.SvcParamsError.{SvcParamsError}

-- a number of its two octets
pub of_octets : (n : ℕ) → n / 256 * 256 + n % 256 ≡ n
of_octets n = omega arith

pub same_number : (m n : ℕ) → m / 256 ≡ n / 256 → m % 256 ≡ n % 256 → m ≡ n
same_number m n high low = sym (of_octets m) ∙ (ap (λ h. h * 256 + m % 256) high ∙ (ap (λ l. n / 256 * 256 + l) low ∙ of_octets n))

-- nothing is wrong with a parameter
pub no_fault : (least key : ℕ) (value rest : List ℕ) → least ≤ key → param_fault least (key / 256 ∷ key % 256 ∷ length value / 256 ∷ length value % 256 ∷ (value ++ rest)) ≡ None
no_fault least key value rest order =
    let order2 : least ≤ key / 256 * 256 + key % 256 = omega (arith, order, of_octets key) in
    let size : length value / 256 * 256 + length value % 256 ≤ length (value ++ rest) = omega (arith, of_octets (length value), length-append value rest) in
    rw (le-ltb (key / 256 * 256 + key % 256) least order2, le-ltb (length (value ++ rest)) (length value / 256 * 256 + length value % 256) size) refl

none_some : {A : Type 0} {x : A} → None ≡ Some x → ⊥
none_some e = search rules

some_same : {A : Type 0} {x y : A} → Some x ≡ Some y → x ≡ y
some_same e = search rules

-- so where something is wrong there is none
pub no_param : (least : ℕ) (p : ℕ × List ℕ) (ps : List (ℕ × List ℕ)) (o rest : List ℕ) (why : SvcParamsError) → AreParams least (p ∷ ps) → o ≡ params_octets (p ∷ ps) ++ rest → param_fault least o ≡ Some why → ⊥
no_param least p ps o rest why are parts wrong =
    let whole : o ≡ p.0 / 256 ∷ p.0 % 256 ∷ length p.1 / 256 ∷ length p.1 % 256 ∷ (p.1 ++ (params_octets ps ++ rest)) = parts ∙ ap (λ t. p.0 / 256 ∷ p.0 % 256 ∷ length p.1 / 256 ∷ length p.1 % 256 ∷ t) (append_assoc p.1 (params_octets ps) rest) in
    let none = no_fault least p.0 p.1 (params_octets ps ++ rest) are.0.0 in
    none_some (sym none ∙ (ap (param_fault least) (sym whole) ∙ wrong))

-- octets that begin with no parameter
abbrev Stuck : ℕ → List ℕ → Type 0
Stuck least o = (p : ℕ × List ℕ) (ps : List (ℕ × List ℕ)) (rest : List ℕ) → AreParams least (p ∷ ps) → o ≡ params_octets (p ∷ ps) ++ rest → ⊥

stuck_end : (least : ℕ) → Stuck least []
stuck_end least p ps rest are parts = omega (arith, ap length parts)

stuck_fault : (least : ℕ) (o : List ℕ) (why : SvcParamsError) → param_fault least o ≡ Some why → Stuck least o
stuck_fault least o why wrong p ps rest are parts = no_param least p ps o rest why are parts wrong

same_pair : (a b : ℕ × List ℕ) → a.0 ≡ b.0 → a.1 ≡ b.1 → a ≡ b
same_pair a b x y = λ i. (x i, y i)

-- parameters that octets begin with are the same, and so is what follows
pub same_first : (x y : ℕ) (a b r s : List ℕ) → x / 256 ∷ x % 256 ∷ length a / 256 ∷ length a % 256 ∷ (a ++ r) ≡ y / 256 ∷ y % 256 ∷ length b / 256 ∷ length b % 256 ∷ (b ++ s) → (x ≡ y) × ((a ≡ b) × (r ≡ s))
same_first x y a b r s e =
    let high : x / 256 ≡ y / 256 = cc in
    let low : x % 256 ≡ y % 256 = cc in
    let long_high : length a / 256 ≡ length b / 256 = cc in
    let long_low : length a % 256 ≡ length b % 256 = cc in
    let tail : a ++ r ≡ b ++ s = cc in
    let long : length a ≡ length b = same_number (length a) (length b) long_high long_low in (
      same_number x y high low,
      (
        sym (take-append_seam a r) ∙ (ap (take (length a)) tail ∙ (ap (λ n. take n (b ++ s)) long ∙ take-append_seam b s)),
        sym (drop-append_seam a r) ∙ (ap (drop (length a)) tail ∙ (ap (λ n. drop n (b ++ s)) long ∙ drop-append_seam b s)),
      ),
    )

-- octets are in one way parameters and what begins with none
same_params : (least : ℕ) (xs ys : List (ℕ × List ℕ)) (r s : List ℕ) → params_octets xs ++ r ≡ params_octets ys ++ s → AreParams least xs → AreParams least ys → Stuck (next_key least xs) r → Stuck (next_key least ys) s → (xs ≡ ys) × (r ≡ s)
same_params least [] [] r s e are also stuck held = (refl, e)
same_params least [] (y ∷ ys) r s e are also stuck held = absurd (stuck y ys s also e)
same_params least (x ∷ xs) [] r s e are also stuck held = absurd (held x xs r are (sym e))
same_params least (x ∷ xs) (y ∷ ys) r s e are also stuck held =
    let front = λ (p : ℕ × List ℕ) (t : List ℕ). p.0 / 256 ∷ p.0 % 256 ∷ length p.1 / 256 ∷ length p.1 % 256 ∷ t in
    let one : front x (x.1 ++ (params_octets xs ++ r)) ≡ front y (y.1 ++ (params_octets ys ++ s)) = ap (front x) (sym (append_assoc x.1 (params_octets xs) r)) ∙ (e ∙ ap (front y) (append_assoc y.1 (params_octets ys) s)) in
    let first = same_first x.0 y.0 x.1 y.1 (params_octets xs ++ r) (params_octets ys ++ s) one in
    let next : x.0 + 1 ≡ y.0 + 1 = ap (λ n. n + 1) first.0 in
    let rest = same_params (x.0 + 1) xs ys r s first.1.1 are.1 (subst (λ n. AreParams n ys) (sym next) also.1) stuck (subst (λ n. Stuck (next_key n ys) s) (sym next) held) in
    (λ i. same_pair x y first.0 first.1.0 i ∷ rest.0 i, rest.1)

-- parameters are those of their octets alone
pub params_once : (xs ys : List (ℕ × List ℕ)) → params_octets xs ≡ params_octets ys → AreParams 0 xs → AreParams 0 ys → xs ≡ ys
params_once xs ys e are also =
    (same_params 0 xs ys [] [] (append-nil (params_octets xs) ∙ (e ∙ sym (append-nil (params_octets ys)))) are also (stuck_end (next_key 0 xs)) (stuck_end (next_key 0 ys))).0

no_fault_left : (n : ℕ) (r : List ℕ) (why : SvcParamsError) → [] ≡ r → param_fault n r ≡ Some why → ⊥
no_fault_left n r why e wrong = none_some (ap (param_fault n) e ∙ wrong)

-- octets aren't parameters and none
pub params_or_fault : (o : List ℕ) (ps : List (ℕ × List ℕ)) (why : SvcParamsError) → o ≡ params_octets ps → AreParams 0 ps → NoParams o why → ⊥
params_or_fault o ps why e are bad =
    let same = same_params 0 ps bad.before [] bad.rest (append-nil (params_octets ps) ∙ (sym e ∙ bad.parts)) are bad.are (stuck_end (next_key 0 ps)) (stuck_fault (next_key 0 bad.before) bad.rest why bad.none) in
    no_fault_left (next_key 0 bad.before) bad.rest why same.1 bad.none

-- one fault is the first
pub one_param_fault : (o : List ℕ) (why other : SvcParamsError) → NoParams o why → NoParams o other → why ≡ other
one_param_fault o why other a b =
    let same = same_params 0 a.before b.before a.rest b.rest (sym a.parts ∙ b.parts) a.are b.are (stuck_fault (next_key 0 a.before) a.rest why a.none) (stuck_fault (next_key 0 b.before) b.rest other b.none) in
    some_same (sym a.none ∙ (ap (λ ps. param_fault (next_key 0 ps) a.rest) same.0 ∙ (ap (param_fault (next_key 0 b.before)) same.1 ∙ b.none)))

are_prop : (least : ℕ) (ps : List (ℕ × List ℕ)) → IsProp (AreParams least ps)
are_prop least [] = Unit-prop
are_prop least (p ∷ ps) =
    ×_prop (×_prop (le_prop {n = least} {m = p.0}) (×_prop (le_prop {n = p.0} {m = 65535}) (le_prop {n = length p.1} {m = 65535}))) (are_prop (p.0 + 1) ps)

fact : (o : List ℕ) (ps : List (ℕ × List ℕ)) → IsProp ((o ≡ params_octets ps) × AreParams 0 ps)
fact o ps = ×_prop (Coded-set (coded_list coded_ℕ) _ _) (are_prop 0 ps)

-- that octets are parameters has one proof
pub HasParams_prop : (o : List ℕ) → IsProp (HasParams 0 o)
HasParams_prop o x y =
    let same : x.0 ≡ y.0 = params_once x.0 y.0 (sym x.1 ∙ y.1) x.2 y.2 in
    subst (λ ps. (q : (o ≡ params_octets ps) × AreParams 0 ps) → x ≡ (ps, q.0, q.1)) same (λ q. ap (λ r. (x.0, r.0, r.1)) (fact o x.0 (x.1, x.2) q)) (y.1, y.2)
