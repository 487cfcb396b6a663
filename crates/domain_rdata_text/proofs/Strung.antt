-- Character strings one after another.
use Rattle.std.proofs.Common.{◌≡◌, ◌∙◌, ℕ, ◌+◌, ◌-◌, ◌<◌, ◌≤◌, Bool, true, false, ◌==◌, cond, List, [], ◌∷◌, ◌++◌, length, Option, Some, None, refl, sym, subst, ap, append_assoc, append-nil, length-append, arith}
use Rattle.std.specs.List.{AllByRecursion, flat_map}
use Rattle.std.proofs.lemmas.Bool.{eqb-true, eqb-false}
use Rattle.std.proofs.lemmas.List.Concat.{flat_map-append}
use Rattle.domain_rdata_text.specs.declared.value.Open.{Open}
use Rattle.domain_rdata_text.specs.declared.value.Open.TheVariants.{Between, Inside}
use Rattle.domain_rdata_text.specs.Laws.{AreOctets}
use Rattle.domain_rdata_text.specs.Values.{counted, strings_in, IsOpen}
use Rattle.domain_rdata_text.proofs.Octets.{octets_append}

-- a string of at most 255 octets
abbrev pub IsString : List ℕ → Type 0
IsString s = (length s ≤ 255) × AreOctets s

some_same : {A : Type 0} (d : A) → Option A → A
some_same d None = d
some_same d (Some a) = a

pub same_some : {A : Type 0} (a b : A) → Some a ≡ Some b → a ≡ b
unfolding some_same
same_some a b e = ap (some_same a) e

pub none_some : {A : Type 0} (a : A) → None ≡ Some a → ⊥
none_some a e = cc

-- a choice that gave something
pub cond_some : {A : Type 0} (b : Bool) (x y : Option A) (t : A) (G : Type 0) → (b ≡ true → x ≡ Some t → G) → (b ≡ false → y ≡ Some t → G) → cond b x y ≡ Some t → G
cond_some true x y t G f g h = f refl h
cond_some false x y t G f g h = g refl h

-- what was read of an open string, with the octet that tells its length
abbrev lead : List ℕ → Open → List ℕ
lead s Between = []
lead s (Inside k) = (length s + k) ∷ s

one_string : (ss : List (List ℕ)) (s : List ℕ) → flat_map counted (ss ++ s ∷ []) ≡ flat_map counted ss ++ counted s
one_string ss s = flat_map-append counted ss (s ∷ []) ∙ ap (λ (x : List ℕ). flat_map counted ss ++ x) (append-nil (counted s))

positive : (n : ℕ) → (n == 0) ≡ false → 0 < n
positive n z = omega (arith, eqb-false n 0 z)

zero_more : (n : ℕ) → 0 + n ≡ n
zero_more n = omega arith

whole_length : (s : List ℕ) (c k : ℕ) → k ≡ 1 → length (s ++ c ∷ []) ≡ length s + k
whole_length s c k one = omega (arith, one, length-append s (c ∷ []))

part_length : (s : List ℕ) (c k : ℕ) → 0 < k → length (s ++ c ∷ []) + (k - 1) ≡ length s + k
part_length s c k some = omega (arith, some, length-append s (c ∷ []))

some_left : (k : ℕ) → 0 < k → (k == 1) ≡ false → 0 < k - 1
some_left k some z = omega (arith, some, eqb-false k 1 z)

-- the strings have the octets that they are read of
pub octets_of : (os : List ℕ) (ss : List (List ℕ)) (s : List ℕ) (o : Open) (ts : List (List ℕ)) → IsOpen s o → strings_in ss s o os ≡ Some ts
    → flat_map counted ts ≡ flat_map counted ss ++ (lead s o ++ os)
octets_of [] ss s Between ts i h = ap (λ (x : List (List ℕ)). flat_map counted x) (sym (same_some ss ts h)) ∙ sym (append-nil (flat_map counted ss))
octets_of [] ss s (Inside k) ts i h = absurd (none_some ts h)
octets_of (c ∷ os) ss s Between ts i h =
    let F = flat_map counted ss in
    cond_some (c == 0) (strings_in (ss ++ [] ∷ []) [] Between os) (strings_in ss [] (Inside c) os) ts (flat_map counted ts ≡ F ++ (c ∷ os))
    (λ z e. octets_of os (ss ++ [] ∷ []) [] Between ts refl e ∙ ap (λ (x : List ℕ). x ++ os) (one_string ss [])
    ∙ append_assoc F (0 ∷ []) os ∙ ap (λ (x : ℕ). F ++ (x ∷ os)) (sym (eqb-true c 0 z)))
    (λ z e. octets_of os ss [] (Inside c) ts (positive c z) e ∙ ap (λ (x : ℕ). F ++ (x ∷ os)) (zero_more c))
    h
octets_of (c ∷ os) ss s (Inside k) ts i h =
    let F = flat_map counted ss in
    let u = s ++ c ∷ [] in
    cond_some (k == 1) (strings_in (ss ++ u ∷ []) [] Between os) (strings_in ss u (Inside (k - 1)) os) ts (flat_map counted ts ≡ F ++ ((length s + k) ∷ (s ++ c ∷ os)))
    (λ z e. octets_of os (ss ++ u ∷ []) [] Between ts refl e ∙ ap (λ (x : List ℕ). x ++ os) (one_string ss u)
    ∙ append_assoc F (counted u) os ∙ ap (λ (x : ℕ). F ++ (x ∷ (u ++ os))) (whole_length s c k (eqb-true k 1 z))
    ∙ ap (λ (x : List ℕ). F ++ ((length s + k) ∷ x)) (append_assoc s (c ∷ []) os))
    (λ z e. octets_of os ss u (Inside (k - 1)) ts (some_left k i z) e ∙ ap (λ (x : ℕ). F ++ (x ∷ (u ++ os))) (part_length s c k i)
    ∙ ap (λ (x : List ℕ). F ++ ((length s + k) ∷ x)) (append_assoc s (c ∷ []) os))
    h

-- So many octets of an open string are to come that it has at most 255.
abbrev Fits : List ℕ → Open → Type 0
Fits s Between = Unit {0}
Fits s (Inside k) = (0 < k) × (length s + k ≤ 255)

all_more : (ss : List (List ℕ)) (s : List ℕ) → AllByRecursion IsString ss → IsString s → AllByRecursion IsString (ss ++ s ∷ [])
all_more [] s b h = (h, tt)
all_more (t ∷ ss) s b h = (b.0, all_more ss s b.1 h)

first_fits : (c : ℕ) → c < 256 → (c == 0) ≡ false → Fits [] (Inside c)
first_fits c low z = (positive c z, omega (arith, low))

last_fits : (s : List ℕ) (c k : ℕ) → k ≡ 1 → length s + k ≤ 255 → length (s ++ c ∷ []) ≤ 255
last_fits s c k one few = omega (arith, few, whole_length s c k one)

next_fits : (s : List ℕ) (c k : ℕ) → 0 < k → (k == 1) ≡ false → length s + k ≤ 255 → Fits (s ++ c ∷ []) (Inside (k - 1))
next_fits s c k some z few = (some_left k some z, omega (arith, few, part_length s c k some))

-- and each has at most 255
pub all_short : (os : List ℕ) (ss : List (List ℕ)) (s : List ℕ) (o : Open) (ts : List (List ℕ)) → AreOctets os → AreOctets s → AllByRecursion IsString ss → Fits s o
    → strings_in ss s o os ≡ Some ts → AllByRecursion IsString ts
all_short [] ss s Between ts a b d f h = subst (λ (x : List (List ℕ)). AllByRecursion IsString x) (same_some ss ts h) d
all_short [] ss s (Inside k) ts a b d f h = absurd (none_some ts h)
all_short (c ∷ os) ss s Between ts a b d f h =
    cond_some (c == 0) (strings_in (ss ++ [] ∷ []) [] Between os) (strings_in ss [] (Inside c) os) ts (AllByRecursion IsString ts)
    (λ z e. all_short os (ss ++ [] ∷ []) [] Between ts a.1 tt (all_more ss [] d (omega arith, tt)) tt e)
    (λ z e. all_short os ss [] (Inside c) ts a.1 tt d (first_fits c a.0 z) e)
    h
all_short (c ∷ os) ss s (Inside k) ts a b d f h =
    let u = s ++ c ∷ [] in
    let bytes : AreOctets u = octets_append s (c ∷ []) b (a.0, tt) in
    cond_some (k == 1) (strings_in (ss ++ u ∷ []) [] Between os) (strings_in ss u (Inside (k - 1)) os) ts (AllByRecursion IsString ts)
    (λ z e. all_short os (ss ++ u ∷ []) [] Between ts a.1 tt (all_more ss u d (last_fits s c k (eqb-true k 1 z) f.1, bytes)) tt e)
    (λ z e. all_short os ss u (Inside (k - 1)) ts a.1 bytes d (next_fits s c k f.0 z f.1) e)
    h
