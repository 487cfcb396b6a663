-- Two names gone over together from the front, up to what both end with: the last labels before that decide their
-- order.
use Rattle.std.proofs.Common.{◌≡◌, ◌≢◌, ℕ, ◌+◌, ◌-◌, ◌≤◌, ◌<◌, List, [], ◌∷◌, ◌++◌, length, reverse, Option, None, Some, refl, sym, ap, ◌∙◌, arith, append_assoc, length-append}
use Rattle.std.proofs.lemmas.List.{reverse-append, map-append, length-map}
use Rattle.std.specs.Ordering.{nat_cmp, ordering_then, ordering_reverse}
use Rattle.std.specs.declared.cmp.Ordering.{Ordering}
use Rattle.std.specs.declared.cmp.Ordering.TheVariants.{Less, Equal, Greater}
use Rattle.std.specs.Cmp.Lexicographic.{slice_cmp}
use Rattle.std.specs.FinSet.{slice_cmp-IsAntisymmetric, nat_cmp-IsAntisymmetric}
use Rattle.std.proofs.lemmas.Cmp.{nat_list_cmp_total}
use Rattle.std.specs.Char.{to_ascii_lowercase}
use Rattle.domain_label.specs.Lowercase.{lowercase, lowercase_labels, cmp_ignoring_case}
use Rattle.domain_label.specs.Labels.{label_octets}
use Rattle.domain_label.specs.Wire.{wire}
use Rattle.domain_label.specs.declared.label.Label.{Label}
use Rattle.domain_list.specs.EqualSuffixes.{SuffixesEqual}
use Rattle.domain_list.specs.Order.{canonical_order, from_right, last_order}
use Rattle.domain_list.proofs.Steps.{from_right_last}

-- x is the last of the labels, which are none where it is
abbrev pub EndsIn : List (List ℕ) → Option Label → Type 0
EndsIn us None = us ≡ []
EndsIn us (Some x) = (f : List (List ℕ)) × (us ≡ f ++ label_octets x ∷ [])

-- x, after which m octets are left, reaches further to the front than n octets from the end
abbrev pub Reaches : Option Label → ℕ → ℕ → Type 0
Reaches None m n = Unit {0}
Reaches (Some x) m n = n ≤ m + length (label_octets x)

abbrev pub Differ : Option Label → Option Label → Type 0
Differ None y = Unit {0}
Differ (Some x) None = Unit {0}
Differ (Some x) (Some y) = lowercase (label_octets x) ≢ lowercase (label_octets y)

-- Of xs and ys, ps and qs are left, of m and n octets. Before those stand zs and ws, which are alike, and before these
-- the labels x and y.
pub record Met (xs ys ps qs : List (List ℕ)) (x y : Option Label) (m n : ℕ) : Type 0 where
  pub us : List (List ℕ)
  pub vs : List (List ℕ)
  pub zs : List (List ℕ)
  pub ws : List (List ℕ)
  pub left : xs ≡ us ++ (zs ++ ps)
  pub right : ys ≡ vs ++ (ws ++ qs)
  pub alike : lowercase_labels zs ≡ lowercase_labels ws
  pub x_last : EndsIn us x
  pub y_last : EndsIn vs y
  pub m_is : m ≡ length (wire ps)
  pub n_is : n ≡ length (wire qs)
  pub level : m ≡ n → Differ x y
  pub after : n < m → (zs ≡ []) × (ws ≡ []) × Reaches y n m
  pub ahead : m < n → (zs ≡ []) × (ws ≡ []) × Reaches x m n

differ_sym : (x y : Option Label) → Differ x y → Differ y x
differ_sym None None d = tt
differ_sym None (Some y) d = tt
differ_sym (Some x) None d = tt
differ_sym (Some x) (Some y) d = λ e. d (sym e)

swapped : {xs ys ps qs : List (List ℕ)} {x y : Option Label} {m n : ℕ} → Met xs ys ps qs x y m n → Met ys xs qs ps y x n m
swapped {x = x} {y} t = record {
  us = t.vs;
  vs = t.us;
  zs = t.ws;
  ws = t.zs;
  left = t.right;
  right = t.left;
  alike = sym t.alike;
  x_last = t.y_last;
  y_last = t.x_last;
  m_is = t.n_is;
  n_is = t.m_is;
  level = λ e. differ_sym x y (t.level (sym e));
  after = λ h. let b = t.ahead h in (b.1, b.0, b.2);
  ahead = λ h. let b = t.after h in (b.1, b.0, b.2);
}

pub met_start : (xs ys : List (List ℕ)) (m n : ℕ) → m ≡ length (wire xs) → n ≡ length (wire ys) → Met xs ys xs ys None None m n
met_start xs ys m n e f = record {
  us = [];
  vs = [];
  zs = [];
  ws = [];
  left = refl;
  right = refl;
  alike = refl;
  x_last = refl;
  y_last = refl;
  m_is = e;
  n_is = f;
  level = λ _. tt;
  after = λ _. (refl, refl, tt);
  ahead = λ _. (refl, refl, tt);
}

-- a label more on one side
split_one : (xs us zs ps ps' : List (List ℕ)) (l : List ℕ) → xs ≡ us ++ (zs ++ ps) → ps ≡ l ∷ ps' → xs ≡ (us ++ (zs ++ l ∷ [])) ++ ([] ++ ps')
split_one xs us zs ps ps' l e f =
    e ∙ (ap (λ ps. us ++ (zs ++ ps)) f ∙ (ap (λ r. us ++ r) (sym (append_assoc zs (l ∷ []) ps')) ∙ sym (append_assoc us (zs ++ l ∷ []) ps')))

sized : (m k : ℕ) (ps ps' : List (List ℕ)) (l : List ℕ) → m ≡ length (wire ps) → ps ≡ l ∷ ps' → k ≡ length l → (m - (k + 1) ≡ length (wire ps')) × (m ≡ m - (k + 1) + length l + 1)
sized m k ps ps' l e f g =
    let w : length (wire ps) ≡ length (wire (l ∷ ps')) = ap (λ ls. length (wire ls)) f in
    (omega (arith, e, w, g, length-append l (wire ps')), omega (arith, e, w, g, length-append l (wire ps')))

shorter_differs : (x y : List ℕ) → length x < length y → lowercase x ≢ lowercase y
shorter_differs x y lt e =
    omega (arith, lt, ap (λ l. length l) e, length-map x to_ascii_lowercase, length-map y to_ascii_lowercase)

reaches_less : (y : Option Label) (n m m' : ℕ) → m' ≤ m → Reaches y n m → Reaches y n m'
reaches_less None n m m' le r = tt
reaches_less (Some y) n m m' le r = omega arith

apart_now : (p : Label) (y : Option Label) (m' m n : ℕ) → m ≡ m' + length (label_octets p) + 1 → m' ≡ n → Reaches y n m → Differ (Some p) y
apart_now p None m' m n e f r = tt
apart_now p (Some y) m' m n e f r = shorter_differs (label_octets p) (label_octets y) (omega arith)

-- the side of which more is left goes on
pub met_left : {xs ys ps qs : List (List ℕ)} {x y : Option Label} {m n : ℕ} (k : ℕ) (ps' : List (List ℕ)) (p : Label) → Met xs ys ps qs x y m n → n < m → ps ≡ label_octets p ∷ ps' → k ≡ length (label_octets p) → Met xs ys ps' qs (Some p) y (m - (k + 1)) n
met_left {xs} {ps = ps} {y = y} {m} {n} k ps' p t more e size =
    let l = label_octets p in
    let b = t.after more in
    let s = sized m k ps ps' l t.m_is e size in
    record {
      us = t.us ++ (t.zs ++ l ∷ []);
      vs = t.vs;
      zs = [];
      ws = t.ws;
      left = split_one xs t.us t.zs ps ps' l t.left e;
      right = t.right;
      alike = sym (ap (λ ws. lowercase_labels ws) b.1);
      x_last = (t.us ++ t.zs, sym (append_assoc t.us t.zs (l ∷ [])));
      y_last = t.y_last;
      m_is = s.0;
      n_is = t.n_is;
      level = λ f. apart_now p y (m - (k + 1)) m n s.1 f b.2;
      after = λ h. (refl, b.1, reaches_less y n m (m - (k + 1)) (omega arith) b.2);
      ahead = λ h. (refl, b.1, omega (arith, s.1));
    }

pub met_right : {xs ys ps qs : List (List ℕ)} {x y : Option Label} {m n : ℕ} (k : ℕ) (qs' : List (List ℕ)) (q : Label) → Met xs ys ps qs x y m n → m < n → qs ≡ label_octets q ∷ qs' → k ≡ length (label_octets q) → Met xs ys ps qs' x (Some q) m (n - (k + 1))
met_right k qs' q t more e size = swapped (met_left k qs' q (swapped t) more e size)

-- both go on from where as many octets are left
pub met_same : {xs ys ps qs : List (List ℕ)} {x y : Option Label} {m n : ℕ} (j k : ℕ) (ps' qs' : List (List ℕ)) (p q : Label) → Met xs ys ps qs x y m n → m ≡ n → ps ≡ label_octets p ∷ ps' → qs ≡ label_octets q ∷ qs' → j ≡ length (label_octets p) → k ≡ length (label_octets q) → lowercase (label_octets p) ≡ lowercase (label_octets q)
    → Met xs ys ps' qs' x y (m - (j + 1)) (n - (k + 1))
met_same {xs} {ys} {ps} {qs} {m = m} {n} j k ps' qs' p q t eq e f jl kl same =
    let l = label_octets p in
    let r = label_octets q in
    let s = sized m j ps ps' l t.m_is e jl in
    let u = sized n k qs qs' r t.n_is f kl in
    let long : j ≡ k = omega (arith, jl, kl, ap (λ l. length l) same, length-map l to_ascii_lowercase, length-map r to_ascii_lowercase) in
    record {
      us = t.us;
      vs = t.vs;
      zs = t.zs ++ l ∷ [];
      ws = t.ws ++ r ∷ [];
      left = t.left ∙ (ap (λ ps. t.us ++ (t.zs ++ ps)) e ∙ ap (λ xs. t.us ++ xs) (sym (append_assoc t.zs (l ∷ []) ps')));
      right = t.right ∙ (ap (λ qs. t.vs ++ (t.ws ++ qs)) f ∙ ap (λ xs. t.vs ++ xs) (sym (append_assoc t.ws (r ∷ []) qs')));
      alike = map-append lowercase t.zs (l ∷ []) ∙ (ap (λ zs. zs ++ lowercase l ∷ []) t.alike ∙ (ap (λ l. lowercase_labels t.ws ++ l ∷ []) same ∙ sym (map-append lowercase t.ws (r ∷ []))));
      x_last = t.x_last;
      y_last = t.y_last;
      m_is = s.0;
      n_is = u.0;
      level = λ _. t.level eq;
      after = λ h. absurd (omega (arith, h, eq, long));
      ahead = λ h. absurd (omega (arith, h, eq, long));
    }

pub met_apart : {xs ys ps qs : List (List ℕ)} {x y : Option Label} {m n : ℕ} (j k : ℕ) (ps' qs' : List (List ℕ)) (p q : Label) → Met xs ys ps qs x y m n → m ≡ n → ps ≡ label_octets p ∷ ps' → qs ≡ label_octets q ∷ qs' → j ≡ length (label_octets p) → k ≡ length (label_octets q) → lowercase (label_octets p) ≢ lowercase (label_octets q)
    → Met xs ys ps' qs' (Some p) (Some q) (m - (j + 1)) (n - (k + 1))
met_apart {xs} {ys} {ps} {qs} {m = m} {n} j k ps' qs' p q t eq e f jl kl apart =
    let l = label_octets p in
    let r = label_octets q in
    let s = sized m j ps ps' l t.m_is e jl in
    let u = sized n k qs qs' r t.n_is f kl in
    record {
      us = t.us ++ (t.zs ++ l ∷ []);
      vs = t.vs ++ (t.ws ++ r ∷ []);
      zs = [];
      ws = [];
      left = split_one xs t.us t.zs ps ps' l t.left e;
      right = split_one ys t.vs t.ws qs qs' r t.right f;
      alike = refl;
      x_last = (t.us ++ t.zs, sym (append_assoc t.us t.zs (l ∷ [])));
      y_last = (t.vs ++ t.ws, sym (append_assoc t.vs t.ws (r ∷ [])));
      m_is = s.0;
      n_is = u.0;
      level = λ _. apart;
      after = λ h. (refl, refl, omega (arith, s.1, u.1, eq));
      ahead = λ h. (refl, refl, omega (arith, s.1, u.1, eq));
    }

-- ---- what decides

then_first : (o p : Ordering) → (o ≡ Equal → ⊥) → ordering_then o p ≡ o
then_first Less p h = refl
then_first Equal p h = absurd (h refl)
then_first Greater p h = refl

no_side : (o : Ordering) → o ≡ ordering_reverse o → o ≡ Equal
no_side Less e = cc
no_side Equal e = refl
no_side Greater e = cc

-- what both begin with decides nothing
same_front : (c a b : List (List ℕ)) → slice_cmp (slice_cmp nat_cmp) (c ++ a) (c ++ b) ≡ slice_cmp (slice_cmp nat_cmp) a b
same_front [] a b = refl
same_front (l ∷ c) a b = ap (λ o. ordering_then o (slice_cmp (slice_cmp nat_cmp) (c ++ a) (c ++ b))) (no_side _ (nat_list_cmp_total.antisymm l l)) ∙ same_front c a b

from_right-append : (us zs : List (List ℕ)) → from_right (us ++ zs) ≡ reverse (lowercase_labels zs) ++ from_right us
from_right-append us zs = ap reverse (map-append lowercase us zs) ∙ reverse-append (lowercase_labels us) (lowercase_labels zs)

same_back : (us vs zs ws : List (List ℕ)) → lowercase_labels zs ≡ lowercase_labels ws → canonical_order (us ++ zs) (vs ++ ws) ≡ canonical_order us vs
same_back us vs zs ws e =
    let c = reverse (lowercase_labels ws) in
    let a : from_right (us ++ zs) ≡ c ++ from_right us = from_right-append us zs ∙ ap (λ ls. reverse ls ++ from_right us) e in
    ap (λ xs. slice_cmp (slice_cmp nat_cmp) xs (from_right (vs ++ ws))) a ∙ (ap (λ ys. slice_cmp (slice_cmp nat_cmp) (c ++ from_right us) ys) (from_right-append vs ws) ∙ same_front c (from_right us) (from_right vs))

decided : (us vs : List (List ℕ)) (x y : Option Label) → EndsIn us x → EndsIn vs y → Differ x y → last_order x y ≡ canonical_order us vs
decided us vs None None a b d = rw (a, b) refl
decided us vs None (Some y) a (f, b) d = rw (a, b) (rw (from_right_last f (label_octets y)) refl)
decided us vs (Some x) None (f, a) b d = rw (a, b) (rw (from_right_last f (label_octets x)) refl)
decided us vs (Some x) (Some y) (f, a) (h, b) d =
    let o : cmp_ignoring_case (label_octets x) (label_octets y) ≡ Equal → ⊥ = λ e. d (slice_cmp-IsAntisymmetric nat_cmp-IsAntisymmetric (lowercase (label_octets x)) (lowercase (label_octets y)) e) in
    rw (a, b) (rw (from_right_last f (label_octets x), from_right_last h (label_octets y)) (sym (then_first _ _ o)))

-- where as many octets are left of both, and these are alike
pub met_end : {xs ys ps qs : List (List ℕ)} {x y : Option Label} {m n : ℕ} (alike : ℕ) → Met xs ys ps qs x y m n → m ≡ n → m ≤ alike → SuffixesEqual xs ys alike → last_order x y ≡ canonical_order xs ys
met_end {xs} {ys} {ps} {qs} {x} {y} alike t e few ends =
    let left : xs ≡ (t.us ++ t.zs) ++ ps = t.left ∙ sym (append_assoc t.us t.zs ps) in
    let right : ys ≡ (t.vs ++ t.ws) ++ qs = t.right ∙ sym (append_assoc t.vs t.ws qs) in
    let rest : lowercase_labels ps ≡ lowercase_labels qs = ends (t.us ++ t.zs) ps (t.vs ++ t.ws) qs left right (omega (arith, e, t.m_is, t.n_is)) (omega (arith, few, t.m_is)) in
    let both : lowercase_labels (t.zs ++ ps) ≡ lowercase_labels (t.ws ++ qs) = map-append lowercase t.zs ps ∙ (ap (λ zs. zs ++ lowercase_labels ps) t.alike ∙ (ap (λ r. lowercase_labels t.ws ++ r) rest ∙ sym (map-append lowercase t.ws qs))) in
    decided t.us t.vs x y t.x_last t.y_last (t.level e) ∙ (sym (same_back t.us t.vs (t.zs ++ ps) (t.ws ++ qs) both) ∙ (ap (λ xs. canonical_order xs (t.vs ++ (t.ws ++ qs))) (sym t.left) ∙ ap (λ ys. canonical_order xs ys) (sym t.right)))
