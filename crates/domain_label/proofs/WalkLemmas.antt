-- Steps of a walk over a slice, and that a walk that ends does so within as many heads as there are octets.
use Rattle.std.proofs.Common.{◌≡◌, ◌≢◌, ℕ, zero, suc, ◌+◌, ◌-◌, ◌*◌, ◌≤◌, ◌<◌, ◌⊎◌, Bool, true, false, List, [], ◌∷◌, ◌++◌, length, drop, if◌then◌else◌, nat_lt, nat_le, ◌==◌, ◌||◌, refl, sym, ap, ◌∙◌, subst, arith, length-append, length-drop, inl, inr}
use Rattle.std.specs.List.{list_any, AllByRecursion, IsDistinct}
use Rattle.std.proofs.Math.Seq.{take-append_seam}
use Rattle.std.proofs.lemmas.Bool.{lt-ltb, lt-leb, eqb-true, cases_lt}
use Rattle.std.proofs.lemmas.Bool.Decides.{leb_tells, eqb_tells}
use Rattle.std.proofs.lemmas.Map.Steps.{length-le_from_distinct_below}
use Rattle.domain_label.specs.Splitting.{BeginsWithLabel, SplitFault}
use Rattle.domain_label.specs.SliceWalk.{Step, past_label, at_root, at_pointer, at_end, label_step, pointer_step, step_of, step_at, labels_past, slice_walk, WherePast, WalkEnds}
use Rattle.domain_label.specs.declared.split_error.SplitLabelError.{SplitLabelError}
use Rattle.domain_label.specs.declared.split_error.SplitLabelError.TheVariants.{Pointer, BadType, ShortInput}
use Rattle.domain_label.specs.declared.split_error.LabelTypeError.TheVariants.{Undefined, Extended}

if-true : {A : Type 0} (b : Bool) (x y : A) → b ≡ true → (if b then x else y) ≡ x
if-true b x y e = rw e refl

if-false : {A : Type 0} (b : Bool) (x y : A) → b ≡ false → (if b then x else y) ≡ y
if-false b x y e = rw e refl

not_less : (a b : ℕ) → b ≤ a → nat_lt a b ≡ false
not_less a b h = lt-leb (suc a) b (omega (arith, h))

not_within : (a b : ℕ) → b < a → nat_le a b ≡ false
not_within a b h = lt-leb a b h

within : (a b : ℕ) → a ≤ b → nat_le a b ≡ true
within a b h = grind (arith, leb_tells)

-- what a head from 0 to 63, from 64 to 191, and from 192 on does
step-low : (p head : ℕ) (rest : List ℕ) → head ≤ 63 → step_of p (head ∷ rest) ≡ label_step p head rest
step-low p head rest h = if-true (nat_lt head 64) _ _ (lt-ltb head 64 (omega (arith, h)))

step-middle : (p head : ℕ) (rest : List ℕ) → 64 ≤ head → head < 192 → step_of p (head ∷ rest) ≡ at_end
step-middle p head rest h k =
    if-false (nat_lt head 64) _ _ (not_less head 64 h) ∙ if-true (nat_lt head 192) _ _ (lt-ltb head 192 k)

step-high : (p head : ℕ) (rest : List ℕ) → 192 ≤ head → step_of p (head ∷ rest) ≡ pointer_step p head rest
step-high p head rest h =
    if-false (nat_lt head 64) _ _ (not_less head 64 (omega (arith, h))) ∙ if-false (nat_lt head 192) _ _ (not_less head 192 h)

-- a whole label that isn't the root
pub step-label : (p : ℕ) (o l rest : List ℕ) → BeginsWithLabel o l rest → 1 ≤ length l → step_of p o ≡ past_label l (p + (length l + 1))
step-label p o [] rest b h = absurd (omega (arith, h))
step-label p o (c ∷ l) rest b h =
    let all = length-append l rest in
    ap (step_of p) b.1 ∙ (step-low p (length (c ∷ l)) ((c ∷ l) ++ rest) b.0
    ∙ (if-false (nat_lt (length ((c ∷ l) ++ rest)) (length (c ∷ l))) _ _ (not_less (length ((c ∷ l) ++ rest)) (length (c ∷ l)) (omega arith))
    ∙ ap (λ t. past_label t (p + (length (c ∷ l) + 1))) (take-append_seam (c ∷ l) rest)))

-- the root
pub step-root : (p : ℕ) (o l rest : List ℕ) → BeginsWithLabel o l rest → l ≡ [] → step_of p o ≡ at_root
step-root p o [] rest b e = ap (step_of p) b.1
step-root p o (c ∷ l) rest b e = absurd (omega (arith, ap length e))

-- a pointer that doesn't lead forward, and one that does
pub step-pointer : (p : ℕ) (o : List ℕ) (q : ℕ) → SplitFault o (Pointer q) → q ≤ p → step_of p o ≡ at_pointer q
step-pointer p [] q f h = cc
step-pointer p (head ∷ []) q f h = absurd f
step-pointer p (head ∷ octet ∷ rest) q f h =
    let same : (head - 192) * 256 + octet ≡ q = omega (arith, f.0, f.1) in
    step-high p head (octet ∷ rest) f.0
    ∙ subst (λ offset. (if nat_le offset p then at_pointer offset else at_end) ≡ at_pointer q) (sym same) (if-true (nat_le q p) _ _ (within q p h))

pub step-forward : (p : ℕ) (o : List ℕ) (q : ℕ) → SplitFault o (Pointer q) → p < q → step_of p o ≡ at_end
step-forward p [] q f h = cc
step-forward p (head ∷ []) q f h = absurd f
step-forward p (head ∷ octet ∷ rest) q f h =
    let same : (head - 192) * 256 + octet ≡ q = omega (arith, f.0, f.1) in
    step-high p head (octet ∷ rest) f.0
    ∙ subst (λ offset. (if nat_le offset p then at_pointer offset else at_end) ≡ at_end) (sym same) (if-false (nat_le q p) _ _ (not_within q p h))

-- a label that isn't whole
step-cut : (p head : ℕ) (rest : List ℕ) → length rest < head → label_step p head rest ≡ at_end
step-cut p zero rest h = absurd (omega (arith, h))
step-cut p (suc len) rest h = if-true (nat_lt (length rest) (suc len)) _ _ (lt-ltb (length rest) (suc len) h)

-- any other fault
pub step-fault : (p : ℕ) (o : List ℕ) (e : SplitLabelError) → SplitFault o e → ((q : ℕ) → e ≢ Pointer q) → step_of p o ≡ at_end
step-fault p [] e f other = refl
step-fault p (head ∷ rest) ShortInput f other =
    elim f [
      | inl cut ↦ step-low p head rest cut.0 ∙ step-cut p head rest cut.1
      | inr cut ↦ step-high p head rest cut.0 ∙ ap (pointer_step p head) cut.1
    ]
step-fault p (head ∷ rest) (BadType (Extended value)) f other = step-middle p head rest f.1 (omega (arith, f.2))
step-fault p (head ∷ rest) (BadType Undefined) f other = step-middle p head rest (omega (arith, f.0)) f.1
step-fault p (head ∷ rest) (Pointer q) f other = absurd (other q refl)

-- the labels of a walk that has a head to read
pub walk-step : (s : List ℕ) (p n : ℕ) (t : Step) → 0 < n → step_at s p ≡ t → slice_walk s p n ≡ labels_past t (λ q. slice_walk s q (n - 1))
walk-step s p zero t h e = absurd (omega (arith, h))
walk-step s p (suc n) t h e =
    let one_less : n ≡ suc n - 1 = omega arith in
    ap (λ t. labels_past t (λ q. slice_walk s q n)) e ∙ ap (λ k. labels_past t (λ q. slice_walk s q k)) one_less

pub walk-root : (s : List ℕ) (p n : ℕ) (l rest : List ℕ) → 0 < n → BeginsWithLabel (drop p s) l rest → l ≡ [] → slice_walk s p n ≡ l ∷ []
walk-root s p n l rest h b e =
    walk-step s p n at_root h (step-root p (drop p s) l rest b e) ∙ ap (λ l. l ∷ []) (sym e)

pub walk-label : (s : List ℕ) (p n : ℕ) (l rest : List ℕ) (len : ℕ) → 0 < n → BeginsWithLabel (drop p s) l rest → ¬ (l ≡ []) → len ≡ length l → slice_walk s p n ≡ l ∷ slice_walk s (p + (len + 1)) (n - 1)
walk-label s p n [] rest len h b some e = absurd (some refl)
walk-label s p n (c ∷ l) rest len h b some e =
    walk-step s p n (past_label (c ∷ l) (p + (length (c ∷ l) + 1))) h (step-label p (drop p s) (c ∷ l) rest b (omega arith))
    ∙ ap (λ k. (c ∷ l) ∷ slice_walk s (p + (k + 1)) (n - 1)) (sym e)

pub walk-pointer : (s : List ℕ) (p n q : ℕ) → 0 < n → SplitFault (drop p s) (Pointer q) → q ≤ p → slice_walk s p n ≡ slice_walk s q (n - 1)
walk-pointer s p n q h f le = walk-step s p n (at_pointer q) h (step-pointer p (drop p s) q f le)

pub walk-forward : (s : List ℕ) (p n q : ℕ) → 0 < n → SplitFault (drop p s) (Pointer q) → p < q → slice_walk s p n ≡ []
walk-forward s p n q h f lt = walk-step s p n at_end h (step-forward p (drop p s) q f lt)

pub walk-fault : (s : List ℕ) (p n : ℕ) (e : SplitLabelError) → 0 < n → SplitFault (drop p s) e → ((q : ℕ) → e ≢ Pointer q) → slice_walk s p n ≡ []
walk-fault s p n e h f other = walk-step s p n at_end h (step-fault p (drop p s) e f other)

-- nothing stands past the end
drop-past : (s : List ℕ) (p : ℕ) → length s ≤ p → drop p s ≡ []
drop-past s p h = none (drop p s) (length-drop p s) where
  none : (o : List ℕ) → length o ≡ length s - p → o ≡ []
  none [] e = refl
  none (x ∷ o) e = absurd (omega (arith, e, h))

-- the offsets of the heads that a walk reads among the first n
abbrev remembered_past : ℕ → Step → (ℕ → List ℕ) → List ℕ
remembered_past p (past_label l next) from = p ∷ from next
remembered_past p at_root from = p ∷ []
remembered_past p (at_pointer offset) from = p ∷ from offset
remembered_past p at_end from = []

abbrev offsets_passed : List ℕ → ℕ → ℕ → List ℕ
offsets_passed s p zero = []
offsets_passed s p (suc n) = remembered_past p (step_at s p) (λ q. offsets_passed s q n)

-- a walk that ends reads no more heads than these, however many it may
more-past : (s : List ℕ) (p n k : ℕ) (t : Step)
    → ((q : ℕ) → WalkEnds s q n → length (offsets_passed s q n) ≤ k → slice_walk s q k ≡ slice_walk s q n)
    → WherePast t (λ q. WalkEnds s q n) → length (remembered_past p t (λ q. offsets_passed s q n)) ≤ suc k
    → labels_past t (λ q. slice_walk s q k) ≡ labels_past t (λ q. slice_walk s q n)
more-past s p n k (past_label l next) more w h = ap (λ ls. l ∷ ls) (more next w (omega (arith, h)))
more-past s p n k at_root more w h = refl
more-past s p n k (at_pointer offset) more w h = more offset w (omega (arith, h))
more-past s p n k at_end more w h = refl

none-past : (s : List ℕ) (p n : ℕ) (t : Step) → length (remembered_past p t (λ q. offsets_passed s q n)) ≤ 0 → [] ≡ labels_past t (λ q. slice_walk s q n)
none-past s p n (past_label l next) h = absurd (omega (arith, h))
none-past s p n at_root h = absurd (omega (arith, h))
none-past s p n (at_pointer offset) h = absurd (omega (arith, h))
none-past s p n at_end h = refl

walk-more : (s : List ℕ) (n k p : ℕ) → WalkEnds s p n → length (offsets_passed s p n) ≤ k → slice_walk s p k ≡ slice_walk s p n
walk-more s zero k p w h = absurd w
walk-more s (suc n) zero p w h = none-past s p n (step_at s p) h
walk-more s (suc n) (suc k) p w h = more-past s p n k (step_at s p) (λ q. walk-more s n k q) w h

-- the heads that it reads are the same, however many it may
same-past : (s : List ℕ) (p n k : ℕ) (t : Step)
    → ((q : ℕ) → WalkEnds s q n → WalkEnds s q k → offsets_passed s q n ≡ offsets_passed s q k)
    → WherePast t (λ q. WalkEnds s q n) → WherePast t (λ q. WalkEnds s q k)
    → remembered_past p t (λ q. offsets_passed s q n) ≡ remembered_past p t (λ q. offsets_passed s q k)
same-past s p n k (past_label l next) same w v = ap (λ ps. p ∷ ps) (same next w v)
same-past s p n k at_root same w v = refl
same-past s p n k (at_pointer offset) same w v = ap (λ ps. p ∷ ps) (same offset w v)
same-past s p n k at_end same w v = refl

same-offsets_passed : (s : List ℕ) (n k p : ℕ) → WalkEnds s p n → WalkEnds s p k → offsets_passed s p n ≡ offsets_passed s p k
same-offsets_passed s zero k p w v = absurd w
same-offsets_passed s (suc n) zero p w v = absurd v
same-offsets_passed s (suc n) (suc k) p w v = same-past s p n k (step_at s p) (λ q. same-offsets_passed s n k q) w v

-- a walk that reads fewer heads never comes to the offset p
apart-past : (s : List ℕ) (p q m most : ℕ) (t : Step) → (p == q) ≡ false
    → ((r : ℕ) → WalkEnds s r m → length (offsets_passed s r m) < most → AllByRecursion (λ y. (p == y) ≡ false) (offsets_passed s r m))
    → WherePast t (λ r. WalkEnds s r m) → length (remembered_past q t (λ r. offsets_passed s r m)) < most
    → AllByRecursion (λ y. (p == y) ≡ false) (remembered_past q t (λ r. offsets_passed s r m))
apart-past s p q m most (past_label l next) e apart w h = (e, apart next w (omega (arith, h)))
apart-past s p q m most at_root e apart w h = (e, tt)
apart-past s p q m most (at_pointer offset) e apart w h = (e, apart offset w (omega (arith, h)))
apart-past s p q m most at_end e apart w h = tt

apart-here : (s : List ℕ) (p n q m : ℕ) → WalkEnds s p n → WalkEnds s q m → length (offsets_passed s q m) < length (offsets_passed s p n) → (p == q) ≡ false
apart-here s p n q m v w h =
    elim (eqb_tells p q) [
      | inl same ↦
          let P : ℕ → Type 0 = λ r. WalkEnds s r n → length (offsets_passed s q m) < length (offsets_passed s r n) → (p == q) ≡ false in
          subst P (sym same.1) (λ v h. absurd (omega (arith, h, ap length (same-offsets_passed s n m q v w)))) v h
      | inr other ↦ other.0
    ]

apart : (s : List ℕ) (p n m q : ℕ) → WalkEnds s p n → WalkEnds s q m → length (offsets_passed s q m) < length (offsets_passed s p n) → AllByRecursion (λ y. (p == y) ≡ false) (offsets_passed s q m)
apart s p n zero q v w h = absurd w
apart s p n (suc m) q v w h =
    apart-past s p q m (length (offsets_passed s p n)) (step_at s q) (apart-here s p n q (suc m) v w h) (λ r. apart s p n m r v) w h

-- so no offset is read twice
distinct-past : (s : List ℕ) (p n : ℕ) (t : Step) → WalkEnds s p (suc n)
    → length (remembered_past p t (λ q. offsets_passed s q n)) ≡ length (offsets_passed s p (suc n))
    → ((q : ℕ) → WalkEnds s q n → IsDistinct ◌==◌ (offsets_passed s q n))
    → WherePast t (λ q. WalkEnds s q n) → IsDistinct ◌==◌ (remembered_past p t (λ q. offsets_passed s q n))
unfolding IsDistinct
distinct-past s p n (past_label l next) v e distinct w = (apart s p (suc n) n next v w (omega (arith, e)), distinct next w)
distinct-past s p n at_root v e distinct w = (tt, tt)
distinct-past s p n (at_pointer offset) v e distinct w = (apart s p (suc n) n offset v w (omega (arith, e)), distinct offset w)
distinct-past s p n at_end v e distinct w = tt

distinct : (s : List ℕ) (n p : ℕ) → WalkEnds s p n → IsDistinct ◌==◌ (offsets_passed s p n)
distinct s zero p w = absurd w
distinct s (suc n) p w = distinct-past s p n (step_at s p) w refl (λ q. distinct s n q) w

-- a head that is read stands in the slice
or_cases : (a b : Bool) → (a || b) ≡ true → (a ≡ true) ⊎ (b ≡ true)
or_cases true b h = inl refl
or_cases false b h = inr h

below-one : (s : List ℕ) (p q : ℕ) (rest : List ℕ) → p < length s → (list_any (λ r. q == r) rest ≡ true → q < length s)
    → list_any (λ r. q == r) (p ∷ rest) ≡ true → q < length s
below-one s p q rest h below any =
    elim (or_cases (q == p) (list_any (λ r. q == r) rest) any) [
      | inl here ↦ omega (arith, h, eqb-true q p here)
      | inr later ↦ below later
    ]

below-past : (s : List ℕ) (p n q : ℕ) (t : Step) → (t ≢ at_end → p < length s)
    → ((r : ℕ) → list_any (λ x. q == x) (offsets_passed s r n) ≡ true → q < length s)
    → list_any (λ x. q == x) (remembered_past p t (λ r. offsets_passed s r n)) ≡ true → q < length s
below-past s p n q (past_label l next) here below any = below-one s p q (offsets_passed s next n) (here (λ e. cc)) (below next) any
below-past s p n q at_root here below any = below-one s p q [] (here (λ e. cc)) (λ none. cc) any
below-past s p n q (at_pointer offset) here below any = below-one s p q (offsets_passed s offset n) (here (λ e. cc)) (below offset) any
below-past s p n q at_end here below any = cc

stands : (s : List ℕ) (p : ℕ) → step_at s p ≢ at_end → p < length s
stands s p other =
    elim (cases_lt p (length s)) [
      | inl within ↦ within
      | inr past ↦ absurd (other (ap (step_of p) (drop-past s p past)))
    ]

below : (s : List ℕ) (n p q : ℕ) → list_any (λ x. q == x) (offsets_passed s p n) ≡ true → q < length s
below s zero p q any = cc
below s (suc n) p q any = below-past s p n q (step_at s p) (stands s p) (λ r. below s n r q) any

-- so a walk that ends is whole after as many heads as the slice has octets
pub walk-whole : (s : List ℕ) (p n : ℕ) → WalkEnds s p n → slice_walk s p (length s) ≡ slice_walk s p n
walk-whole s p n w =
    walk-more s n (length s) p w (length-le_from_distinct_below (offsets_passed s p n) (length s) (distinct s n p w) (λ q. below s n p q))
