-- The first fault of flat octets is one.
use Rattle.std.proofs.Common.{◌≡◌, ℕ, ◌≤◌, ◌<◌, ⊎_elim, List, [], ◌∷◌, ◌++◌, length, refl, sym, ◌∙◌, ap, subst, arith, append_assoc, codes}
use Rattle.std.specs.Prelude.{⊤}
use Rattle.std.proofs.lemmas.List.{nil_from_length}
use Rattle.domain_label.specs.Wire.{wire, IsLabel, IsRelative}
use Rattle.domain_label.specs.Splitting.{SplitFault}
use Rattle.domain_label.specs.ErrorText.{split_refusal}
use Rattle.domain_wire.specs.Refusals.{Refusal, form}
use Rattle.domain_label.specs.declared.split_error.SplitLabelError.{SplitLabelError}
use Rattle.domain_label.specs.declared.split_error.SplitLabelError.TheVariants.{Pointer, BadType, ShortInput}
use Rattle.domain_label.proofs.SplitLaws.{same_front, split_once, split_not_label}
use Rattle.domain_flat.specs.Flat.{LabelsBefore}
use Rattle.domain_flat.specs.ErrorText.{name_fault, relative_name_fault}
use Rattle.domain_flat.specs.Faults.{AbsoluteFault, AbsoluteFaultAt, RelativeFault, RelativeFaultAt, StartFault}
use Rattle.domain_flat.specs.declared.error.NameErrorKind.{NameErrorKind}
use Rattle.domain_flat.specs.declared.error.NameErrorKind.TheVariants as absolute
use Rattle.domain_flat.specs.declared.error.RelativeNameErrorKind.{RelativeNameErrorKind}
use Rattle.domain_flat.specs.declared.error.RelativeNameErrorKind.TheVariants as relative

-- ---- two walks over the same octets: one goes on where the other ends

data GoesOn (fs gs : List (List ℕ)) (r s : List ℕ) : Type 0 where
  same : fs ≡ gs → r ≡ s → GoesOn fs gs r s
  first_longer : (l more : List ℕ) → (l ≡ [] → ⊥) → IsLabel l → s ≡ length l ∷ (l ++ more) → GoesOn fs gs r s
  second_longer : (l more : List ℕ) → (l ≡ [] → ⊥) → IsLabel l → r ≡ length l ∷ (l ++ more) → GoesOn fs gs r s

not_nil : (c : ℕ) (l : List ℕ) → c ∷ l ≡ [] → ⊥
not_nil c l e = cc

longer : (x y : List ℕ) (fs gs : List (List ℕ)) (r s : List ℕ) → x ≡ y → GoesOn fs gs r s → GoesOn (x ∷ fs) (y ∷ gs) r s
longer x y fs gs r s e (same a b) = same (ap (λ z. z ∷ fs) e ∙ ap (λ zs. y ∷ zs) a) b
longer x y fs gs r s e (first_longer l more some label at) = first_longer l more some label at
longer x y fs gs r s e (second_longer l more some label at) = second_longer l more some label at

goes_on : (fs gs : List (List ℕ)) (r s : List ℕ) → IsRelative fs → IsRelative gs → wire fs ++ r ≡ wire gs ++ s → GoesOn fs gs r s
goes_on [] [] r s f g e = same refl e
goes_on [] ([] ∷ gs) r s f g e = absurd g
goes_on [] ((c ∷ l) ∷ gs) r s f g e = second_longer (c ∷ l) (wire gs ++ s) (not_nil c l) g.0 (e ∙ ap (λ x. length (c ∷ l) ∷ x) (append_assoc (c ∷ l) (wire gs) s))
goes_on ([] ∷ fs) gs r s f g e = absurd f
goes_on ((c ∷ l) ∷ fs) [] r s f g e = first_longer (c ∷ l) (wire fs ++ r) (not_nil c l) f.0 (sym e ∙ ap (λ x. length (c ∷ l) ∷ x) (append_assoc (c ∷ l) (wire fs) r))
goes_on ((c ∷ l) ∷ fs) ([] ∷ gs) r s f g e = absurd g
goes_on ((c ∷ l) ∷ fs) ((d ∷ k) ∷ gs) r s f g e =
    let n : length (c ∷ l) ≡ length (d ∷ k) = cc in
    let t : ((c ∷ l) ++ wire fs) ++ r ≡ ((d ∷ k) ++ wire gs) ++ s = cc in
    let both = same_front (c ∷ l) (d ∷ k) (wire fs ++ r) (wire gs ++ s) n (sym (append_assoc (c ∷ l) (wire fs) r) ∙ (t ∙ append_assoc (d ∷ k) (wire gs) s)) in
    longer (c ∷ l) (d ∷ k) fs gs r s both.0 (goes_on fs gs r s f.1 g.1 both.1)

-- ---- why a walk can't go on

-- The answer for octets that can't go on: `told` of the fault of a label, also at the end where octets are `missing`
-- there; `at_end` at an end that is well; `at_root` at a root.
data Stuck {K : Type 0} (told : SplitLabelError → K) (at_end at_root : K) (missing : Type 0) (r : List ℕ) (k : K) : Type 0 where
  by_label : (e : SplitLabelError) → SplitFault r e → (r ≡ [] → missing) → k ≡ told e → Stuck told at_end at_root missing r k
  by_end : r ≡ [] → (missing → ⊥) → k ≡ at_end → Stuck told at_end at_root missing r k
  by_root : (more : List ℕ) → r ≡ 0 ∷ more → k ≡ at_root → Stuck told at_end at_root missing r k

root_splits : (r rest : List ℕ) (e : SplitLabelError) → r ≡ 0 ∷ rest → SplitFault r e → ⊥
root_splits r rest e eq f = split_not_label [] r rest e (omega arith) eq f

same_stuck : {K : Type 0} {told : SplitLabelError → K} {at_end at_root : K} {missing : Type 0} (r : List ℕ) (j k : K) → Stuck told at_end at_root missing r j → Stuck told at_end at_root missing r k → j ≡ k
same_stuck {told = told} r j k (by_label d f n x) (by_label e g m y) = x ∙ (ap told (split_once r d e f g) ∙ sym y)
same_stuck r j k (by_label d f n x) (by_end g some y) = absurd (some (n g))
same_stuck r j k (by_label d f n x) (by_root more g y) = absurd (root_splits r more d g f)
same_stuck r j k (by_end f some x) (by_label e g m y) = absurd (some (m f))
same_stuck r j k (by_end f some x) (by_end g also y) = x ∙ sym y
same_stuck r j k (by_end f some x) (by_root more g y) = absurd (not_nil 0 more (sym g ∙ f))
same_stuck r j k (by_root more f x) (by_label e g m y) = absurd (root_splits r more e f g)
same_stuck r j k (by_root more f x) (by_end g also y) = absurd (not_nil 0 more (sym f ∙ g))
same_stuck r j k (by_root more f x) (by_root rest g y) = x ∙ sym y

-- where a label goes on, nothing is stuck
label_goes_on : {K : Type 0} {told : SplitLabelError → K} {at_end at_root : K} {missing : Type 0} (r : List ℕ) (k : K) (l more : List ℕ) → (l ≡ [] → ⊥) → IsLabel l → r ≡ length l ∷ (l ++ more) → Stuck told at_end at_root missing r k → ⊥
label_goes_on r k l more some h at (by_label e f n x) = split_not_label l r more e h at f
label_goes_on r k l more some h at (by_end f n x) = not_nil (length l) (l ++ more) (sym at ∙ f)
label_goes_on r k l more some h at (by_root rest f x) = some (nil_from_length l (let z : length l ≡ 0 = cc in z))

one_stuck : {K : Type 0} {told : SplitLabelError → K} {at_end at_root : K} (missing : List (List ℕ) → Type 0) (fs gs : List (List ℕ)) (r s : List ℕ) (j k : K) → GoesOn fs gs r s → Stuck told at_end at_root (missing fs) r j → Stuck told at_end at_root (missing gs) s k → j ≡ k
one_stuck {told = told} {at_end = at_end} {at_root = at_root} missing fs gs r s j k (same a b) f g =
    same_stuck s j k (subst (λ x. Stuck told at_end at_root (missing gs) x j) b (subst (λ xs. Stuck told at_end at_root (missing xs) r j) a f)) g
one_stuck missing fs gs r s j k (first_longer l more some h at) f g = absurd (label_goes_on s k l more some h at g)
one_stuck missing fs gs r s j k (second_longer l more some h at) f g = absurd (label_goes_on r j l more some h at f)

-- a walk that is stuck
record Walked {K : Type 0} (told : SplitLabelError → K) (at_end at_root : K) (missing : List (List ℕ) → Type 0) (o : List ℕ) (k : K) : Type 0 where
  labels : List (List ℕ)
  rest : List ℕ
  passed : LabelsBefore o labels rest
  stuck : Stuck told at_end at_root (missing labels) rest k

one_walked : {K : Type 0} {told : SplitLabelError → K} {at_end at_root : K} {missing : List (List ℕ) → Type 0} {o : List ℕ} {j k : K} → Walked told at_end at_root missing o j → Walked told at_end at_root missing o k → j ≡ k
one_walked {missing = missing} {j = j} {k = k} f g =
    one_stuck missing f.labels g.labels f.rest g.rest j k (goes_on f.labels g.labels f.rest g.rest f.passed.labels g.passed.labels (sym f.passed.parts ∙ g.passed.parts)) f.stuck g.stuck

-- octets that are too many, or else a walk that is stuck
data Why {K : Type 0} (most : ℕ) (too_long : K) (told : SplitLabelError → K) (at_end at_root : K) (missing : List (List ℕ) → Type 0) (o : List ℕ) (k : K) : Type 0 where
  long : k ≡ too_long → most < length o → Why most too_long told at_end at_root missing o k
  walked : length o ≤ most → Walked told at_end at_root missing o k → Why most too_long told at_end at_root missing o k

one_why : {K : Type 0} {most : ℕ} {too_long : K} {told : SplitLabelError → K} {at_end at_root : K} {missing : List (List ℕ) → Type 0} {o : List ℕ} {j k : K} → Why most too_long told at_end at_root missing o j → Why most too_long told at_end at_root missing o k → j ≡ k
one_why (long x n) (long y m) = x ∙ sym y
one_why (long x n) (walked m g) = absurd (omega (arith, n, m))
one_why (walked n f) (long y m) = absurd (omega (arith, n, m))
one_why (walked n f) (walked m g) = one_walked f g

pub none_is_short : (r : List ℕ) (e : SplitLabelError) → SplitFault r e → (e ≡ ShortInput → ⊥) → r ≡ [] → ⊥
none_is_short [] e f other n = other f
none_is_short (h ∷ r) e f other n = not_nil h r n

-- ---- the faults of absolute names

absolute_at : (fs : List (List ℕ)) (r : List ℕ) (k : NameErrorKind) → AbsoluteFaultAt fs r k → Stuck name_fault absolute.RelativeName absolute.TrailingData (fs ≡ []) r k
absolute_at fs r (absolute.BadLabel t) f = by_label (BadType t) f (λ n. absurd (none_is_short r (BadType t) f (λ e. cc) n)) refl
absolute_at fs r absolute.CompressedName f = by_label (Pointer f.0) f.1 (λ n. absurd (none_is_short r (Pointer f.0) f.1 (λ e. cc) n)) refl
absolute_at fs r absolute.LongName f = absurd f
absolute_at fs r absolute.RelativeName f = by_end f.1 f.0 refl
absolute_at fs r absolute.TrailingData f = by_root (f.0 ∷ f.1) f.2 refl
absolute_at fs r absolute.ShortInput f = by_label ShortInput f.0 (λ n. ⊎_elim (λ a. a) (λ some. absurd (some n)) f.1) refl

absolute_walked : (o : List ℕ) (k : NameErrorKind) → ((fs : List (List ℕ)) × (r : List ℕ) × LabelsBefore o fs r × AbsoluteFaultAt fs r k) → Walked name_fault absolute.RelativeName absolute.TrailingData (λ fs. fs ≡ []) o k
absolute_walked o k f = record { labels = f.0; rest = f.1; passed = f.2; stuck = absolute_at f.0 f.1 k f.3 }

why_absolute : (o : List ℕ) (k : NameErrorKind) → AbsoluteFault o k → Why 255 absolute.LongName name_fault absolute.RelativeName absolute.TrailingData (λ fs. fs ≡ []) o k
why_absolute o absolute.LongName f = long refl f
why_absolute o (absolute.BadLabel t) f = walked f.0 (absolute_walked o (absolute.BadLabel t) f.1)
why_absolute o absolute.CompressedName f = walked f.0 (absolute_walked o absolute.CompressedName f.1)
why_absolute o absolute.RelativeName f = walked f.0 (absolute_walked o absolute.RelativeName f.1)
why_absolute o absolute.TrailingData f = walked f.0 (absolute_walked o absolute.TrailingData f.1)
why_absolute o absolute.ShortInput f = walked f.0 (absolute_walked o absolute.ShortInput f.1)

pub one_absolute_fault : (o : List ℕ) (j k : NameErrorKind) → AbsoluteFault o j → AbsoluteFault o k → j ≡ k
one_absolute_fault o j k f g = one_why (why_absolute o j f) (why_absolute o k g)

-- ---- the faults of relative names, for which the end is always well

relative_at : (r : List ℕ) (k : RelativeNameErrorKind) → RelativeFaultAt r k → Stuck relative_name_fault relative.AbsoluteName relative.AbsoluteName ⊥ r k
relative_at r (relative.BadLabel t) f = by_label (BadType t) f (none_is_short r (BadType t) f (λ e. cc)) refl
relative_at r relative.CompressedName f = by_label (Pointer f.0) f.1 (none_is_short r (Pointer f.0) f.1 (λ e. cc)) refl
relative_at r relative.ShortInput f = by_label ShortInput f.0 f.1 refl
relative_at r relative.LongName f = absurd f
relative_at r relative.AbsoluteName f = by_root f.0 f.1 refl

relative_walked : (o : List ℕ) (k : RelativeNameErrorKind) → ((fs : List (List ℕ)) × (r : List ℕ) × LabelsBefore o fs r × RelativeFaultAt r k) → Walked relative_name_fault relative.AbsoluteName relative.AbsoluteName (λ _. ⊥) o k
relative_walked o k f = record { labels = f.0; rest = f.1; passed = f.2; stuck = relative_at f.1 k f.3 }

why_relative : (o : List ℕ) (k : RelativeNameErrorKind) → RelativeFault o k → Why 254 relative.LongName relative_name_fault relative.AbsoluteName relative.AbsoluteName (λ _. ⊥) o k
why_relative o relative.LongName f = long refl f
why_relative o (relative.BadLabel t) f = walked f.0 (relative_walked o (relative.BadLabel t) f.1)
why_relative o relative.CompressedName f = walked f.0 (relative_walked o relative.CompressedName f.1)
why_relative o relative.AbsoluteName f = walked f.0 (relative_walked o relative.AbsoluteName f.1)
why_relative o relative.ShortInput f = walked f.0 (relative_walked o relative.ShortInput f.1)

pub one_relative_fault : (o : List ℕ) (j k : RelativeNameErrorKind) → RelativeFault o j → RelativeFault o k → j ≡ k
one_relative_fault o j k f g = one_why (why_relative o j f) (why_relative o k g)

-- ---- the faults of what stands at the beginning, for which the end never is

start_walked : (o : List ℕ) (k : Refusal) → StartFault o k → Walked split_refusal (form (codes "long domain name")) (form (codes "long domain name")) (λ _. ⊤) o k
start_walked o k f = record {
  labels = f.0;
  rest = f.1;
  passed = f.2;
  stuck = ⊎_elim (λ a. by_label a.0 a.1 (λ _. tt) a.2) (λ b. by_root b.0 b.1 b.3) f.3;
}

pub one_start_fault : (o : List ℕ) (j k : Refusal) → StartFault o j → StartFault o k → j ≡ k
one_start_fault o j k f g = one_walked (start_walked o j f) (start_walked o k g)
