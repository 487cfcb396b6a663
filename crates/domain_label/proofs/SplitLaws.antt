-- Octets begin with one label, or have one fault, and never both.
use Rattle.std.proofs.Common.{◌≡◌, ℕ, suc, ⊎_elim, List, [], ◌∷◌, ◌++◌, length, take, drop, refl, sym, ◌∙◌, ap, arith, length-append}
use Rattle.std.proofs.Math.Seq.{take-append_seam, drop-append_seam}
use Rattle.domain_label.specs.Wire.{IsLabel}
use Rattle.domain_label.specs.Splitting.{BeginsWithLabel, SplitFault, HeadFault}
use Rattle.domain_label.specs.declared.split_error.SplitLabelError.{SplitLabelError}
use Rattle.domain_label.specs.declared.split_error.SplitLabelError.TheVariants.{Pointer, BadType, ShortInput}
use Rattle.domain_label.specs.declared.split_error.LabelTypeError.TheVariants.{Undefined, Extended}

-- why octets begin with no label is one
head_once : (head : ℕ) (rest : List ℕ) (d e : SplitLabelError) → HeadFault head rest d → HeadFault head rest e → d ≡ e
head_once head rest ShortInput ShortInput f g = refl
head_once head rest ShortInput (BadType (Extended v)) f g = absurd (⊎_elim (λ a. omega (arith, a.0, g.1)) (λ b. omega (arith, b.0, g.2)) f)
head_once head rest ShortInput (BadType Undefined) f g = absurd (⊎_elim (λ a. omega (arith, a.0, g.0)) (λ b. omega (arith, b.0, g.1)) f)
head_once head [] ShortInput (Pointer p) f g = absurd g
head_once head (c ∷ rest) ShortInput (Pointer p) f g = absurd (⊎_elim (λ a. omega (arith, a.0, g.0)) (λ b. let z : suc (length rest) ≡ 0 = ap length b.1 in omega (arith, z)) f)
head_once head rest (BadType (Extended v)) ShortInput f g = absurd (⊎_elim (λ a. omega (arith, a.0, f.1)) (λ b. omega (arith, b.0, f.2)) g)
head_once head rest (BadType (Extended v)) (BadType (Extended w)) f g = ap (λ x. BadType (Extended x)) (f.0 ∙ sym g.0)
head_once head rest (BadType (Extended v)) (BadType Undefined) f g = absurd (omega (arith, f.2, g.0))
head_once head [] (BadType (Extended v)) (Pointer p) f g = absurd g
head_once head (c ∷ rest) (BadType (Extended v)) (Pointer p) f g = absurd (omega (arith, f.2, g.0))
head_once head rest (BadType Undefined) ShortInput f g = absurd (⊎_elim (λ a. omega (arith, a.0, f.0)) (λ b. omega (arith, b.0, f.1)) g)
head_once head rest (BadType Undefined) (BadType (Extended v)) f g = absurd (omega (arith, g.2, f.0))
head_once head rest (BadType Undefined) (BadType Undefined) f g = refl
head_once head [] (BadType Undefined) (Pointer p) f g = absurd g
head_once head (c ∷ rest) (BadType Undefined) (Pointer p) f g = absurd (omega (arith, f.1, g.0))
head_once head [] (Pointer p) e f g = absurd f
head_once head (c ∷ rest) (Pointer p) ShortInput f g = absurd (⊎_elim (λ a. omega (arith, a.0, f.0)) (λ b. let z : suc (length rest) ≡ 0 = ap length b.1 in omega (arith, z)) g)
head_once head (c ∷ rest) (Pointer p) (BadType (Extended v)) f g = absurd (omega (arith, g.2, f.0))
head_once head (c ∷ rest) (Pointer p) (BadType Undefined) f g = absurd (omega (arith, g.1, f.0))
head_once head (c ∷ rest) (Pointer p) (Pointer q) f g = ap Pointer (omega (arith, f.1, g.1))

pub split_once : (o : List ℕ) (d e : SplitLabelError) → SplitFault o d → SplitFault o e → d ≡ e
split_once [] d e f g = f ∙ sym g
split_once (head ∷ rest) d e f g = head_once head rest d e f g

-- lists of one length with more after them are the same where the whole is
pub same_front : (a b r s : List ℕ) → length a ≡ length b → a ++ r ≡ b ++ s → (a ≡ b) × (r ≡ s)
same_front a b r s n e =
    let left : a ≡ b = sym (take-append_seam a r) ∙ (ap (take (length a)) e ∙ (ap (λ k. take k (b ++ s)) n ∙ take-append_seam b s)) in
    let right : r ≡ s = sym (drop-append_seam a r) ∙ (ap (drop (length a)) e ∙ (ap (λ k. drop k (b ++ s)) n ∙ drop-append_seam b s)) in
    (left, right)

-- the label that octets begin with is one
pub one_label : (o : List ℕ) (a b r s : List ℕ) → BeginsWithLabel o a r → BeginsWithLabel o b s → (a ≡ b) × (r ≡ s)
one_label o a b r s x y =
    let e : length a ∷ (a ++ r) ≡ length b ∷ (b ++ s) = sym x.1 ∙ y.1 in
    let heads : length a ≡ length b = cc in
    let rests : a ++ r ≡ b ++ s = cc in
    same_front a b r s heads rests

-- octets that begin with a label have no fault
pub split_not_label : (l o rest : List ℕ) (e : SplitLabelError) → IsLabel l → o ≡ length l ∷ (l ++ rest) → SplitFault o e → ⊥
split_not_label l [] rest e h eq f = cc
split_not_label l (n ∷ o) rest ShortInput h eq f =
    let head : n ≡ length l = cc in
    let tail : o ≡ l ++ rest = cc in
    ⊎_elim (λ a. omega (arith, a.1, head, ap length tail, length-append l rest)) (λ b. omega (arith, b.0, head, h)) f
split_not_label l (n ∷ o) rest (BadType (Extended v)) h eq f = let head : n ≡ length l = cc in omega (arith, f.1, head, h)
split_not_label l (n ∷ o) rest (BadType Undefined) h eq f = let head : n ≡ length l = cc in omega (arith, f.0, head, h)
split_not_label l (n ∷ []) rest (Pointer p) h eq f = f
split_not_label l (n ∷ b ∷ o) rest (Pointer p) h eq f = let head : n ≡ length l = cc in omega (arith, f.0, head, h)

pub label_or_fault : (o l rest : List ℕ) (e : SplitLabelError) → BeginsWithLabel o l rest → SplitFault o e → ⊥
label_or_fault o l rest e begins fault = split_not_label l o rest e begins.0 begins.1 fault

-- octets with a fault begin with no label
pub no_label : (o : List ℕ) (e : SplitLabelError) → SplitFault o e → ((l : List ℕ) × (rest : List ℕ) × BeginsWithLabel o l rest) → ⊥
no_label o e fault (l, rest, begins) = label_or_fault o l rest e begins fault
