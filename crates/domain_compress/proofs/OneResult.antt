-- What is written for a name is one list of octets.
use Rattle.std.proofs.Common.{◌≡◌, ℕ, ◌-◌, ◌≤◌, inl, inr, List, [], ◌∷◌, ◌++◌, length, take, drop, take-take, refl, sym, ap, subst, ◌∙◌, arith}
use Rattle.std.proofs.lemmas.Bool.{cases_lt}
use Rattle.std.proofs.lemmas.List.Folds.{drop_split}
use Rattle.std.proofs.Math.Seq.{take-append_seam}
use Rattle.domain_label.specs.Wire.{wire}
use Rattle.domain_reading.proofs.Reading.{names_more}
use Rattle.domain_rdata.specs.ReadBack.{StandsAt}
use Rattle.domain_compress.specs.Compressing.{RememberedLabel, pointer_to, NoneRemembered, FirstRemembered, LongestSuffix, IsRead, Compresses}
use Rattle.domain_compress.specs.Compressing.Compresses.{pointer, flat, unread}
use Rattle.domain_compress.proofs.Searching.{one_cut}

some_offset : (t : List ℕ) (b : List (List ℕ)) (p : ℕ) (ws : List RememberedLabel) → FirstRemembered t ws b p → NoneRemembered t ws b → ⊥
some_offset t b p [] first none = absurd first
some_offset t b p (w ∷ ws) first none = elim first [
  | inl here ↦ none.0 here.0
  | inr later ↦ some_offset t b p ws later.1 none.1
]

first_once : (t : List ℕ) (b : List (List ℕ)) (p q : ℕ) (ws : List RememberedLabel) → FirstRemembered t ws b p → FirstRemembered t ws b q → p ≡ q
first_once t b p q [] f g = absurd f
first_once t b p q (w ∷ ws) f g = elim f [
  | inl here ↦ elim g [
    | inl there ↦ here.1 ∙ sym there.1
    | inr later ↦ absurd (later.0 here.0)
  ]
  | inr later ↦ elim g [
    | inl there ↦ absurd (later.0 there.0)
    | inr also ↦ first_once t b p q ws later.1 also.1
  ]
]

as_long : {t : List ℕ} {ws : List RememberedLabel} {ls a b c d : List (List ℕ)} {p q : ℕ} → LongestSuffix t ws ls a b p → LongestSuffix t ws ls c d q → length a ≡ length c
as_long {t} {ws} {ls} {a} {b} {c} {d} {p} {q} f g = elim (cases_lt (length a) (length c)) [
  | inl lt ↦ absurd (some_offset t b p ws f.offset (g.longest a b f.parts lt))
  | inr le ↦ elim (cases_lt (length c) (length a)) [
    | inl lt ↦ absurd (some_offset t d q ws g.offset (f.longest c d g.parts lt))
    | inr also ↦ omega (arith, le, also)
  ]
]

longest_once : {t : List ℕ} {ws : List RememberedLabel} {ls a b c d : List (List ℕ)} {p q : ℕ} → LongestSuffix t ws ls a b p → LongestSuffix t ws ls c d q → (a ≡ c) × (p ≡ q)
longest_once {t} {ws} {ls} {a} {b} {c} {d} {p} {q} f g =
    let size = as_long f g in
    let parts : a ++ b ≡ c ++ d = sym f.parts ∙ g.parts in
    let front : a ≡ c = sym (take-append_seam a b) ∙ (ap (take (length a)) parts ∙ (ap (λ n. take n (c ++ d)) size ∙ take-append_seam c d)) in
    (front, first_once t b p q ws f.offset (subst (λ e. FirstRemembered t ws e q) (sym (one_cut a b c d parts size)) g.offset))

same_read : (t : List ℕ) (ls : List (List ℕ)) {a c : List (List ℕ)} {p q : ℕ} → (a ≡ c) × (p ≡ q) → IsRead t ls a p → IsRead t ls c q
same_read t ls {a} {c} {p} {q} e r = subst (λ k. IsRead t ls c k) e.1 (subst (λ x. IsRead t ls x p) e.0 r)

pub compresses_once : (t : List ℕ) (ws : List RememberedLabel) (ls a b : List (List ℕ)) (r s : List ℕ) → Compresses t ws ls a r → Compresses t ws ls b s → (a ≡ b) × (r ≡ s)
compresses_once t ws ls _ _ _ _ (pointer {a} {b} {p} f x) (pointer {a = c} {b = d} {p = q} g y) =
    let e = longest_once f g in
    (e.0, ap (λ z. wire z ++ pointer_to p) e.0 ∙ ap (λ k. wire c ++ pointer_to k) e.1)
compresses_once t ws ls _ _ _ _ (pointer {a} {b} {p} f x) (flat none) = absurd (some_offset t b p ws f.offset (none a b f.parts f.more))
compresses_once t ws ls _ _ _ _ (pointer f x) (unread g not) = absurd (not (same_read t ls (longest_once f g) x))
compresses_once t ws ls _ _ _ _ (flat none) (pointer {a} {b} {p} f x) = absurd (some_offset t b p ws f.offset (none a b f.parts f.more))
compresses_once t ws ls _ _ _ _ (flat none) (flat also) = (refl, refl)
compresses_once t ws ls _ _ _ _ (flat none) (unread {a} {b} {p} f not) = absurd (some_offset t b p ws f.offset (none a b f.parts f.more))
compresses_once t ws ls _ _ _ _ (unread f not) (pointer g x) = absurd (not (same_read t ls (longest_once g f) x))
compresses_once t ws ls _ _ _ _ (unread {a} {b} {p} f not) (flat none) = absurd (some_offset t b p ws f.offset (none a b f.parts f.more))
compresses_once t ws ls _ _ _ _ (unread f not) (unread g also) = (refl, refl)

-- What is read stays after more octets, and where octets are cut after it.
pub stands_more : (t u : List ℕ) (p : ℕ) (ls : List (List ℕ)) → StandsAt t p ls → StandsAt (t ++ u) p ls
stands_more t u p ls s = (s.0, names_more u s.1, s.2)

pub stands_cut : (t : List ℕ) (p e n : ℕ) (ls : List (List ℕ)) → StandsAt (take e t) p ls → e ≤ n → StandsAt (take n t) p ls
stands_cut t p e n ls s le =
    let k : e - 0 ≡ e = omega arith in
    let parts : take n t ≡ take e (take n t) ++ drop e (take n t) = drop_split (take n t) 0 e (omega arith) ∙ ap (λ m. take m (take n t) ++ drop e (take n t)) k in
    let whole : take e t ++ drop e (take n t) ≡ take n t = ap (λ x. x ++ drop e (take n t)) (sym (take-take e n t le)) ∙ sym parts in
    subst (λ o. StandsAt o p ls) whole (stands_more (take e t) (drop e (take n t)) p ls s)
