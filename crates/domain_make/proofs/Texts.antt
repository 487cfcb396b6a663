-- Texts that are put together.
use Rattle.std.proofs.Common.{◌≡◌, ℕ, zero, suc, ◌<◌, ◌≤◌, List, [], ◌∷◌, ◌++◌, length, Bool, true, false, cond, refl, sym, ap, subst, ◌∙◌, inl, inr, arith, eq-eqb, length-append, take}
use Rattle.std.specs.Prelude.{◌⊎◌, ◌≢◌, codes, IsTrue, Option, Some, None, MatchOption, slice_index, nat_eq}
use Rattle.std.proofs.lemmas.Bool.{false≢true, cases_lt}
use Rattle.std.proofs.lemmas.List.{append-nil, append_cancel_left, get_or_at, get_or-take, length-take-le}
use Rattle.std.specs.Fmt.{digits}
use Rattle.domain_header.specs.Tables.{opcode_text, rcode_text}
use denote.Ref.{Bor}
use Rattle.domain_make.specs.Remarks.{IsCodesLine, IsWithColon}

-- whether the two differ at an index of both
abbrev pub differ : List ℕ → List ℕ → Bool
differ [] b = false
differ (x ∷ a) [] = false
differ (x ∷ a) (y ∷ b) = cond (nat_eq x y) (differ a b) true

same_head : (c k : ℕ) (x y : List ℕ) → c ∷ x ≡ k ∷ y → c ≡ k
same_head c k x y e = cc

same_tail : (c k : ℕ) (x y : List ℕ) → c ∷ x ≡ k ∷ y → x ≡ y
same_tail c k x y e = cc

-- No text begins with both.
pub apart : (a b x y : List ℕ) → differ a b ≡ true → a ++ x ≡ b ++ y → ⊥
apart [] b x y d e = false≢true d
apart (c ∷ a) [] x y d e = false≢true d
apart (c ∷ a) (k ∷ b) x y d e =
    apart a b x y (subst (λ t. cond t (differ a b) true ≡ true) (eq-eqb c k (same_head c k (a ++ x) (b ++ y) e)) d) (same_tail c k (a ++ x) (b ++ y) e)

-- The octet is nowhere in the text.
abbrev pub Without : ℕ → List ℕ → Type 0
Without c text = (k : ℕ) → k < length text → slice_index text k ≢ c

-- The first octet like this one parts a text in one way.
pub parted_once : (c : ℕ) (a b p q : List ℕ) → Without c a → Without c p → a ++ (c ∷ b) ≡ p ++ (c ∷ q) → (a ≡ p) × (b ≡ q)
parted_once c [] b [] q no_a no_p e = (refl, same_tail c c b q e)
parted_once c [] b (y ∷ p) q no_a no_p e = absurd (no_p 0 (omega arith) (sym (same_head c y b (p ++ (c ∷ q)) e)))
parted_once c (x ∷ a) b [] q no_a no_p e = absurd (no_a 0 (omega arith) (same_head x c (a ++ (c ∷ b)) q e))
parted_once c (x ∷ a) b (y ∷ p) q no_a no_p e =
    let rest = parted_once c a b p q (λ k h. no_a (suc k) (omega arith)) (λ k h. no_p (suc k) (omega arith)) (same_tail x y (a ++ (c ∷ b)) (p ++ (c ∷ q)) e) in
    (ap (λ z. z ∷ a) (same_head x y (a ++ (c ∷ b)) (p ++ (c ∷ q)) e) ∙ ap (λ z. y ∷ z) rest.0, rest.1)

-- What is before the first octet like this one is without it.
pub before_without : (c : ℕ) (text : List ℕ) (at : ℕ) → at ≤ length text → ((k : ℕ) → k < at → slice_index text k ≢ c) → Without c (take at text)
before_without c text at within none k inside =
    let small : k < at = omega (arith, length-take-le at text within, inside) in
    λ is. none k small (sym (get_or-take at text k 0 small) ∙ is)

-- An octet that a text has is somewhere in it.
pub not_without : (c : ℕ) (a b text : List ℕ) → text ≡ a ++ (c ∷ b) → Without c text → ⊥
not_without c a b text e none =
    none (length a) (omega (arith, ap length e, length-append a (c ∷ b))) (ap (λ (t : List ℕ). slice_index t (length a)) e ∙ get_or_at a c b 0 (length a) refl)

-- whether the octet is nowhere in the text
abbrev lacks : ℕ → List ℕ → Bool
lacks c [] = true
lacks c (x ∷ xs) = cond (nat_eq x c) false (lacks c xs)

lacks_more : (t u : Bool) → cond t false u ≡ true → (t ≡ false) × (u ≡ true)
lacks_more true u e = absurd (false≢true e)
lacks_more false u e = (refl, e)

lacks_is : (c : ℕ) (text : List ℕ) → lacks c text ≡ true → Without c text
lacks_is c [] e k inside = absurd (omega arith)
lacks_is c (x ∷ xs) e zero inside = λ is. false≢true (sym (lacks_more (nat_eq x c) (lacks c xs) e).0 ∙ eq-eqb x c is)
lacks_is c (x ∷ xs) e (suc k) inside = lacks_is c xs (lacks_more (nat_eq x c) (lacks c xs) e).1 k (omega arith)

-- whether it holds of each number below this one
abbrev each_below : (ℕ → Bool) → ℕ → Bool
each_below test zero = true
each_below test (suc n) = cond (test n) (each_below test n) false

below_more : (t u : Bool) → cond t u false ≡ true → (t ≡ true) × (u ≡ true)
below_more true u e = (refl, e)
below_more false u e = absurd (false≢true e)

at_most : (n k : ℕ) → n ≤ k → k < suc n → n ≡ k
at_most n k more small = omega arith

below_is : (test : ℕ → Bool) (n k : ℕ) → each_below test n ≡ true → k < n → test k ≡ true
below_is test zero k all small = absurd (omega arith)
below_is test (suc n) k all small =
    let both = below_more (test n) (each_below test n) all in
    elim (cases_lt k n) [ inl less ↦ below_is test n k both.1 less | inr more ↦ subst (λ m. test m ≡ true) (at_most n k more small) both.0 ]

-- No text of a code has a comma.
pub opcode_lacks : (n : ℕ) → n < 16 → Without 44 (opcode_text n)
unfolding digits
opcode_lacks n small = lacks_is 44 (opcode_text n) (below_is (λ k. lacks 44 (opcode_text k)) 16 n refl small)

pub rcode_lacks : (n : ℕ) → n < 16 → Without 44 (rcode_text n)
unfolding digits
rcode_lacks n small = lacks_is 44 (rcode_text n) (below_is (λ k. lacks 44 (rcode_text k)) 16 n refl small)

-- A part, and then what the rest is.
pub follows : (a text rest x : List ℕ) → text ≡ a ++ rest → rest ≡ x → text ≡ a ++ x
follows a text rest x e f = e ∙ ap (λ z. a ++ z) f

-- The codes and the identifier of a header, in their order.
pub codes_joined : (text opcode rest status rcode more digits o r : List ℕ) → text ≡ opcode ++ (44 ∷ rest) → rest ≡ codes " status: " ++ status → status ≡ rcode ++ (44 ∷ more) → more ≡ codes " id: " ++ digits
    → opcode ≡ o → rcode ≡ r → text ≡ o ++ (codes ", status: " ++ (r ++ (codes ", id: " ++ digits)))
codes_joined text opcode rest status rcode more digits o r e f g h same_o same_r =
    let last : status ≡ r ++ (44 ∷ (codes " id: " ++ digits)) = g ∙ (ap (λ x. x ++ (44 ∷ more)) same_r ∙ ap (λ x. r ++ (44 ∷ x)) h) in
    e ∙ (ap (λ x. x ++ (44 ∷ rest)) same_o ∙ ap (λ x. o ++ (44 ∷ x)) (f ∙ ap (λ x. codes " status: " ++ x) last))

-- Either beginning of a header's first line.
pub either_beginning : (line : List ℕ) (r : Option (Bor (List ℕ))) → ((rest : List ℕ) → line ≡ codes ";; opcode: " ++ rest → ⊥)
    → MatchOption r ((rest : List ℕ) → line ≡ codes ";; ->>HEADER<<- opcode: " ++ rest → ⊥) (λ rest. line ≡ codes ";; ->>HEADER<<- opcode: " ++ rest.now)
    → MatchOption r ((rest : List ℕ) → IsCodesLine line rest → ⊥) (λ rest. IsCodesLine line rest.now)
either_beginning line None never h = λ rest is. elim is [ inl e ↦ never rest e | inr e ↦ h rest e ]
either_beginning line (Some x) never h = inr h

-- A heading is what a line begins with, and nothing or a colon follows.
pub heading_some : (heading line rest : List ℕ) (b : Bool) → line ≡ heading ++ rest → (IsTrue b → (rest ≡ []) ⊎ (rest ≡ 58 ∷ [])) × ((rest ≡ []) ⊎ (rest ≡ 58 ∷ []) → IsTrue b)
    → (IsTrue b → IsWithColon heading line) × (IsWithColon heading line → IsTrue b)
heading_some heading line rest b is ends = (
  λ t. elim (ends.0 t) [ inl e ↦ inl (is ∙ (ap (λ x. heading ++ x) e ∙ append-nil heading)) | inr e ↦ inr (is ∙ ap (λ x. heading ++ x) e) ],
  λ w. ends.1 (elim w [ inl e ↦ inl (append_cancel_left heading rest [] (sym is ∙ (e ∙ sym (append-nil heading)))) | inr e ↦ inr (append_cancel_left heading rest (58 ∷ []) (sym is ∙ e)) ]),
)

pub heading_none : (heading line : List ℕ) → ((rest : List ℕ) → line ≡ heading ++ rest → ⊥) → (IsTrue false → IsWithColon heading line) × (IsWithColon heading line → IsTrue false)
heading_none heading line never = (λ t. absurd (false≢true t), λ w. absurd (elim w [ inl e ↦ never [] (e ∙ sym (append-nil heading)) | inr e ↦ never (58 ∷ []) e ]))
