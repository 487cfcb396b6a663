-- Lists of octets.
use Rattle.std.proofs.Common.{◌≡◌, ◌∙◌, ℕ, zero, suc, ◌-◌, ◌<◌, List, [], ◌∷◌, ◌++◌, take, drop, get_or, slice_range, true, ◌==◌, refl, ap}
use Rattle.std.specs.Cmp.Lexicographic.{pointwise}
use Rattle.std.proofs.lemmas.Bool.{false≢true, and_parts, eqb-true}
use Rattle.domain_rdata_text.specs.Laws.{AreOctets}

pub octets_append : (a b : List ℕ) → AreOctets a → AreOctets b → AreOctets (a ++ b)
octets_append [] b ha hb = hb
octets_append (c ∷ a) b ha hb = (ha.0, octets_append a b ha.1 hb)

pub octets_take : (n : ℕ) (s : List ℕ) → AreOctets s → AreOctets (take n s)
octets_take zero [] h = tt
octets_take zero (c ∷ s) h = tt
octets_take (suc n) [] h = tt
octets_take (suc n) (c ∷ s) h = (h.0, octets_take n s h.1)

pub octets_drop : (n : ℕ) (s : List ℕ) → AreOctets s → AreOctets (drop n s)
octets_drop zero [] h = tt
octets_drop zero (c ∷ s) h = h
octets_drop (suc n) [] h = tt
octets_drop (suc n) (c ∷ s) h = octets_drop n s h.1

pub octets_range : (m : List ℕ) (p q : ℕ) → AreOctets m → AreOctets (slice_range m p q)
octets_range m p q h = octets_take (q - p) (drop p m) (octets_drop p m h)

-- each octet of a slice is below 256
pub octets_each : (s : List ℕ) → ((k : ℕ) → get_or s k 0 < 256) → AreOctets s
octets_each [] h = tt
octets_each (c ∷ s) h = (h 0, octets_each s (λ k. h (suc k)))

-- two numbers of 16 bits, high octet first
pub same_pair : (a b x y : ℕ) → x ≡ a → y ≡ b → x ∷ y ∷ [] ≡ a ∷ b ∷ []
same_pair a b x y e f = ap (λ (n : ℕ). n ∷ y ∷ []) e ∙ ap (λ (n : ℕ). a ∷ n ∷ []) f

-- octets that are found to be the same
pub same_when : (xs ys : List ℕ) → pointwise ◌==◌ xs ys ≡ true → xs ≡ ys
same_when [] [] e = refl
same_when [] (y ∷ ys) e = absurd (false≢true e)
same_when (x ∷ xs) [] e = absurd (false≢true e)
same_when (x ∷ xs) (y ∷ ys) e =
    let p = and_parts (x == y) (pointwise ◌==◌ xs ys) e in
    ap (λ (z : ℕ). z ∷ xs) (eqb-true x y p.0) ∙ ap (λ (z : List ℕ). y ∷ z) (same_when xs ys p.1)
