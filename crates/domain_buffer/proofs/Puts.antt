-- What writing octets into a buffer leaves.
use Rattle.std.proofs.Common.{◌≡◌, ℕ, ◌+◌, ◌-◌, ◌≤◌, List, ◌++◌, length, take, drop, sym, ap, ◌∙◌, arith, append_assoc, length-append, length-drop, drop-drop}
use Rattle.std.proofs.lemmas.Grind.{common_steps}
use Rattle.std.proofs.lemmas.List.{length-take-le, take-append-drop}
use Rattle.std.proofs.lemmas.Slice.{drop-append-drop}
use Rattle.std.proofs.Math.Seq.{take-append_seam}
use Rattle.domain_buffer.specs.Puts.{PutsAt}

-- what the buffer begins with then
pub puts_take : (p : ℕ) (s o o' : List ℕ) → p + length s ≤ length o → PutsAt p s o o' → take (p + length s) o' ≡ take p o ++ s
puts_take p s o o' fits puts = grind (arith, common_steps)

pub puts_size : (p : ℕ) (s o o' : List ℕ) → p + length s ≤ length o → PutsAt p s o o' → length o' ≡ length o
puts_size p s o o' fits puts = grind (arith, common_steps)

pub puts_first : (n p : ℕ) (s o o' : List ℕ) → n ≤ p → p ≤ length o → PutsAt p s o o' → take n o' ≡ take n o
puts_first n p s o o' low fits puts = grind (arith, common_steps)

pub puts_rest : (n p : ℕ) (s o o' : List ℕ) → p + length s ≤ n → p + length s ≤ length o → PutsAt p s o o' → drop n o' ≡ drop n o
puts_rest n p s o o' after fits puts =
    let size : length (take p o ++ s) ≡ p + length s = length-append (take p o) s ∙ ap (λ n. n + length s) (length-take-le p o (omega (arith, fits))) in
    ap (drop n) puts ∙ drop-append-drop (p + length s) o (take p o ++ s) n after size

-- Two parts, one after the other.
pub puts_both : (p q : ℕ) (a b o m o' : List ℕ) → q ≡ p + length a → p + length a + length b ≤ length o → PutsAt p a o m → PutsAt q b m o' → PutsAt p (a ++ b) o o'
puts_both p q a b o m o' at fits first second =
    let begun : take q m ≡ take p o ++ a = ap (λ n. take n m) at ∙ puts_take p a o m (omega (arith, fits)) first in
    let rest : drop (q + length b) m ≡ drop (p + length (a ++ b)) o = puts_rest (q + length b) p a o m (omega (arith, at)) (omega (arith, fits)) first ∙ ap (λ n. drop n o) (omega (arith, at, length-append a b)) in
    second ∙ (ap (λ x. x ++ b ++ drop (q + length b) m) begun
    ∙ (ap (λ x. x ++ drop (q + length b) m) (append_assoc (take p o) a b)
    ∙ ap (λ x. take p o ++ (a ++ b) ++ x) rest))

-- What was there before, put back.
pub puts_back : (p : ℕ) (s back o m n o' : List ℕ) → p + length s ≤ length o → PutsAt p s o m → n ≡ m → PutsAt p back n o' → back ≡ take (length s) (drop p o) → o' ≡ o
puts_back p s back o m n o' fits first same second kept =
    let k = length s in
    let there : k ≤ length (drop p o) = omega (arith, fits, length-drop p o) in
    let size : length back ≡ k = ap length kept ∙ length-take-le k (drop p o) there in
    let begun : take p n ≡ take p o = ap (take p) same ∙ puts_first p p s o m (omega arith) (omega (arith, fits)) first in
    let rest : drop (p + length back) n ≡ drop (p + k) o = ap (drop (p + length back)) same ∙ (puts_rest (p + length back) p s o m (omega (arith, size)) fits first ∙ ap (λ i. drop i o) (omega (arith, size))) in
    let after : drop (p + k) o ≡ drop k (drop p o) = sym (drop-drop k p o ∙ ap (λ i. drop i o) (omega arith)) in
    let tail : take k (drop p o) ++ drop (p + k) o ≡ drop p o = ap (λ x. take k (drop p o) ++ x) after ∙ take-append-drop k (drop p o) in
    second ∙ (ap (λ x. x ++ back ++ drop (p + length back) n) begun
    ∙ (ap (λ x. take p o ++ x ++ drop (p + length back) n) kept
    ∙ (ap (λ x. take p o ++ take k (drop p o) ++ x) rest
    ∙ (append_assoc (take p o) (take k (drop p o)) (drop (p + k) o)
    ∙ (ap (λ x. take p o ++ x) tail ∙ take-append-drop p o)))))

-- what was kept of them in a longer buffer
pub kept_there : (p n k : ℕ) (new rest o : List ℕ) → p + n ≤ length o → k ≡ n → new ≡ take (p + n - p) (drop p o) → take n (new ++ rest) ≡ take k (drop p o)
kept_there p n k new rest o fits same is =
    let whole : p + n - p ≡ n = omega arith in
    let size : length new ≡ n = ap length is ∙ (length-take-le (p + n - p) (drop p o) (omega (arith, fits, length-drop p o)) ∙ whole) in
    ap (λ i. take i (new ++ rest)) (sym size) ∙ (take-append_seam new rest ∙ (is ∙ ap (λ i. take i (drop p o)) (omega (arith, whole, same))))
