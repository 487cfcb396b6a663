-- Where the words of the octets and their padding lie.
use Rattle.std.proofs.Common.{◌≡◌, ℕ, ◌+◌, ◌≤◌, List, ◌++◌, length, take, drop, sym, ap, ◌∙◌, arith, length-drop}
use Rattle.std.proofs.lemmas.List.{drop-append-le, take-append-le}
use Rattle.std.specs.Int.{w64, from_le_bytes}
use Rattle.domain_siphash.specs.SipHash.{word}

-- a word that lies inside the octets is none of what follows them
pub word_inside : (os t : List ℕ) (p : ℕ) → p + 8 ≤ length os → word (drop p os) 0 ≡ word (os ++ t) p
unfolding word
word_inside os t p h =
    ap (from_le_bytes w64) (sym (take-append-le 8 (drop p os) t (omega (arith, h, length-drop p os))))
    ∙ ap (λ xs. from_le_bytes w64 (take 8 xs)) (sym (drop-append-le p os t (omega (arith, h))))

-- a word that begins in the octets or at their end is that of what is left and what follows
pub word_across : (os t : List ℕ) (p : ℕ) → p ≤ length os → word (drop p os ++ t) 0 ≡ word (os ++ t) p
unfolding word
word_across os t p h = ap (λ xs. from_le_bytes w64 (take 8 xs)) (sym (drop-append-le p os t h))
