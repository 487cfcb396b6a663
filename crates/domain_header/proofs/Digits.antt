-- Decimal digits that are read from the left.
use Rattle.std.proofs.Common.{◌≡◌, ℕ, ◌+◌, ◌*◌, ◌<◌, ◌≤◌, List, [], ◌∷◌, length, drop, get_or, sym, subst, arith, add-one, drop-cons}
use Rattle.std.specs.Char.{digit_value}
use Rattle.std.specs.Str.Parse.{AllDigits, digits_value, digits_value_after}
use Rattle.std.proofs.lemmas.Grind.{common_steps}

-- the number grows with each digit
grows : (n : ℕ) (ds : List ℕ) → n ≤ digits_value_after 10 n ds
grows n [] = omega arith
grows n (c ∷ cs) = let more = grows (n * 10 + digit_value c) cs in omega (arith, more)

-- What is known after i digits: their number is n.
pub record ReadSoFar (text : List ℕ) (i n : ℕ) : Type 0 where
  pub fits : n < 65536
  pub value : digits_value 10 text ≡ digits_value_after 10 n (drop i text)
  pub digits : AllDigits 10 (drop i text) → AllDigits 10 text
  pub parts : AllDigits 10 text → AllDigits 10 (drop i text)

split : (text : List ℕ) (i : ℕ) → i < length text → drop i text ≡ get_or text i 0 ∷ drop (i + 1) text
split text i inside = rw (add-one, drop-cons text i 0)

past : (text : List ℕ) (i : ℕ) → length text ≤ i → drop i text ≡ []
past text i all = grind (arith, common_steps)

pub value_after : (text : List ℕ) (i n : ℕ) → i < length text → ReadSoFar text i n → digits_value 10 text ≡ digits_value_after 10 (n * 10 + digit_value (get_or text i 0)) (drop (i + 1) text)
value_after text i n inside so_far = subst (λ ds. digits_value 10 text ≡ digits_value_after 10 n ds) (split text i inside) so_far.value

pub read_more : (text : List ℕ) (i n : ℕ) → i < length text → ReadSoFar text i n → digit_value (get_or text i 0) < 10 → n * 10 + digit_value (get_or text i 0) < 65536 → ReadSoFar text (i + 1) (n * 10 + digit_value (get_or text i 0))
read_more text i n inside so_far digit fits = record {
  fits = fits;
  value = value_after text i n inside so_far;
  digits = λ rest. so_far.digits (subst (AllDigits 10) (sym (split text i inside)) (digit, rest));
  parts = λ all. (subst (AllDigits 10) (split text i inside) (so_far.parts all)).1;
}

-- each octet is a digit
pub digit_here : (text : List ℕ) (i n : ℕ) → i < length text → ReadSoFar text i n → AllDigits 10 text → digit_value (get_or text i 0) < 10
digit_here text i n inside so_far all = (subst (AllDigits 10) (split text i inside) (so_far.parts all)).0

-- the number is at least that of the digits so far
pub at_least : (text : List ℕ) (i n : ℕ) → i < length text → ReadSoFar text i n → n * 10 + digit_value (get_or text i 0) ≤ digits_value 10 text
at_least text i n inside so_far =
    let more = grows (n * 10 + digit_value (get_or text i 0)) (drop (i + 1) text) in
    let value = value_after text i n inside so_far in
    omega (arith, more, value)

-- all digits were read
pub read_all : (text : List ℕ) (i n : ℕ) → length text ≤ i → ReadSoFar text i n → AllDigits 10 text × (digits_value 10 text ≡ n)
read_all text i n all so_far =
    (so_far.digits (subst (AllDigits 10) (sym (past text i all)) tt), subst (λ ds. digits_value 10 text ≡ digits_value_after 10 n ds) (past text i all) so_far.value)
