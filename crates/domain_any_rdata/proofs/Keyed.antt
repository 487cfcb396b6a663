-- Data is compared by its type, then by its class, and then by its octets.
use Rattle.std.proofs.Common.{◌≡◌, ◌∙◌, true, false, List, ℕ, ◌∷◌, ◌++◌, fold, sym, ap}
use Rattle.std.specs.Cmp.Lexicographic.{slice_cmp}
use Rattle.std.specs.Ordering.{is_ne, nat_cmp}
use Rattle.std.specs.declared.cmp.Ordering.{Ordering}
use Rattle.std.specs.Hash as fed
use Rattle.std.proofs.lemmas.Grind.{fold-append}
use Rattle.domain_fields.specs.Orders.{hashed}
use Rattle.domain_label.specs.Lowercase.{as_writes}
use Rattle.domain_any_rdata.proofs.Cutting.{then_differs, then_same}

-- numbers that differ decide
pub by_first : (o : Ordering) (a b : ℕ) (x y : List ℕ) → o ≡ nat_cmp a b → is_ne o ≡ true → o ≡ slice_cmp nat_cmp (a ∷ x) (b ∷ y)
by_first o a b x y is differ = is ∙ sym (then_differs (nat_cmp a b) (slice_cmp nat_cmp x y) (ap is_ne (sym is) ∙ differ))

-- those that are the same leave it to the rest
pub by_rest : (o r : Ordering) (a b : ℕ) (x y : List ℕ) → o ≡ nat_cmp a b → is_ne o ≡ false → r ≡ slice_cmp nat_cmp x y → r ≡ slice_cmp nat_cmp (a ∷ x) (b ∷ y)
by_rest o r a b x y is same rest =
    rest ∙ sym (then_same (nat_cmp a b) (slice_cmp nat_cmp x y) (ap is_ne (sym is) ∙ same))

-- what is written of each, one after another
pub all_hashed : {H : Type 0} (write : H → List ℕ → H) (a b : fed.HashWrites) (octets : List ℕ) (state first second all : H)
    → first ≡ fold write state a → second ≡ fold write first b → all ≡ hashed write octets second → all ≡ fold write state (a ++ (b ++ as_writes octets))
all_hashed write a b octets state first second all one two three =
    three
    ∙ ap (λ s. fold write s (as_writes octets)) (two ∙ ap (λ s. fold write s b) one)
    ∙ sym (fold-append write state a (b ++ as_writes octets) ∙ fold-append write (fold write state a) b (as_writes octets))
