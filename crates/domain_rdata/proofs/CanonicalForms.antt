-- The canonical form after its length.
use Rattle.std.proofs.Common.{◌≡◌, ℕ, ◌≤◌, List, ◌++◌, length, ap, ◌∙◌, sym, arith}
use Rattle.std.specs.Int.{w16, to_be_bytes}
use Rattle.domain_rdata.specs.Canonical.{WithForm, WithLengthAndForm}

-- A length in two octets, and after it the form, which has this length.
pub form_told : (form old told mid new : List ℕ) (n : ℕ) → length form ≡ n → n ≤ 65535 → told ≡ to_be_bytes w16 n → mid ≡ old ++ told → WithForm form mid new → WithLengthAndForm form old new
form_told form old told mid new n sized few two after with =
    (omega (arith, sized, few), with ∙ (ap (λ m. m ++ form) after ∙ ap (λ t. old ++ t ++ form) (two ∙ ap (to_be_bytes w16) (sym sized))))
