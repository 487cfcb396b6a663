-- A name that is reported as uncompressed, or not.
use Rattle.std.proofs.Common.{◌≡◌, ℕ, List, Bool, false, sym, subst, ◌∙◌}
use Rattle.domain_reading.specs.Grammar.{IsContiguous}

-- What is said of the name at q in o holds of that at p in m, if both are the same.
pub contiguous_here : (m o : List ℕ) (p q : ℕ) (b d : Bool) → o ≡ m → q ≡ p → b ≡ d → (d ≡ false → IsContiguous o q) × (IsContiguous o q → d ≡ false) → (b ≡ false → IsContiguous m p) × (IsContiguous m p → b ≡ false)
contiguous_here m o p q b d same here bit both = (
  λ e. subst (λ q. IsContiguous m q) here (subst (λ o. IsContiguous o q) same (both.0 (sym bit ∙ e))),
  λ contiguous. bit ∙ both.1 (subst (λ o. IsContiguous o q) (sym same) (subst (λ q. IsContiguous m q) (sym here) contiguous)),
)
