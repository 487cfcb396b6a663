-- The length of the canonical form of fields.
use Rattle.std.proofs.Common.{◌≡◌, ℕ, Bool, true, false, if◌then◌else◌, Option, None, Some, IfSome, List, length, refl, sym, ap, subst, ◌∙◌}
use Rattle.domain_rdata.specs.Canonical.{canonical_form}
use Rattle.domain_rdata.specs.Rtypes.{has_lowercase_names}

picked : (b : Bool) (form : Bool → List ℕ) → (if b then form true else form false) ≡ form b
picked true form = refl
picked false form = refl

-- Where a length is known of fields with no name compressed, in lowercase or not, it is that of the canonical form.
pub form_len : (t : ℕ) (form : Bool → List ℕ) (known : Bool → Option ℕ) (compress : Bool) (told : Option ℕ) → told ≡ known compress → ((lowercase : Bool) (n : ℕ) → known false ≡ Some n → length (form lowercase) ≡ n) → compress ≡ false → IfSome told (λ n. length (canonical_form t (form false) (Some (form true))) ≡ n)
form_len t form known compress None same sized flat = tt
form_len t form known compress (Some n) same sized flat =
    subst (λ f. length f ≡ n) (sym (picked (has_lowercase_names t) form)) (sized (has_lowercase_names t) n (ap known (sym flat) ∙ sym same))
