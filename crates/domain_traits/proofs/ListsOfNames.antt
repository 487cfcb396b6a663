-- Lists that flat names are made of.
use Rattle.std.proofs.Common.{List, ℕ, refl, arith}
use Rattle.std.specs.Result.{IsOk, IsErr}
use Rattle.std.specs.Prelude.{Result, Ok, Err}
use Rattle.domain_label.specs.Lowercase.{lowercase_labels}
use Rattle.domain_label.specs.Wire.{IsAbsoluteName, IsRelativeName}
use Rattle.domain_label.proofs.CanonicalForm.{lowercase_absolute, lowercase_relative, lowercase_size}

-- lowered labels are a name of the same shape
pub absolute_lowered : (ls : List (List ℕ)) → IsAbsoluteName ls → IsAbsoluteName (lowercase_labels ls)
absolute_lowered ls a = (lowercase_absolute ls a.0, omega (arith, lowercase_size ls, a.1))

pub relative_lowered : (ls : List (List ℕ)) → IsRelativeName ls → IsRelativeName (lowercase_labels ls)
relative_lowered ls r = (lowercase_relative ls r.0, omega (arith, lowercase_size ls, r.1))

-- what is not refused is accepted
pub accepted : {T E : Type 0} (r : Result T E) → (IsErr r → ⊥) → IsOk r
accepted (Ok x) h = refl
accepted (Err e) h = absurd (h refl)
