-- Where the field after the first one is missing.
use Rattle.std.proofs.Common.{◌≡◌, ℕ, List, subst}
use Rattle.domain_fields.specs.Sequences.{NotBoth}
use Rattle.domain_fields.specs.Sequences.NotBoth.{no_rest}

pub rest_missing : {A E : Type 0} (FirstAt : List ℕ → ℕ → A → ℕ → Type 0) (NoFirst NoRest : List ℕ → ℕ → E → Type 0) (m moved : List ℕ) (p middle : ℕ) (it : A) (why : E) → moved ≡ m → FirstAt m p it middle → NoRest moved middle why → NotBoth FirstAt NoFirst NoRest m p why
rest_missing FirstAt NoFirst NoRest m moved p middle it why same there missing = no_rest it middle there (subst (λ o. NoRest o middle why) same missing)
