-- What two names, or two wire formats, have at their ends ignoring case.
use Rattle.std.specs.Prelude.{◌≡◌, ℕ, ◌≤◌, List, ◌++◌, length, Option, None, Some}
use denote.Bor.{Bor}
use Rattle.domain_label.specs.Lowercase.{lowercase, lowercase_labels}
use Rattle.domain_label.specs.Wire.{wire}

-- Labels at the ends of xs and ys that have as many octets, at most n, are the same.
abbrev pub SuffixesEqual : List (List ℕ) → List (List ℕ) → ℕ → Type 0
SuffixesEqual xs ys n = (us ps vs qs : List (List ℕ)) → xs ≡ us ++ ps → ys ≡ vs ++ qs → length (wire ps) ≡ length (wire qs) → length (wire ps) ≤ n → lowercase_labels ps ≡ lowercase_labels qs

-- The octets o are f and n more, p is g and n more, and these are the same.
pub record EqualAfter (o p f g : List ℕ) (n : ℕ) : Type 0 where
  pub o_end : List ℕ
  pub p_end : List ℕ
  pub o_is : o ≡ f ++ o_end
  pub p_is : p ≡ g ++ p_end
  pub alike : lowercase o_end ≡ lowercase p_end
  pub size : length o_end ≡ n

-- The last n octets of o and p are the same.
abbrev pub OctetSuffixesEqual : List ℕ → List ℕ → ℕ → Type 0
OctetSuffixesEqual o p n = (f : List ℕ) × (g : List ℕ) × EqualAfter o p f g n

-- The same of octets of which some may not be known.
abbrev pub KnownSuffixesEqual : Option (Bor (List ℕ)) → Option (Bor (List ℕ)) → ℕ → Type 0
KnownSuffixesEqual None b n = n ≡ 0
KnownSuffixesEqual (Some o) None n = n ≡ 0
KnownSuffixesEqual (Some o) (Some p) n = OctetSuffixesEqual o.now p.now n
