-- The length of a chain.
use Rattle.std.proofs.Common.{◌≡◌, ℕ, ◌+◌, ◌≤◌, List, [], ◌∷◌, ◌++◌, length, refl, sym, subst, arith}
use Rattle.domain_label.specs.Wire.{wire, Root, IsAbsolute, IsRelative, IsRelativeName}
use Rattle.domain_label.proofs.WireLaws.{length-wire_append, relative_then_absolute, relative_then_relative}
use Rattle.domain_list.specs.Chains.{before_root}
use Rattle.domain_list.specs.NameLaws.{before_absolute, before_relative}

pub before_chain_absolute : (ls rs : List (List ℕ)) → IsRelative ls → IsAbsolute rs → before_root (ls ++ rs) + 1 ≡ length (wire ls) + length (wire rs)
before_chain_absolute ls rs l r = omega (arith, before_absolute (ls ++ rs) (relative_then_absolute ls rs l r), length-wire_append ls rs)

pub before_chain_relative : (ls rs : List (List ℕ)) → IsRelative ls → IsRelative rs → before_root (ls ++ rs) ≡ length (wire ls) + length (wire rs)
before_chain_relative ls rs l r = omega (arith, before_relative (ls ++ rs) (relative_then_relative ls rs l r), length-wire_append ls rs)

-- a relative name leaves an octet for a root
pub root_fits : (ls rs : List (List ℕ)) → IsRelativeName ls → rs ≡ Root → before_root (ls ++ rs) ≤ 254
root_fits ls rs r e =
    let P : List (List ℕ) → Type 0 = λ after. before_root (ls ++ after) ≤ 254 in
    subst P (sym e) (omega (arith, before_chain_absolute ls Root r.0 refl, r.1))

-- a chain's list is absolute exactly where its right list is
pub chain_is_absolute : (ls rs : List (List ℕ)) → IsRelative ls → IsAbsolute (ls ++ rs) → IsAbsolute rs
chain_is_absolute [] rs l a = a
chain_is_absolute ([] ∷ ls) rs l a = absurd l
chain_is_absolute ((x ∷ xs) ∷ ls) rs l a = chain_is_absolute ls rs l.1 a.1
