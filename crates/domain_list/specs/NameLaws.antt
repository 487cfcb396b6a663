-- Facts of the definitions that impls and callers cite.
use Rattle.std.specs.Prelude.{◌≡◌, ℕ, ◌+◌, List, [], ◌∷◌, ◌++◌, length, reverse, IsTrue, refl}
use Rattle.std.proofs.Common.{arith, sym, ap, ◌∙◌, inl, inr, ⊎_elim, length-append, true≢false}
use Rattle.std.proofs.lemmas.Cmp.{on_equiv, on_total, lists_total, nat_list_cmp_total}
use Rattle.std.proofs.lemmas.Grind.{flat_map-append}
use Rattle.std.proofs.lemmas.List.{reverse-reverse}
use Rattle.std.specs.Cmp.{IsTotalOrder, IsEquivalence, eq_by_cmp_equiv}
use Rattle.std.specs.Cmp.Lexicographic.{slice_cmp}
use Rattle.std.specs.Coded.{×_prop, le_prop}
use Rattle.std.specs.FinSet.{slice_cmp-IsAntisymmetric, nat_cmp-IsAntisymmetric}
use Rattle.std.specs.Hash as fed
use Rattle.std.specs.Ordering.{nat_cmp, is_eq}
use Rattle.std.specs.declared.cmp.Ordering.{Ordering}
use Rattle.std.specs.declared.cmp.Ordering.TheVariants.{Less, Equal, Greater}
use Rattle.domain_label.proofs.WireLaws.{IsRelative_prop, relative_then_absolute, relative_then_relative}
use Rattle.domain_label.specs.Lowercase.{lowercase, lowercase_labels, as_writes, label_hash_input}
use Rattle.domain_label.specs.Wire.{wire, IsAbsolute, IsRelative, IsAbsoluteName, IsRelativeName, IsName}
use Rattle.domain_list.specs.Chains.{before_root, IsChain}
use Rattle.domain_list.specs.Count.{but_root}
use Rattle.domain_list.specs.HashInput.{name_hash_input}
use Rattle.domain_list.specs.Order.{from_right, canonical_order, same_name}

-- ---- what impls of `Eq`, `Ord` and `Hash` for names must prove

-- lists of labels, from the left: a total order
pub lists_order : IsTotalOrder (slice_cmp (slice_cmp nat_cmp))
lists_order = lists_total nat_list_cmp_total

-- the canonical order of names (RFC 4034, 6.1) is total
pub order_is_total : IsTotalOrder canonical_order
order_is_total = on_total from_right lists_order

-- being the same name ignoring ASCII case (RFC 4343) is an equivalence
pub same_name_is_equivalence : IsEquivalence same_name
same_name_is_equivalence = on_equiv from_right (eq_by_cmp_equiv lists_order)

equal_of : (r : Ordering) → IsTrue (is_eq r) → r ≡ Equal
equal_of Less h = absurd (true≢false (sym h))
equal_of Equal h = refl
equal_of Greater h = absurd (true≢false (sym h))

-- names that are the same have the same labels in lower case
pub same_lowercase : (a b : List (List ℕ)) → IsTrue (same_name a b) → lowercase_labels a ≡ lowercase_labels b
same_lowercase a b h =
    let e : from_right a ≡ from_right b = slice_cmp-IsAntisymmetric (slice_cmp-IsAntisymmetric nat_cmp-IsAntisymmetric) (from_right a) (from_right b) (equal_of _ h) in
    sym (reverse-reverse (lowercase_labels a)) ∙ (ap reverse e ∙ reverse-reverse (lowercase_labels b))

-- what is written to a hasher is the wire format ignoring case, octet by octet
pub hash_input_is_wire : (ls : List (List ℕ)) → name_hash_input ls ≡ as_writes (wire (lowercase_labels ls))
hash_input_is_wire [] = refl
hash_input_is_wire (l ∷ ls) =
    ap (λ r. label_hash_input l ++ r) (hash_input_is_wire ls) ∙ sym (flat_map-append fed.u8 (length (lowercase l) ∷ lowercase l) (wire (lowercase_labels ls)))

-- names that are the same ignoring case write the same to a hasher
pub same_hash_input : (a b : List (List ℕ)) → IsTrue (same_name a b) → name_hash_input a ≡ name_hash_input b
same_hash_input a b h = hash_input_is_wire a ∙ (ap (λ r. as_writes (wire r)) (same_lowercase a b h) ∙ sym (hash_input_is_wire b))

-- ---- chains

-- what comes before the root of an absolute list, and of a relative one
no_labels : (ls : List (List ℕ)) → ls ≡ [] → before_root ls + 1 ≡ length (wire ([] ∷ ls))
no_labels [] e = refl
no_labels (l ∷ ls) e = absurd (omega (arith, ap length e))

-- an absolute name has one octet more than comes before its root
pub before_absolute : (ls : List (List ℕ)) → IsAbsolute ls → before_root ls + 1 ≡ length (wire ls)
before_absolute [] a = absurd a
before_absolute ([] ∷ ls) a = no_labels ls a
before_absolute ((x ∷ xs) ∷ ls) a = omega (arith, before_absolute ls a.1, length-append xs (wire ls), length-append xs (wire (but_root ls)))

-- all octets of a relative name come before a root
pub before_relative : (ls : List (List ℕ)) → IsRelative ls → before_root ls ≡ length (wire ls)
before_relative [] r = refl
before_relative ([] ∷ ls) r = absurd r
before_relative ((x ∷ xs) ∷ ls) r = omega (arith, before_relative ls r.1, length-append xs (wire ls), length-append xs (wire (but_root ls)))

-- a chain is absolute, relative or a name where its right list is
pub chain_absolute : (ls rs : List (List ℕ)) → IsChain ls rs → IsAbsolute rs → IsAbsoluteName (ls ++ rs)
chain_absolute ls rs c r = let a = relative_then_absolute ls rs c.0 r in (a, omega (arith, before_absolute (ls ++ rs) a, c.1))

-- a chain that ends in a relative name is a relative name of at most 254 octets
pub chain_relative : (ls rs : List (List ℕ)) → IsChain ls rs → IsRelative rs → IsRelativeName (ls ++ rs)
chain_relative ls rs c r = let a = relative_then_relative ls rs c.0 r in (a, omega (arith, before_relative (ls ++ rs) a, c.1))

-- a chain is a name, absolute or relative as its right part is
pub chain_name : (ls rs : List (List ℕ)) → IsChain ls rs → IsName rs → IsName (ls ++ rs)
chain_name ls rs c = ⊎_elim (λ a. inl (chain_absolute ls rs c a.0)) (λ r. inr (chain_relative ls rs c r.0))

-- that two lists are a chain has one proof
pub IsChain_prop : (ls rs : List (List ℕ)) → IsProp (IsChain ls rs)
IsChain_prop ls rs = ×_prop (IsRelative_prop ls) le_prop

-- ---- names

-- what is no absolute name is a relative one
pub relative_else : (ls : List (List ℕ)) → IsName ls → (IsAbsolute ls → ⊥) → IsRelative ls
relative_else ls n h = ⊎_elim (λ a. absurd (h a.0)) (λ r. r.0) n
