-- The length of the octets.
use Rattle.std.proofs.Common.{◌≡◌, ℕ, ◌+◌, ◌-◌, ◌<◌, Bool, true, false, List, [], ◌∷◌, length, refl, ap, length-append, arith}
use Rattle.domain_label.proofs.CanonicalForm.{lowercase_size}
use Rattle.domain_fields.specs.Parts.{Part, a_name, no_name, part_octets, parts_octets}

pub part_size : (lowercase : Bool) (x : Part) → length (part_octets lowercase x) ≡ length (part_octets false x)
part_size true (a_name ls) = lowercase_size ls
part_size false (a_name ls) = refl
part_size lowercase (no_name octets) = refl

-- the canonical form has as many octets
pub parts_size : (lowercase : Bool) (xs : List Part) → length (parts_octets lowercase xs) ≡ length (parts_octets false xs)
parts_size lowercase [] = refl
parts_size lowercase (x ∷ xs) =
    omega (arith, part_size lowercase x, parts_size lowercase xs, length-append (part_octets lowercase x) (parts_octets lowercase xs), length-append (part_octets false x) (parts_octets false xs))

-- the invariant of `uncompressed_len`
pub part_less : (all left rest : List Part) (x : Part) (len sum n : ℕ) → left ≡ x ∷ rest → len + length (parts_octets false left) ≡ length (parts_octets false all) → n ≡ length (part_octets false x) → sum ≡ len + n
    → sum + length (parts_octets false rest) ≡ length (parts_octets false all)
part_less all left rest x len sum n first before is added =
    omega (arith, ap (λ xs. length (parts_octets false xs)) first, before, is, added, length-append (part_octets false x) (parts_octets false rest))

pub too_many : (all left rest : List Part) (x : Part) (len n : ℕ) → left ≡ x ∷ rest → len + length (parts_octets false left) ≡ length (parts_octets false all) → n ≡ length (part_octets false x) → 65535 - len < n
    → 65535 < length (parts_octets false all)
too_many all left rest x len n first before is many =
    omega (arith, ap (λ xs. length (parts_octets false xs)) first, before, is, many, length-append (part_octets false x) (parts_octets false rest))

pub all_counted : (all left : List Part) (len : ℕ) → left ≡ [] → len + length (parts_octets false left) ≡ length (parts_octets false all) → length (parts_octets false all) ≡ len
all_counted all left len none sum = omega (arith, ap (λ (xs : List Part). length (parts_octets false xs)) none, sum)
