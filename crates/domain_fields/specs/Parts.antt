-- Fields as their parts: names, and octets that are no name.
use Rattle.std.specs.Prelude.{◌≡◌, ℕ, Bool, List, [], ◌∷◌, ◌++◌, refl}
use Rattle.std.proofs.Common.{ap, sym, ◌∙◌, append_assoc, append-nil}
use Rattle.domain_label.specs.Wire.{wire}
use Rattle.domain_fields.specs.Cases.{cased_labels}

-- a part of a field
pub data Part : Type 0 where
  a_name : List (List ℕ) → Part
  no_name : List ℕ → Part

-- its octets with no name compressed, a name in lowercase if so
abbrev pub part_octets : Bool → Part → List ℕ
part_octets lowercase (a_name ls) = wire (cased_labels lowercase ls)
part_octets lowercase (no_name octets) = octets

-- those of parts, one after the other
abbrev pub parts_octets : Bool → List Part → List ℕ
parts_octets lowercase [] = []
parts_octets lowercase (part ∷ parts) = part_octets lowercase part ++ parts_octets lowercase parts

-- one part
pub one_part : (lowercase : Bool) (part : Part) → part_octets lowercase part ≡ parts_octets lowercase (part ∷ [])
one_part lowercase part = sym (append-nil (part_octets lowercase part))

parts_append : (lowercase : Bool) (xs ys : List Part) → parts_octets lowercase (xs ++ ys) ≡ parts_octets lowercase xs ++ parts_octets lowercase ys
parts_append lowercase [] ys = refl
parts_append lowercase (x ∷ xs) ys =
    ap (λ r. part_octets lowercase x ++ r) (parts_append lowercase xs ys) ∙ sym (append_assoc (part_octets lowercase x) (parts_octets lowercase xs) (parts_octets lowercase ys))

-- the parts of one field, and then those of the next
pub both_parts : (a b : List ℕ) (lowercase : Bool) (xs ys : List Part) → a ≡ parts_octets lowercase xs → b ≡ parts_octets lowercase ys → a ++ b ≡ parts_octets lowercase (xs ++ ys)
both_parts a b lowercase xs ys first rest = ap (λ x. x ++ b) first ∙ (ap (λ y. parts_octets lowercase xs ++ y) rest ∙ sym (parts_append lowercase xs ys))
