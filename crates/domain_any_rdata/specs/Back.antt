-- What is read of data that was composed (RFC 1035, 4.1.4).
use Rattle.std.specs.Prelude.{◌≡◌, ℕ, List, [], ◌∷◌}
use Rattle.domain_label.specs.Lowercase.{lowercase_labels}
use Rattle.domain_fields.specs.Parts.{Part, a_name, no_name}
use Rattle.domain_any_rdata.specs.AllData.{data_class, data_parts, SeenData}
use Rattle.domain_any_rdata.specs.Reading.{DataAt}
use Rattle.domain_any_rdata.specs.declared.all.AllRecordData.{AllRecordData}

-- A part is read as the same octets, or as an equal name, ignoring ASCII case.
abbrev pub LikePart : Part → Part → Type 0
LikePart (a_name ls) (a_name seen) = lowercase_labels seen ≡ lowercase_labels ls
LikePart (a_name ls) (no_name seen) = ⊥
LikePart (no_name octets) (a_name seen) = ⊥
LikePart (no_name octets) (no_name seen) = seen ≡ octets

abbrev pub LikeParts : List Part → List Part → Type 0
LikeParts [] [] = Unit {0}
LikeParts [] (y ∷ ys) = ⊥
LikeParts (x ∷ xs) [] = ⊥
LikeParts (x ∷ xs) (y ∷ ys) = LikePart x y × LikeParts xs ys

-- Data of the type that is seen so is at p, and ends at e.
abbrev pub SeenAt : ℕ → List ℕ → ℕ → SeenData → ℕ → Type 0
SeenAt rtype m p seen e = DataAt rtype seen.0 m p seen.1 e

-- It has the same class, and its fields are alike.
abbrev pub IsLike : AllRecordData → SeenData → Type 0
IsLike it seen = (seen.0 ≡ data_class it) × LikeParts (data_parts it) seen.1
