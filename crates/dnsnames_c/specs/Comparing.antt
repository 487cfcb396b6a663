-- What calls return for names that are given by their octets.
use Rattle.std.specs.Prelude.{◌≡◌, ℕ, List}
use Rattle.std.specs.declared.cmp.Ordering.{Ordering}
use Rattle.domain_label.specs.Lowercase.{lowercase_labels}
use Rattle.domain_label.specs.Wire.{wire, labels_in}
use Rattle.domain_list.specs.Ends.{EndsWith}
use Rattle.domain_list.specs.Order.{canonical_order}
use Rattle.dnsnames_c.specs.Answers.{GivesOf}

-- The names are equal without ASCII case.
abbrev pub EqualNames : List ℕ → List ℕ → Type 0
EqualNames left right = lowercase_labels (labels_in left) ≡ lowercase_labels (labels_in right)

-- the canonical order of the names (RFC 4034, 6.1)
abbrev pub name_order : List ℕ → List ℕ → Ordering
name_order left right = canonical_order (labels_in left) (labels_in right)

-- The name ends with the labels of the other without ASCII case.
abbrev pub EndsInName : List ℕ → List ℕ → Type 0
EndsInName name suffix = EndsWith (labels_in name) (labels_in suffix)

-- the canonical form of the name, A to Z as a to z (RFC 4034, 6.2)
abbrev pub canonical_name_octets : List ℕ → List ℕ
canonical_name_octets name = wire (lowercase_labels (labels_in name))

-- It was given; or the octets are no absolute name (9), and nothing changed.
abbrev pub GivesCanonicalForm : List ℕ → ℕ → List ℕ → List ℕ → ℕ → ℕ → Type 0
GivesCanonicalForm name status old new old_len len =
    GivesOf name (canonical_name_octets name) status old new old_len len
