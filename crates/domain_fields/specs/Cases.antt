-- Names in lowercase, or with their case.
use Rattle.std.specs.Prelude.{ℕ, Bool, true, false, List, Option, None, Some}
use Rattle.domain_label.specs.Lowercase.{lowercase_labels}
use Rattle.domain_label.specs.Wire.{wire}

-- the labels of a name, in lowercase if so (RFC 4034, 6.2)
abbrev pub cased_labels : Bool → List (List ℕ) → List (List ℕ)
cased_labels true ls = lowercase_labels ls
cased_labels false ls = ls

-- the wire format of a name in lowercase
abbrev pub lowercase_wire : List (List ℕ) → List ℕ
lowercase_wire ls = wire (lowercase_labels ls)

-- octets with names in lowercase, where it is known which of them are names, else with their case
abbrev pub lowercase_where_known : Option (List ℕ) → List ℕ → List ℕ
lowercase_where_known (Some lowercase) cased = lowercase
lowercase_where_known None cased = cased
