-- The port of a service binding (RFC 9460, 7.2).
use Rattle.std.specs.Prelude.{◌≡◌, ℕ, ◌+◌, ◌*◌, List, [], ◌∷◌, Option, None, Some}
use Rattle.domain_svcb.specs.SvcParams.{EncodesParams, value_with}

-- the number of two octets, and none of another value
abbrev pub port_in : Option (List ℕ) → Option ℕ
port_in None = None
port_in (Some []) = None
port_in (Some (a ∷ [])) = None
port_in (Some (a ∷ b ∷ [])) = Some (a * 256 + b)
port_in (Some (a ∷ b ∷ c ∷ cs)) = None

-- The octets are parameters, and this is the port among them.
abbrev pub TellsPort : List ℕ → Option ℕ → Type 0
TellsPort octets port = (ps : List (ℕ × List ℕ)) × EncodesParams octets ps × (port ≡ port_in (value_with 3 ps))
