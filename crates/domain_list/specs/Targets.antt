-- What becomes of a target that a name is appended to. `g` holds the ghost members that `Octets` gives it.
use Rattle.std.specs.Prelude.{◌≡◌, ◌+◌, ◌<◌, List, ℕ, ◌++◌, length}
use Rattle.octseq.specs.declared.octets.Octets.{Ghosts}
use Rattle.domain_label.specs.Lowercase.{lowercase_labels}
use Rattle.domain_label.specs.Wire.{wire}

-- The wire format of the name was appended.
abbrev pub NameFollows : {T : Type 0} → Ghosts T → List (List ℕ) → T → T → Type 0
NameFollows g labels old new = g.octets new ≡ g.octets old ++ wire labels

-- The name exceeds the spare capacity.
abbrev pub NameLacksRoom : {T : Type 0} → Ghosts T → List (List ℕ) → T → Type 0
NameLacksRoom g labels old = g.capacity old < length (g.octets old) + length (wire labels)

-- The wire format of the name in lower case was appended (RFC 4034, 6.2).
abbrev pub LowercaseFollows : {T : Type 0} → Ghosts T → List (List ℕ) → T → T → Type 0
LowercaseFollows g labels = NameFollows g (lowercase_labels labels)

-- The name in lower case exceeds the spare capacity.
abbrev pub LowercaseLacksRoom : {T : Type 0} → Ghosts T → List (List ℕ) → T → Type 0
LowercaseLacksRoom g labels = NameLacksRoom g (lowercase_labels labels)
