-- What contracts see of parameters.
use Rattle.std.specs.Prelude.{ℕ, List}
use Rattle.octseq.specs.declared.octets.Octets.{Ghosts}
use Rattle.domain_svcb.specs.declared.params.SvcParams.{SvcParams}

-- the octets of the parameters
abbrev pub params_held : {O : Type 0} {g : Ghosts O} → SvcParams O g → List ℕ
params_held {g = g} it = g.octets it.octets

-- what holds them
abbrev pub params_holder : {O : Type 0} {g : Ghosts O} → SvcParams O g → O
params_holder it = it.octets

-- the parameters: of each its key and the octets of its value
abbrev pub params_of : {O : Type 0} {g : Ghosts O} → SvcParams O g → List (ℕ × List ℕ)
params_of it = it.params.0
