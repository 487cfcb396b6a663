-- How contracts describe builders of names.
use Rattle.domain_builder.specs.BuilderState.{BuilderState}
use Rattle.domain_builder.specs.Inside.{Held}
use Rattle.domain_name.specs.declared.builder.NameBuilder.{NameBuilder}

-- what a builder has built, and how many octets fit in all without new memory
abbrev pub held : {B E : Type 0} → NameBuilder B E → Held
held b = b.labels

-- the finished labels and the open one (RFC 1035, 3.1)
abbrev pub built : {B E : Type 0} → NameBuilder B E → BuilderState
built b = b.labels.built
