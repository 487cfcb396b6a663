-- Why a record isn't pushed (RFC 1035, 4.1). `o` is the list of the octets, `b` the builder
-- beside it.
use Rattle.std.specs.Prelude.{◌≡◌, ◌⊎◌, ℕ, ◌+◌, ◌<◌, List, length}
use Rattle.domain_message.specs.declared.section.Section.{Section}
use Rattle.domain_message_builder.specs.Pushes.{later_count, section_count}
use Rattle.domain_buffer.specs.Builders.{counts_of, TooBig}
use Rattle.domain_buffer.specs.Data.{Fields}
use Rattle.domain_buffer.specs.Named.{NamedTooBig}
use Rattle.domain_buffer.specs.declared.builder.Builder.{Builder}
use Rattle.domain_buffer.specs.declared.push.PushFault.{PushFault}
use Rattle.domain_buffer.specs.declared.push.PushFault.TheVariants.{LaterSection, FullSection, NoRoom}

-- Why a record isn't pushed into it: a later section has a record, this one has 65,535, or it doesn't fit, as is said.
abbrev pub RefusesPush : Section → Builder → Type 0 → PushFault → Type 0
RefusesPush section b DoesNotFit why =
    ((why ≡ LaterSection) × (0 < later_count section (counts_of b)))
    ⊎ ((why ≡ FullSection) × (later_count section (counts_of b) ≡ 0)
    × (section_count section (counts_of b) ≡ 65535))
    ⊎ ((why ≡ NoRoom) × (later_count section (counts_of b) ≡ 0)
    × (section_count section (counts_of b) < 65535) × DoesNotFit)

-- A record with these data wasn't pushed, and why.
abbrev pub RefusesData : Section → (owner rdata : List ℕ) → List ℕ → Builder → PushFault → Type 0
RefusesData section owner rdata o b why =
    RefusesPush section b (TooBig o b owner (10 + length rdata)) why

-- A record with names in its data wasn't, and why.
abbrev pub RefusesNamed : Section → (owner : List ℕ) → Fields → List ℕ → Builder → PushFault → Type 0
RefusesNamed section owner f o b why = RefusesPush section b (NamedTooBig o b owner f) why
