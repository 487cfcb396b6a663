-- Where the sections of records begin.
use Rattle.std.specs.Prelude.{ℕ, ◌≤◌}
use Rattle.domain_message.specs.declared.section.Section.{Section}
use Rattle.domain_message.specs.declared.section.Section.TheVariants.{Answer, Authority, Additional}
use Rattle.domain_message_builder.specs.declared.section_starts.SectionStarts.{SectionStarts}

-- The offsets are those of sections of records, one after the other, in a message of n octets.
abbrev pub IsInOrder : SectionStarts → ℕ → Type 0
IsInOrder starts n = (12 ≤ starts.answer) × (starts.answer ≤ starts.authority) × (starts.authority ≤ starts.additional) × (starts.additional ≤ n)

-- each section begins here
abbrev pub all_at : ℕ → SectionStarts
all_at offset = record { answer = offset; authority = offset; additional = offset }

-- where the section begins
abbrev pub start_of : Section → SectionStarts → ℕ
start_of Answer starts = starts.answer
start_of Authority starts = starts.authority
start_of Additional starts = starts.additional

-- The sections after this one begin at this offset.
abbrev pub starts_after : Section → ℕ → SectionStarts → SectionStarts
starts_after Answer end starts = record { answer = starts.answer; authority = end; additional = end }
starts_after Authority end starts = record { answer = starts.answer; authority = starts.authority; additional = end }
starts_after Additional end starts = starts
