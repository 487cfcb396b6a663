-- The state of a builder, as contracts see it.
use Rattle.std.specs.Prelude.{ℕ, List}
use Rattle.domain_header.specs.declared.counts.HeaderCounts.{HeaderCounts}
use Rattle.domain_header.specs.declared.flags.Header.{Header}
use Rattle.domain_message_builder.specs.declared.section_starts.SectionStarts.{SectionStarts}

-- what a builder holds: the identifier and the flags, the limit in octets, how many of these are set aside, how many
-- entries were pushed, where the sections begin, and the octets. The first twelve octets stand for the header.
pub record State : Type 0 where
  pub header : Header
  pub limit : ℕ
  pub reserved : ℕ
  pub counts : HeaderCounts
  pub starts : SectionStarts
  pub octets : List ℕ
