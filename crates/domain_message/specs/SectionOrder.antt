-- The order of the sections of records (RFC 1035, 4.1).
use Rattle.std.specs.Prelude.{Option, Some, None}
use Rattle.domain_message.specs.declared.section.Section.{Section}
use Rattle.domain_message.specs.declared.section.Section.TheVariants.{Answer, Authority, Additional}

-- the section that follows another: answer, authority, additional
abbrev pub section_after : Section → Option Section
section_after Answer = Some Authority
section_after Authority = Some Additional
section_after Additional = None
