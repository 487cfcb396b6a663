-- What contracts see of a type that is shown.
use Rattle.domain_rdata.specs.declared.rtype.Rtype.{Rtype}
use Rattle.domain_message.specs.declared.rtype_text.RtypeText.{RtypeText}

-- The type that an `RtypeText` shows.
abbrev pub shown_type : RtypeText → Rtype
shown_type it = it.0
