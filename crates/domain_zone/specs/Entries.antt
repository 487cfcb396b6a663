-- How contracts see records on their way into a zone.
use Rattle.domain_name.specs.Names.{name_labels}
use Rattle.domain_zone.specs.Building.{Inserted}
use Rattle.domain_zone.specs.declared.entry.Entry.{Entry}

-- The record.
abbrev pub entry_view : Entry → Inserted
entry_view e = record { owner = name_labels e.owner; rtype = e.rtype; ttl = e.ttl; octets = e.octets.items }
