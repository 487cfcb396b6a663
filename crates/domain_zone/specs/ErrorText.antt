-- What faults and errors show.
use Rattle.std.specs.Prelude.{ℕ, List, ◌++◌, codes}
use Rattle.std.specs.Fmt.{decimal}
use Rattle.domain_zone.specs.declared.building.BuildError.{BuildError}
use Rattle.domain_zone.specs.declared.building.BuildError.TheVariants as build
use Rattle.domain_zone.specs.declared.building.InsertError.{InsertError}
use Rattle.domain_zone.specs.declared.building.InsertError.TheVariants as insert
use Rattle.domain_zone.specs.declared.fault.RrsetFault.{RrsetFault}
use Rattle.domain_zone.specs.declared.fault.RrsetFault.TheVariants as rrset
use Rattle.domain_zone.specs.declared.fault.ZoneFault.{ZoneFault}
use Rattle.domain_zone.specs.declared.fault.ZoneFault.TheVariants as zone

-- What a fault of an RRset shows.
abbrev pub rrset_fault_text : RrsetFault → List ℕ
rrset_fault_text rrset.OutOfZone = codes "owner not at or below the apex"
rrset_fault_text rrset.NotDataType = codes "type that no record of a zone has"
rrset_fault_text rrset.NoRecords = codes "no records"
rrset_fault_text rrset.DataOrder = codes "data not in ascending order, or repeated"
rrset_fault_text rrset.Soa = codes "SOA below the apex, or more than one SOA record"
rrset_fault_text rrset.Target = codes "CNAME or DNAME that is not one record with one name"
rrset_fault_text rrset.Wildcard = codes "NS or DNAME at a wildcard below the apex"
rrset_fault_text rrset.BesideCname = codes "type that cannot be beside a CNAME"
rrset_fault_text rrset.AboveRecords = codes "DNAME with records below its owner"
rrset_fault_text rrset.DnameAtCut = codes "DNAME at a zone cut"

-- What a fault of RRsets shows. That of one of them begins with its index.
abbrev pub zone_fault_text : ZoneFault → List ℕ
zone_fault_text zone.Order = codes "RRsets not in canonical order, or two of one owner and type"
zone_fault_text (zone.Rrset at why) = codes "RRset at index " ++ (decimal at ++ (codes ": " ++ rrset_fault_text why))
zone_fault_text zone.NoSoa = codes "no SOA at the apex"
zone_fault_text zone.NoServers = codes "no name servers at the apex"
zone_fault_text zone.DsAtApex = codes "DS at the apex"

-- Why a record isn't inserted.
abbrev pub insert_error_text : InsertError → List ℕ
insert_error_text insert.OtherClass = codes "class other than that of the zone"
insert_error_text insert.OutOfZone = codes "owner not at or below the apex"
insert_error_text insert.NotDataType = codes "type that no record of a zone has"
insert_error_text insert.Memory = codes "out of memory"

-- Why no zone is made.
abbrev pub build_error_text : BuildError → List ℕ
build_error_text (build.Fault fault) = zone_fault_text fault
build_error_text build.Memory = codes "out of memory"
