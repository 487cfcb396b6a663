use Rattle.std.proofs.Common.{◌≡◌, length}
use Rattle.domain_descriptor.specs.Rdatas.{kinds_left}
use Rattle.domain_any_rdata.specs.Readers.{remaining_octets}
use Rattle.domain_any_rdata.proofs.reader.OctetReader.fill.Given as goal

abbrev pub invariant-field : goal.invariant-field
invariant-field l = remaining_octets l.self ≡ remaining_octets l.initial.self

abbrev pub decreases-field : goal.decreases-field
decreases-field l = length (kinds_left l.self.fields)
