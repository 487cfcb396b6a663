use Rattle.std.proofs.Common.{◌≡◌, ◌≤◌, ◌+◌, length, false}
use Rattle.domain_descriptor.specs.Rdatas.{kinds_left}
use Rattle.domain_fields.specs.Parts.{parts_octets}
use Rattle.domain_any_rdata.specs.Parts.{rdata_parts, parts_left}
use Rattle.domain_any_rdata.proofs.len.uncompressed_len.Given as goal

abbrev pub invariant-field : goal.invariant-field
invariant-field l = record {
  sum : l.len + length (parts_octets false (parts_left l.fields)) ≡ length (parts_octets false (rdata_parts l.fn.rdata));
  small : l.len ≤ 65535;
}

abbrev pub decreases-field : goal.decreases-field
decreases-field l = length (kinds_left l.fields)
