use Rattle.std.proofs.Common.{◌≡◌, length}
use Rattle.domain_descriptor.specs.Rdatas.{rdata_kinds, rdata_message, rdata_begin, kinds_left, fields_message, fields_offset}
use Rattle.domain_rdata_text.specs.Values.{vals_of, vals_octets}
use Rattle.domain_rdata_text.proofs.Gathering.{Passed}
use Rattle.domain_rdata_text.proofs.value.plain_data.Given as goal

abbrev pub invariant-field : goal.invariant-field
invariant-field l = record {
  message : fields_message l.fields ≡ rdata_message l.fn.rdata;
  passed : Passed (rdata_kinds l.fn.rdata) (rdata_message l.fn.rdata) (rdata_begin l.fn.rdata) (vals_of l.values.items) (kinds_left l.fields) (fields_offset l.fields);
  octets : l.octets.items ≡ vals_octets (vals_of l.values.items);
}

abbrev pub decreases-field : goal.decreases-field
decreases-field l = length (kinds_left l.fields)
