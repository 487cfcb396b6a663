-- What a record says that was read from a message.
use Rattle.std.specs.Prelude.{ℕ, Bool, ◌==◌, List, drop}
use Rattle.std.specs.Cmp.Lexicographic.{pointwise}
use Rattle.std.specs.Ordering.{on, eq_of_both}
use Rattle.domain_list.specs.Order.{same_name}
use Rattle.octseq.specs.Parsing.{message, position}
use Rattle.domain_message.specs.Entries.{HeaderFields, RecordFields}
use Rattle.domain_reading.specs.Labels.{labels_at}
use Rattle.domain_rdata.specs.Rtypes.{rtype_number}
use Rattle.domain_header.specs.Values.{class_number, ttl_seconds}
use Rattle.domain_message.specs.declared.record.ParsedRecord.{ParsedRecord}

-- what a record says, and where its data is (RFC 1035, 4.1.3)
abbrev pub record_fields : ParsedRecord → RecordFields
record_fields r = record {
  header = record {
    owner = labels_at (message r.owner) (position r.owner);
    rtype = rtype_number r.rtype;
    class = class_number r.class;
    ttl = ttl_seconds r.ttl;
    rdlen = r.rdlen;
  };
  start = position r.data;
  octets = message r.data;
}

-- Equal record headers.
abbrev pub same_header : HeaderFields → HeaderFields → Bool
same_header =
    eq_of_both (on (λ h. h.owner) same_name)
    (eq_of_both (on (λ h. h.rtype) ◌==◌) (eq_of_both (on (λ h. h.class) ◌==◌)
    (eq_of_both (on (λ h. h.ttl) ◌==◌) (on (λ h. h.rdlen) ◌==◌))))

-- the octets of the data
abbrev pub parsed_data : ParsedRecord → List ℕ
parsed_data r = drop (position r.data) (message r.data)

-- the record header
abbrev pub parsed_header : ParsedRecord → HeaderFields
parsed_header r = (record_fields r).header

-- Record headers and octets of data are equal, the owner's names without ASCII case.
abbrev pub same_parsed_record : ParsedRecord → ParsedRecord → Bool
same_parsed_record = eq_of_both (on parsed_header same_header) (on parsed_data (pointwise ◌==◌))
