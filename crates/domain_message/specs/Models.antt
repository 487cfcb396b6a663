-- What a question and a record header say, whose names were read from a message.
use Rattle.octseq.specs.declared.octets.Octets.{Ghosts}
use Rattle.domain_parsed.specs.declared.parsed.ParsedName.{ParsedName}
use Rattle.domain_parsed.specs.ParsedNames.{parsed_labels}
use Rattle.domain_rdata.specs.Rtypes.{rtype_number}
use Rattle.domain_header.specs.Values.{class_number, ttl_seconds}
use Rattle.domain_message.specs.Entries.{QuestionFields, HeaderFields}
use Rattle.domain_message.specs.declared.question.Question.{Question}
use Rattle.domain_message.specs.declared.record.RecordHeader.{RecordHeader}

-- what a question says (RFC 1035, 4.1.2)
abbrev pub question_fields : {O : Type 0} {g : Ghosts O} → Question (ParsedName O g)
    → QuestionFields
question_fields q = record {
  name = parsed_labels q.qname;
  rtype = rtype_number q.qtype;
  class = class_number q.qclass;
}

-- what a record says before its data (RFC 1035, 4.1.3)
abbrev pub header_fields : {O : Type 0} {g : Ghosts O} → RecordHeader (ParsedName O g)
    → HeaderFields
header_fields h = record {
  owner = parsed_labels h.owner;
  rtype = rtype_number h.rtype;
  class = class_number h.class;
  ttl = ttl_seconds h.ttl;
  rdlen = h.rdlen;
}
