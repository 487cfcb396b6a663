-- What contracts see of questions and record headers.
use Rattle.std.specs.Prelude.{ℕ}
use Rattle.domain_rdata.specs.declared.rtype.Rtype.{Rtype}
use Rattle.domain_header.specs.declared.class.Class.{Class}
use Rattle.domain_header.specs.declared.ttl.Ttl.{Ttl}
use Rattle.domain_message.specs.declared.question.Question.{Question}
use Rattle.domain_message.specs.declared.record.RecordHeader.{RecordHeader}

-- the name that a question asks for (QNAME)
abbrev pub question_name : {N : Type 0} → Question N → N
question_name q = q.qname

-- the type that it asks for (QTYPE)
abbrev pub question_type : {N : Type 0} → Question N → Rtype
question_type q = q.qtype

-- the class that it asks for (QCLASS)
abbrev pub question_class : {N : Type 0} → Question N → Class
question_class q = q.qclass

-- the name of the record (NAME)
abbrev pub record_owner : {N : Type 0} → RecordHeader N → N
record_owner h = h.owner

-- the type of the record's data (TYPE)
abbrev pub record_type : {N : Type 0} → RecordHeader N → Rtype
record_type h = h.rtype

-- the class of the record (CLASS)
abbrev pub record_class : {N : Type 0} → RecordHeader N → Class
record_class h = h.class

-- how long the record may be kept (TTL)
abbrev pub record_ttl : {N : Type 0} → RecordHeader N → Ttl
record_ttl h = h.ttl

-- the length of the record's data (RDLENGTH)
abbrev pub record_len : {N : Type 0} → RecordHeader N → ℕ
record_len h = h.rdlen
