-- What errors show, and the usage.
use Rattle.std.specs.Prelude.{ℕ, List, ◌++◌, codes}
use Rattle.std.specs.Fmt.{decimal}
use Rattle.domain_rdata_text.specs.declared.error.Reason.{Reason}
use Rattle.domain_rdata_text.specs.declared.error.Reason.TheVariants as reason
use Rattle.domain_make.specs.declared.error.Fault.{Fault}
use Rattle.domain_make.specs.declared.error.Fault.TheVariants as fault
use Rattle.domain_make.specs.declared.error.LineError.{LineError}
use Rattle.domain_make.specs.declared.error.MakeError.{MakeError}
use Rattle.domain_make.specs.declared.error.MakeError.TheVariants.{Line, Read, Write, Memory}

-- why a text has no words, or isn't data
abbrev pub reason_text : Reason → List ℕ
reason_text reason.OpenQuote = codes "a quote without a second one"
reason_text reason.LoneBackslash = codes "a backslash at the end of the line"
reason_text reason.Parenthesis = codes "a parenthesis"
reason_text reason.MissingWord = codes "a word is missing"
reason_text reason.ExtraWord = codes "a word too many"
reason_text reason.Number = codes "no number of this field"
reason_text reason.Rtype = codes "no type"
reason_text reason.Time = codes "no time"
reason_text reason.Ipv4 = codes "no IPv4 address"
reason_text reason.Ipv6 = codes "no IPv6 address"
reason_text reason.Name = codes "no absolute name with a final dot"
reason_text reason.CharString = codes "no character string"
reason_text reason.Tag = codes "no tag of letters and digits"
reason_text reason.QuotedText = codes "no text of octets"
reason_text reason.Base16 = codes "no hexadecimal digits"
reason_text reason.Base64 = codes "no base64"
reason_text reason.CountedBase16 = codes "no hyphen and no hexadecimal digits"
reason_text reason.CountedBase32 = codes "no base32hex digits"
reason_text reason.OnlyGeneric = codes "data of this type is read in the form \\# alone"
reason_text reason.OctetCount = codes "another number of octets than \\# states"
reason_text reason.NotData = codes "no data of this type"
reason_text reason.LongData = codes "more than 65,535 octets of data"

-- what a fault shows
abbrev pub fault_text : Fault → List ℕ
fault_text (fault.Text why) = reason_text why
fault_text fault.Header = codes "no line of a header"
fault_text fault.LateHeader = codes "a header after what it is before"
fault_text fault.Heading = codes "no section of a message"
fault_text fault.Opt = codes "no line of an OPT record here"
fault_text fault.Status = codes "another response code than the header's"
fault_text fault.Outside = codes "an entry before the heading of a section"
fault_text fault.Question = codes "no question: name, class, type"
fault_text fault.Record = codes "no record: owner, TTL, class, type, data"
fault_text fault.NoFinalDot = codes "a name without a final dot"
fault_text fault.Name = codes "no name"
fault_text fault.Number = codes "no number, or too large a one"
fault_text fault.Class = codes "no class"
fault_text fault.Rtype = codes "no type"
fault_text fault.Octets = codes "more than 65,535 octets of data"
fault_text fault.Order = codes "a later section was begun"
fault_text fault.Count = codes "too many entries in a section"
fault_text fault.Limit = codes "message size exceeded"

-- which line isn't taken, at which of its octets, and why
abbrev pub line_error_text : LineError → List ℕ
line_error_text e = codes "line " ++ (decimal e.line ++ (codes ", column " ++ (decimal e.column ++ (codes ": " ++ fault_text e.fault))))

-- why no message is made
abbrev pub make_error_text : MakeError → List ℕ
make_error_text (Line e) = line_error_text e
make_error_text Read = codes "reading failed"
make_error_text Write = codes "writing failed"
make_error_text Memory = codes "out of memory"

-- which words the program takes
abbrev pub usage_text : List ℕ
usage_text = codes "usage: dnswalk make [--hex]"
