use Rattle.std.proofs.Common.{◌≤◌, length, length-take, arith}
use Rattle.octseq.specs.Parsing.{message, position, left}
use Rattle.domain_header.specs.Values.{class_number}
use Rattle.domain_rdata.specs.Rtypes.{rtype_number}
use Rattle.domain_any_rdata.proofs.Internet.{none_there, not_long}
use Rattle.domain_any_rdata.proofs.read.AllRecordDataParseAnyRecordData.parse_any_rdata.Goals as goal

pub returns-in-Err-clause-err : goal.returns-in-Err-clause-err
returns-in-Err-clause-err c =
    let it = c.args.parser.now in
    let none = c.in-Err.ensures.err in
    let few : length (left it) ≤ 65535 = omega (arith, c.remaining.ensures, not_long c.check_len.result c.in_ok-check_len.field-0 c.remaining.result c.in_ok-check_len.was c.check_len.ensures) in
    let within : position it ≤ length (message it) = omega (arith, it.ordered, it.inside, length-take it.end it.octets.now) in
    none_there (rtype_number c.args.rtype) (class_number c.from_int.result) (message it) (position it) none.0 c.in-Err.e c.from_int.ensures within few none.1 none.2
