use Rattle.std.proofs.Common.{refl, arith, ap, length, length-drop, rules}
use Rattle.std.proofs.lemmas.List.{length-take-le}
use Rattle.octseq.specs.Parsing.{message, position}
use Rattle.domain_reading.proofs.NameOrFault.{names_or_fault}
use Rattle.domain_message.specs.Entries.{RecordAt}
use Rattle.domain_message.specs.Models.{header_fields}
use Rattle.domain_message.proofs.Names.{owner_at}
use Rattle.domain_message.specs.Entries.NoRecord.{no_header, no_data}
use Rattle.domain_message.specs.ParserFacts.{same_message}
use Rattle.domain_message.proofs.record.ParsedRecordParse.parse.Goals as goal

pub invariant_of-result-clause-named : goal.invariant_of-result-clause-named
invariant_of-result-clause-named c fault f = names_or_fault c.in-Ok.ensures.ok.name.labels f

pub invariant_of-result-clause-sized : goal.invariant_of-result-clause-sized
invariant_of-result-clause-sized c =
    let part = c.in-Ok-parse_parser.data in
    let whole : RecordAt (message c.args.parser.now) (position c.args.parser.now) (record { header = header_fields c.in-Ok.header; start = position part; octets = message part }) (position c.parse_parser.new.self) = search rules in
    omega (arith, length-drop (position part) (message part), ap length whole.octets, length-take-le (position c.parse_parser.new.self) (message c.args.parser.now) (omega (arith, whole.inside, whole.end)), whole.end)

pub returns-clause-ok : goal.returns-clause-ok
returns-clause-ok c =
    let part = c.in-Ok-parse_parser.data in
    let whole : RecordAt (message c.args.parser.now) (position c.args.parser.now) (record { header = header_fields c.in-Ok.header; start = position part; octets = message part }) (position c.parse_parser.new.self) = search rules in
    record { header = owner_at whole.header; inside = whole.inside; end = whole.end; octets = whole.octets }

pub returns-in-Err-clause-err : goal.returns-in-Err-clause-err
returns-in-Err-clause-err c = no_header c.in-Err.ensures.err

pub returns-in-Err-parse_parser-clause-err : goal.returns-in-Err-parse_parser-clause-err
returns-in-Err-parse_parser-clause-err c =
    let short = c.in-Err-parse_parser.ensures.short.0 refl in
    let same = ap length (same_message _ _ _ c.in-Ok.ensures.moves) in
    no_data _ _ c.in-Ok.ensures.ok (omega (arith, short, same, c.from.ensures, c.rdlen.ensures)) refl
