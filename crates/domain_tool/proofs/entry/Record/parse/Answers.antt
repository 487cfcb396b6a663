use Rattle.std.proofs.Common.{arith, refl, ap, length}
use Rattle.domain_tool.proofs.Entries.{cut_data, same_message}
use Rattle.domain_tool.proofs.entry.Record.parse.Goals as goal

pub returns-in-Err-parse_octets-clause-err : goal.returns-in-Err-parse_octets-clause-err
returns-in-Err-parse_octets-clause-err c =
    let short = c.in-Err-parse_octets.ensures.short.0 refl in
    let len = c.from.ensures in
    let same = ap length (same_message _ _ _ c.in-Ok.ensures.moves) in
    cut_data _ _ _ _ _ c.in-Ok.ensures.ok (omega (arith, short, same, len)) c.from-in-Err-parse_octets.ensures
