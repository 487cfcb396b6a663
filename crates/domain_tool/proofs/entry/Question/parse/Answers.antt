use Rattle.std.proofs.Common.{arith, refl, ap, length}
use Rattle.domain_tool.proofs.Entries.{cut_question, same_message}
use Rattle.domain_tool.proofs.entry.Question.parse.Goals as goal

pub returns-in-Err-parse_u16_be-clause-err : goal.returns-in-Err-parse_u16_be-clause-err
returns-in-Err-parse_u16_be-clause-err c =
    let short = c.in-Err-parse_u16_be.ensures.short.0 refl in
    cut_question _ _ _ _ c.in-Ok.ensures.labels c.in-Ok.ensures.moves (omega (arith, short)) c.from.ensures

pub returns-in-Err-parse_u16_be-2-clause-err :
    goal.returns-in-Err-parse_u16_be-2-clause-err
returns-in-Err-parse_u16_be-2-clause-err c =
    let moved = c.in-Ok-parse_u16_be.ensures.moves in
    let short = c.in-Err-parse_u16_be-2.ensures.short.0 refl in
    let same = ap length (same_message _ _ _ moved) in
    let there = moved.offset in
    cut_question _ _ _ _ c.in-Ok.ensures.labels c.in-Ok.ensures.moves (omega (arith, short, same, there)) c.from-in-Err-parse_u16_be-2.ensures
