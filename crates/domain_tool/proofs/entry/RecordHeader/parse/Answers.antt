use Rattle.std.proofs.Common.{arith, refl, ap, length, ◌∙◌, ◌+◌}
use Rattle.octseq.specs.Parsing.{position}
use Rattle.domain_tool.proofs.Entries.{cut_record_head, name_to, same_message, read16, read32, place_inside}
use Rattle.domain_tool.proofs.entry.RecordHeader.parse.Goals as goal

pub returns-in-Err-parse_u16_be-clause-err : goal.returns-in-Err-parse_u16_be-clause-err
returns-in-Err-parse_u16_be-clause-err c =
    let short = c.in-Err-parse_u16_be.ensures.short.0 refl in
    cut_record_head _ _ _ _ c.in-Ok.ensures.labels c.in-Ok.ensures.moves (omega (arith, short)) c.from.ensures

pub returns-in-Err-parse_u16_be-2-clause-err :
    goal.returns-in-Err-parse_u16_be-2-clause-err
returns-in-Err-parse_u16_be-2-clause-err c =
    let one = c.in-Ok-parse_u16_be.ensures.moves in
    let short = c.in-Err-parse_u16_be-2.ensures.short.0 refl in
    let same = ap length (same_message _ _ _ one) in
    let there = one.offset in
    cut_record_head _ _ _ _ c.in-Ok.ensures.labels c.in-Ok.ensures.moves (omega (arith, short, same, there)) c.from-in-Err-parse_u16_be-2.ensures

pub returns-in-Err-parse_u32_be-clause-err : goal.returns-in-Err-parse_u32_be-clause-err
returns-in-Err-parse_u32_be-clause-err c =
    let one = c.in-Ok-parse_u16_be.ensures.moves in
    let two = c.in-Ok-parse_u16_be-2.ensures.moves in
    let short = c.in-Err-parse_u32_be.ensures.short.0 refl in
    let same = ap length (same_message _ _ _ two ∙ same_message _ _ _ one) in
    let first = one.offset in
    let second = two.offset in
    cut_record_head _ _ _ _ c.in-Ok.ensures.labels c.in-Ok.ensures.moves (omega (arith, short, same, first, second)) c.from-in-Err-parse_u32_be.ensures

pub returns-in-Err-parse_u16_be-3-clause-err :
    goal.returns-in-Err-parse_u16_be-3-clause-err
returns-in-Err-parse_u16_be-3-clause-err c =
    let one = c.in-Ok-parse_u16_be.ensures.moves in
    let two = c.in-Ok-parse_u16_be-2.ensures.moves in
    let three = c.in-Ok-parse_u32_be.ensures.moves in
    let short = c.in-Err-parse_u16_be-3.ensures.short.0 refl in
    let same = ap length (same_message _ _ _ three ∙ (same_message _ _ _ two ∙ same_message _ _ _ one)) in
    let first = one.offset in
    let second = two.offset in
    let third = three.offset in
    cut_record_head _ _ _ _ c.in-Ok.ensures.labels c.in-Ok.ensures.moves (omega (arith, short, same, first, second, third)) c.from-in-Err-parse_u16_be-3.ensures

pub returns-clause-ok : goal.returns-clause-ok
returns-clause-ok c =
    let named = c.in-Ok.ensures.moves in
    let zero = same_message _ _ _ named.2 in
    let one = c.in-Ok-parse_u16_be.ensures.moves in
    let two = c.in-Ok-parse_u16_be-2.ensures.moves in
    let three = c.in-Ok-parse_u32_be.ensures.moves in
    let four = c.in-Ok-parse_u16_be-3.ensures.moves in
    let after_one = same_message _ _ _ one ∙ zero in
    let after_two = same_message _ _ _ two ∙ after_one in
    let after_three = same_message _ _ _ three ∙ after_two in
    let first = one.offset in
    let second = two.offset in
    let third = three.offset in
    let fourth = four.offset in
    let all = ap length (same_message _ _ _ four ∙ after_three) in
    let inside = place_inside c.parse_u16_be-3.new.self in
    record {
      after = position c.parse.new.parser;
      name = name_to _ _ _ c.in-Ok.ensures.labels named;
      rtype = read16 c.parse.new.parser _ _ _ zero refl c.in-Ok-parse_u16_be.ensures.ok;
      class = read16 c.parse_u16_be.new.self _ (position c.parse.new.parser + 2) _ after_one first c.in-Ok-parse_u16_be-2.ensures.ok;
      time_to_live = read32 c.parse_u16_be-2.new.self _ (position c.parse.new.parser + 4) _ after_two (omega (arith, first, second)) c.in-Ok-parse_u32_be.ensures.ok;
      len = read16 c.parse_u32_be.new.self _ (position c.parse.new.parser + 8) _ after_three (omega (arith, first, second, third)) c.in-Ok-parse_u16_be-3.ensures.ok;
      whole = omega (arith, first, second, third, fourth, all, inside);
      end = omega (arith, first, second, third, fourth);
    }
