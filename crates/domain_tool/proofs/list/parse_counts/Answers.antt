use Rattle.std.proofs.Common.{arith, ap, length, ◌∙◌}
use Rattle.domain_header.specs.Numbers.{number16}
use Rattle.domain_tool.proofs.Entries.{same_message, place_inside}
use Rattle.domain_tool.proofs.list.parse_counts.Goals as goal

pub returns-clause-ok : goal.returns-clause-ok
returns-clause-ok c =
    let moved = c.in_ok-advance.ensures.ok in
    let read = c.as_slice.ensures ∙ same_message _ _ _ moved in
    let start = c.requires in
    let offset = moved.offset in
    let all = ap length (same_message _ _ _ moved) in
    let inside = place_inside c.advance.new.self in
    record {
      header = omega (arith, start, offset, all, inside);
      questions = c.for_message_slice.ensures.qdcount ∙ ap (λ m. number16 m 4) read;
      answers = c.for_message_slice.ensures.ancount ∙ ap (λ m. number16 m 6) read;
      authority = c.for_message_slice.ensures.nscount ∙ ap (λ m. number16 m 8) read;
      additional = c.for_message_slice.ensures.arcount ∙ ap (λ m. number16 m 10) read;
    }
