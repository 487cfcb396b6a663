use Rattle.std.proofs.Common.{◌+◌, take, sym, ap, ◌∙◌, arith}
use Rattle.std.proofs.lemmas.List.{take-take}
use Rattle.octseq.proofs.parse.Parser.parse_parser.Goals as goal

pub returns-clause-message : goal.returns-clause-message
returns-clause-message c =
    let s = c.args.self.now in
    let moved = c.in_ok-advance.ensures.ok in
    ap (λ k. take k s.octets.now) moved.offset ∙ sym (take-take (s.pos + c.args.n) s.end s.octets.now (omega (arith, moved.offset, moved.end, c.advance.new.self.ordered)))
