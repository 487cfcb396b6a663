use Rattle.std.proofs.Common.{sym, ap, subst, ◌∙◌, rules, refl}
use Rattle.octseq.specs.Parsing.{message, position}
use Rattle.domain_reading.specs.Grammar.{Names}
use Rattle.domain_parsed.proofs.Parsing.{read_here, held, piece_tells, plainly_read}
use Rattle.domain_parsed.proofs.parsed.ParsedName+ref+slice+u8.parse_or_fault.Goals as goal

pub finish-requires-clause-holds : goal.finish-requires-clause-holds
finish-requires-clause-holds c =
    let here = ap (λ w. w.at) c.new-found.ensures ∙ c.pos.ensures.offset in
    let r = read_here c.args.parser.now (search rules) here c.in_ok-read_name.ensures.name.1 in
    (held c.args.parser.now c.args.parser.now.octets.now refl r).holds

pub returns-clause-ok : goal.returns-clause-ok
returns-clause-ok c =
    let parser = c.args.parser.now in
    let here = ap (λ w. w.at) c.new-found.ensures ∙ c.pos.ensures.offset in
    let r = read_here parser (search rules) here c.in_ok-read_name.ensures.name.1 in
    let h = held parser parser.octets.now refl r in
    record {
      labels = subst (λ ls. Names c.args.limit (message parser) (position parser) ls) (sym (c.finish.ensures.labels ∙ h.same)) r.name;
      octets = search rules;
      is_compressed = rw c.finish.ensures.is_compressed (piece_tells r);
      moves = search rules;
      uncompressed = λ ls x.
          let p = plainly_read x r in
          (c.finish.ensures.labels ∙ (h.same ∙ p.0), c.finish.ensures.is_compressed ∙ p.1, c.finish.ensures.moves.offset ∙ p.2);
    }
