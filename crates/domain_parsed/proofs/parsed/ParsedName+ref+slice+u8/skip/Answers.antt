use Rattle.std.proofs.Common.{rules}
use Rattle.domain_parsed.proofs.Parsing.{ok_not_err, no_skip}
use Rattle.domain_parsed.proofs.parsed.ParsedName+ref+slice+u8.skip.Goals as goal

pub returns-in_err-end-clause-exact : goal.returns-in_err-end-clause-exact
returns-in_err-end-clause-exact c =
    let none = no_skip c.args.parser.now (search rules) c.pos.ensures.offset c.in_err-end.ensures.fault in
    (λ ok. absurd (ok_not_err c.from_residual.result c.from_residual.ensures.0 ok), λ x. absurd (none x.0 x.1))
