use Rattle.std.proofs.Common.{◌≤◌, length, arith, sym, ap, ◌∙◌}
use Rattle.domain_parsed.proofs.NoNamePastEnd.{past_end}
use Rattle.domain_tool.proofs.tool.parse_at.Goals as goal

pub returns-then-is_err-clause-err : goal.returns-then-is_err-clause-err
returns-then-is_err-clause-err c =
    let short = c.seek.ensures.short.0 (sym c.is_err.ensures.value ∙ c.if-is_err.true) in
    let past : length c.args.message.now ≤ c.args.offset = omega (arith, short, ap length c.from_ref-parser.ensures.message) in
    past_end c.args.limit c.args.message.now c.args.offset past
