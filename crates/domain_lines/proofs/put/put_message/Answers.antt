use Rattle.std.proofs.Common.{[], rules}
use Rattle.domain_lines.proofs.InAndOut.{refused_for}
use Rattle.domain_lines.proofs.Laying.{holds_nothing}
use Rattle.domain_lines.proofs.put.put_message.Goals as goal

pub returns-in-Ok : goal.returns-in-Ok
returns-in-Ok c =
    let shown = c.in-Ok.ensures.written in
    let name = shown.2.same in
    let held = shown.2.behind c.args.buffer.now [] (holds_nothing c.args.buffer.now) in
    (shown.0, shown.1, search rules)

pub returns-in-Err-Parse : goal.returns-in-Err-Parse
returns-in-Err-Parse c =
    let shown = refused_for c.in-Err-Parse.field-0 c.in-Err-Parse.why _ c.in-Err-Parse.ensures.refused (search rules) in
    let name = shown.2.same in
    let held = shown.2.behind c.args.buffer.now [] (holds_nothing c.args.buffer.now) in
    (shown.0, shown.1, search rules)
