use Rattle.std.proofs.Common.{◌++◌, true, false, refl, ap}
use Rattle.domain_wire.specs.Refusals.{refusal_text}
use Rattle.dnswalk.specs.Lines.{count_text}
use Rattle.dnswalk.proofs.Telling.{writes_followed}
use Rattle.dnswalk.proofs.engine.follow_in.Goals as goal

pub returns-in_ok-put_line-in-Ok-clause-written : goal.returns-in_ok-put_line-in-Ok-clause-written
returns-in_ok-put_line-in-Ok-clause-written g c =
    let old = g.W.Sink.contents c.args.output.now in
    let new = g.W.Sink.contents c.put_line.new.self in
    let lines = c.in_ok-count.ensures.followed in
    writes_followed _ old _ new true c.in_ok-count.ensures.few lines.1 lines.2 (_, c.in-Ok.ensures.ok, refl) c.in_ok-put_line-in-Ok.ensures.written

pub returns-in_ok-put_line-in-Err-clause-written : goal.returns-in_ok-put_line-in-Err-clause-written
returns-in_ok-put_line-in-Err-clause-written g c =
    let old = g.W.Sink.contents c.args.output.now in
    let new = g.W.Sink.contents c.put_line-in-Err.new.self in
    let lines = c.in_ok-count.ensures.followed in
    let why = c.in-Err.ensures.err in
    writes_followed _ old _ new false c.in_ok-count.ensures.few lines.1 lines.2 (why.0, why.2, ap (λ r. refusal_text r ++ count_text c.in_ok-count.count) why.1) c.in_ok-put_line-in-Err.ensures.written
