use Rattle.domain_lines.proofs.Showing.{still_shown}
use Rattle.dnswalk.proofs.engine.show.Goals as goal

pub returns-in_ok-send-in-Ok-clause-written : goal.returns-in_ok-send-in-Ok-clause-written
returns-in_ok-send-in-Ok-clause-written g c =
    let old = c.args.output.now in
    let mid = c.write_message.new.output in
    let shown = c.in-Ok.ensures.written in
    still_shown _ (g.W.Sink.contents old) (g.W.Sink.contents mid) _ (shown.0, shown.1, g.met.W.Sink.appends old mid shown.0 shown.2) c.in_ok-send-in-Ok.ensures.kept
