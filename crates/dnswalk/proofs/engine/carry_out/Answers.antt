use Rattle.dnswalk.proofs.Failing.{one_failed, answered_of, answered_no_digits}
use Rattle.dnswalk.proofs.engine.carry_out.Goals as goal

pub returns-clause-done : goal.returns-clause-done
returns-clause-done g c = answered_of c.args.asked c.args.hex c.in-Ok.octets.items c.in-Ok-octets_of.message.now (g.R.Source.remaining c.args.input.now) (g.W.Sink.contents c.args.output.now) (g.W.Sink.contents c.answer.new.output) c.answer.result c.in-Ok.ensures.octets c.in-Ok-octets_of.ensures.ok c.answer.ensures.written

pub returns-clause-failed : goal.returns-clause-failed
returns-clause-failed g c = one_failed c.answer.result _ _ c.answer.ensures.failed

pub returns-in-Err-octets_of-clause-done : goal.returns-in-Err-octets_of-clause-done
returns-in-Err-octets_of-clause-done g c = answered_no_digits c.args.asked c.args.hex c.in-Ok.octets.items (g.R.Source.remaining c.args.input.now) (g.W.Sink.contents c.args.output.now) c.in-Err-octets_of.why.fault c.in-Err-octets_of.why.line c.in-Err-octets_of.why.column c.in-Ok.ensures.octets c.in-Err-octets_of.ensures.err
