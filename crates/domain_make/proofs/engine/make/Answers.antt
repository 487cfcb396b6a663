use Rattle.std.proofs.Common.{List, ℕ}
use Rattle.std.specs.Prelude.{true}
use Rattle.domain_make.specs.Drafts.{Draft, TextSays}
use Rattle.domain_make.specs.Refusals.{EntriesHaveRoom}
use Rattle.domain_make.proofs.Drafting.{of_input}
use Rattle.domain_make.proofs.Failing.{memory_failed}
use Rattle.domain_make.proofs.engine.make.Goals as goal

pub returns-in-Err-shorter_message-clause-accepted : goal.returns-in-Err-shorter_message-clause-accepted
returns-in-Err-shorter_message-clause-accepted g c =
    of_input (λ (text : List ℕ). (said : Draft) → TextSays text said → EntriesHaveRoom true text → ⊥) c.in-Err-shorter_message.e _ _ _ c.as_slice.ensures.value c.in-Ok.ensures.octets c.in-Err-shorter_message.ensures.accepted

pub returns-in-Err-shorter_message-clause-failed : goal.returns-in-Err-shorter_message-clause-failed
returns-in-Err-shorter_message-clause-failed g c =
    memory_failed g.R.Source.remaining g.R.Source.failed c.read_whole.new.self g.W.Sink.failed c.args.output.now c.in-Err-shorter_message.e c.in-Ok.ensures.whole c.in-Err-shorter_message.ensures.of_text
