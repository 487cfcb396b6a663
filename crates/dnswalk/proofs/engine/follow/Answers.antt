use Rattle.dnswalk.proofs.Telling.{still_followed}
use Rattle.dnswalk.proofs.engine.follow.Goals as goal

pub returns-clause-written : goal.returns-clause-written
returns-clause-written g c = still_followed _ _ _ _ _ _ c.in_ok-found.ensures.written c.in_ok-send.ensures.kept
