use Rattle.domain_siphash.specs.SipHash.{sip_finish}
use Rattle.domain_siphash.proofs.state.State.finish.Goals as goal

pub returns : goal.returns
unfolding sip_finish
returns c = simp (c.round-4.ensures, c.round-3.ensures, c.round-2.ensures, c.round.ensures)
