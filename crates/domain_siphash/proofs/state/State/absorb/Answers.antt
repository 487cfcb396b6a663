use Rattle.domain_siphash.specs.SipHash.{sip_absorb}
use Rattle.domain_siphash.proofs.state.State.absorb.Goals as goal

pub returns : goal.returns
unfolding sip_absorb
returns c = simp (c.round-2.ensures, c.round.ensures)
