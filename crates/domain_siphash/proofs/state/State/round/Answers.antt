use Rattle.domain_siphash.specs.SipHash.{sip_round}
use Rattle.domain_siphash.proofs.state.State.round.Goals as goal

pub returns : goal.returns
unfolding sip_round
returns c = simp (c.rotate_left-self-2.ensures, c.rotate_left-4.ensures, c.rotate_left-3.ensures, c.rotate_left-self.ensures, c.rotate_left-2.ensures, c.rotate_left.ensures)
