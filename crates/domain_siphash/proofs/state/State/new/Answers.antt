use Rattle.std.proofs.Common.{refl}
use Rattle.domain_siphash.specs.SipHash.{sip_start}
use Rattle.domain_siphash.proofs.state.State.new.Goals as goal

pub returns : goal.returns
unfolding sip_start
returns c = refl
