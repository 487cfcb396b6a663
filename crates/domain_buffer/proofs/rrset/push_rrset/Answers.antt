use Rattle.std.proofs.Common.{refl}
use Rattle.domain_buffer.specs.Builders.{headed_by}
use Rattle.domain_buffer.specs.Rrsets.{pieces}
use Rattle.domain_buffer.proofs.Rrsets.{set_pushed, usable_there}
use Rattle.domain_buffer.proofs.rrset.push_rrset.Goals as goal

pub returns-in-Err-clause-usable : goal.returns-in-Err-clause-usable
returns-in-Err-clause-usable c = usable_there c.args.octets.now c.args.builder.now c.push_each.new.octets c.args.builder.now c.push_each.ensures.same c.requires.usable refl

pub returns-clause-ok : goal.returns-clause-ok
returns-clause-ok c = set_pushed c.args.section c.args.owner.now (headed_by c.args.owner.now c.args.head) (pieces c.args.lens.now c.args.data.now) c.args.octets.now c.args.builder.now c.push_each.new.octets c.push_each.new.builder c.in_default.ensures.ok
