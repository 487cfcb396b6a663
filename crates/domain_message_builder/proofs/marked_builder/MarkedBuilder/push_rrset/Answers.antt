use Rattle.std.proofs.Common.{arith}
use Rattle.domain_message_builder.proofs.Marking.{longer, mark_stays, mark_kept}
use Rattle.domain_message_builder.proofs.marked_builder.MarkedBuilder.push_rrset.Goals as goal

pub invariant_of-self : goal.invariant_of-self
invariant_of-self g c = record {
  inside = omega (arith, c.args.self.now.inside, longer _ _ c.push_rrset.ensures.grows);
  ordered = c.args.self.now.ordered;
}

pub returns-clause-marked : goal.returns-clause-marked
returns-clause-marked g c = mark_stays c.args.self.now.mark _ _ c.args.self.now.inside c.push_rrset.ensures.grows

pub returns-clause-marked_memory : goal.returns-clause-marked_memory
returns-clause-marked_memory g c = mark_kept g.Target.Composer.kept_within c.args.self.now.mark.len _ _ _ g.met.Target.Composer.kept_twice c.args.self.now.inside c.push_rrset.ensures.memory
