use Rattle.domain_message_builder.proofs.Marking.{cut_to_mark}
use Rattle.domain_message_builder.proofs.builder.MessageBuilder.cut_back.Goals as goal

pub invariant_of-self : goal.invariant_of-self
invariant_of-self g c =
    let it = cut_to_mark c.args.mark.starts _ _ _ c.args.mark.len _ c.args.self.now.begun c.args.self.now.within c.requires.inside c.requires.ordered c.truncate.ensures.octets in
    record { begun = it.0; within = it.1; ordered = it.2 }
