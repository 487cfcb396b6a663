use Rattle.domain_message_builder.proofs.Rewinding.{rewinds, rewound}
use Rattle.domain_message_builder.proofs.builder.MessageBuilder.rewind.Goals as goal

pub invariant_of-self : goal.invariant_of-self
invariant_of-self g c =
    let it = rewound c.args.section c.args.self.now.starts _ _ _ _ _ _ c.args.self.now.begun c.args.self.now.within c.args.self.now.ordered c.after-self.ensures c.of-start.ensures c.truncate.ensures.octets in
    record { begun = it.0; within = it.1; ordered = it.2 }

pub returns-clause-rewinds : goal.returns-clause-rewinds
returns-clause-rewinds g c = rewinds c.args.section _ _ _ _ _ _ c.without_records-self.ensures c.after-self.ensures c.of-start.ensures c.truncate.ensures.octets
