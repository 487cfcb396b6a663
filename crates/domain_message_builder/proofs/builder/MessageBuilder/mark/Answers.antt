use Rattle.std.proofs.Common.{◌∙◌, ap}
use Rattle.domain_message_builder.proofs.Marking.{at_own_place}
use Rattle.domain_message_builder.specs.Views.{target_of}
use Rattle.domain_message_builder.proofs.builder.MessageBuilder.mark.Goals as goal

pub returns-clause-marked : goal.returns-clause-marked
returns-clause-marked g c = at_own_place _ c.place-mark.result c.place-mark.ensures

pub returns-clause-memory : goal.returns-clause-memory
returns-clause-memory g c =
    let target = target_of c.args.self in
    ap (λ p. g.Target.Composer.kept_within p.len (g.Target.Composer.memory target)) c.place-mark.ensures ∙ g.met.Target.Composer.all_kept target
