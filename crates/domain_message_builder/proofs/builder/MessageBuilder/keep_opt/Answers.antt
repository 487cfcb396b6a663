use Rattle.domain_message_builder.specs.OptViews.{opt_of}
use Rattle.domain_message_builder.specs.Views.{state_of, target_of}
use Rattle.domain_message_builder.proofs.Ending.{keeps_instead}
use Rattle.domain_message_builder.proofs.builder.MessageBuilder.keep_opt.Goals as goal

pub returns-in-Err-clause-ok : goal.returns-in-Err-clause-ok
returns-in-Err-clause-ok g c =
    let octets = g.Target.Octets.octets in
    keeps_instead c.push_opt-in-Err.result g.Target.Composer.compresses (opt_of c.args.opt.now) (g.Target.Octets.capacity (target_of c.args.self.now)) (state_of octets c.args.self.now) (state_of octets c.push_opt.new.self) (state_of octets c.truncate.new.self) (state_of octets c.push_opt-in-Err.new.self)
    c.in-Err.ensures.no_room c.in-Err.ensures.unchanged c.truncate.ensures.truncates c.push_opt-in-Err.ensures.ok
