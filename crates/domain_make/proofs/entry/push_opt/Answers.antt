use Rattle.std.proofs.Common.{◌∙◌}
use Rattle.domain_message.specs.declared.section.Section.TheVariants.{Additional}
use Rattle.domain_message_builder.specs.Builders.{state}
use Rattle.domain_make.proofs.Entering.{along, opt_added, opt_refused, opt_stopped}
use Rattle.domain_make.proofs.entry.push_opt.Goals as goal

pub returns-in_default-push-clause-ok : goal.returns-in_default-push-clause-ok
returns-in_default-push-clause-ok g c = opt_added _ _ _ _ _ _ _ _ c.opt_record-resource.ensures.head (along c.opt_record-resource.ensures.data (λ d. d.octets.items) ∙ along c.in-Ok.ensures.held (λ v. v.items)) c.in_default-push.ensures.ok

pub returns-clause-err : goal.returns-clause-err
returns-clause-err g c =
    opt_stopped _ Additional _ _ (state c.args.message.now) _ c.in-Err.e _ (opt_refused _ Additional _ _ _ _ (state c.args.message.now) _ _ c.opt_record-resource.ensures.head (along c.opt_record-resource.ensures.data (λ d. d.octets.items) ∙ along c.in-Ok.ensures.held (λ v. v.items)) c.in-Err.ensures.why) c.refused.ensures
