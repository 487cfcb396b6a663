use Rattle.std.proofs.Common.{sym, ap, subst}
use Rattle.domain_message_builder.specs.Builders.{state}
use Rattle.domain_message_builder.specs.OptViews.{opt_given, opt_of}
use Rattle.domain_zone_response.specs.Finishing.{FinishesWith}
use Rattle.domain_zone_response.proofs.Responding.{finishes_bare, finishes_opt}
use Rattle.domain_zone_response.proofs.respond.finish.Goals as goal

pub returns-in_default-clause-ok : goal.returns-in_default-clause-ok
returns-in_default-clause-ok g c =
    subst (λ o. FinishesWith g.Target.Composer.compresses o (state c.args.message) (g.Target.Octets.octets c.finish.result)) (sym (ap opt_given c.in_default.is))
    (finishes_bare _ _ _ c.finish.ensures.message c.finish.ensures.octets c.finish.ensures.within)

pub returns-clause-ok : goal.returns-clause-ok
returns-clause-ok g c =
    subst (λ o. FinishesWith g.Target.Composer.compresses o (state c.args.message) (g.Target.Octets.octets c.finish-2.result)) (sym (ap opt_given c.in-Some.is))
    (finishes_opt _ (opt_of c.in-Some.opt) _ _ _ c.in_default-push_opt.ensures.ok c.finish-2.ensures.message c.finish-2.ensures.octets c.finish-2.ensures.within)

pub returns-in-Err-clause-why : goal.returns-in-Err-clause-why
returns-in-Err-clause-why g c = (_, ap opt_given c.in-Some.is, c.in-Err.ensures.no_room)
