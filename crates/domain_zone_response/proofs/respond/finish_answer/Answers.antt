use Rattle.std.proofs.Common.{refl, ap}
use Rattle.domain_message_builder.specs.OptViews.{opt_given}
use Rattle.domain_zone_response.proofs.Responding.{ends_with, never_fits}
use Rattle.domain_zone_response.proofs.respond.finish_answer.Goals as goal

pub returns-in-Ok-clause-ok : goal.returns-in-Ok-clause-ok
returns-in-Ok-clause-ok g c =
    ends_with _ _ _ _ _ _ (ap opt_given c.as_ref.ensures.value) c.in-Ok.ensures.ok c.in-Ok.ensures.octets c.in-Ok.ensures.within

pub returns-in-Err-clause-why : goal.returns-in-Err-clause-why
returns-in-Err-clause-why g c = never_fits _ _ _ _ _ _ refl (ap opt_given c.as_ref.ensures.value) c.in-Err.ensures.why
