use Rattle.std.proofs.Common.{◌∙◌, ap}
use Rattle.std.specs.Vec.{vec_capacity}
use Rattle.dnsnames_zone_c.proofs.Giving.{gives_response}
use Rattle.dnsnames_zone_c.proofs.zone.answer.Goals as goal

pub returns-in-Ok-Some : goal.returns-in-Ok-Some
returns-in-Ok-Some c =
    gives_response c.in-Ok-Some.field-0 c.in-Ok-Some.made (λ it. it.target.items) c.args.zone.now c.args.server c.args.query.now _ c.as_slice.result.now c.give.result
    c.args.buffer.now c.give.new.buffer c.args.length.now c.give.new.length c.in-Ok-Some.field-0-is c.in-Ok-Some.ensures.none c.in-Ok-Some.ensures.responds
    (ap vec_capacity c.new.ensures.target ∙ c.in-Ok.ensures.exact)
    c.as_slice.ensures.octets c.give.ensures
