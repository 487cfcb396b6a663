use Rattle.std.proofs.Common.{ap, ◌∙◌}
use Rattle.domain_header.specs.Values.{class_number, ttl_seconds}
use Rattle.domain_name.specs.Names.{name_labels}
use Rattle.domain_rdata.specs.Unknown.{data_octets, data_type}
use Rattle.domain_zone_response.proofs.Growing.{cannot_add_as, head_is}
use Rattle.domain_zone_response.proofs.rrset.push_record.Goals as goal

pub returns-in-Err-clause-why : goal.returns-in-Err-clause-why
returns-in-Err-clause-why g c refused =
    cannot_add_as _ _ _ _ _ _ _ _ _ c.in-Err.ensures.why
    (head_is _ _ _ _ _ _ _ _ (ap name_labels c.new-record.ensures.owner) (ap data_type c.new-record.ensures.rdata ∙ (c.in-Ok.ensures.of_type ∙ c.from_int.ensures))
    (ap class_number c.new-record.ensures.class) (ap ttl_seconds c.new-record.ensures.ttl ∙ c.from_secs.ensures))
    (ap data_octets c.new-record.ensures.rdata ∙ ap (λ b. b.now) c.in-Ok.ensures.held)
