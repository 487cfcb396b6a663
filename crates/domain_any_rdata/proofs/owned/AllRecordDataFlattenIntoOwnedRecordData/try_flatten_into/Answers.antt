use Rattle.std.proofs.Common.{◌∙◌, false, ap}
use Rattle.domain_descriptor.specs.declared.rdata.Rdata.{Rdata}
use Rattle.domain_fields.specs.Parts.{parts_octets}
use Rattle.domain_any_rdata.proofs.Owning.{flat_octets}
use Rattle.domain_any_rdata.specs.Parts.{rdata_parts}
use Rattle.domain_any_rdata.proofs.owned.AllRecordDataFlattenIntoOwnedRecordData.try_flatten_into.Goals as goal

pub of_flat-requires : goal.of_flat-requires
of_flat-requires c =
    flat_octets (rdata_parts c.rdata.result) false c.new-octets.result.items c.compose_fields.new.target.items c.new-octets.ensures.items c.in_ok-compose_fields.ensures.ok
    ∙ ap (λ (it : Rdata). parts_octets false (rdata_parts it)) c.rdata.ensures
