use Rattle.domain_any_rdata.specs.AllData.{data_type, data_parts, is_known_data}
use Rattle.domain_any_rdata.proofs.Forms.{canonical_grown, canonical_full, canonical_some}
use Rattle.domain_any_rdata.proofs.all.AllRecordDataComposeRecordData.compose_canonical_rdata.Goals as goal

pub returns-clause-ok : goal.returns-clause-ok
returns-clause-ok g c =
    let it = c.args.self.now in
    canonical_grown c.compose_fields.result (data_type it) (is_known_data it) c.lowers_names.result g.Target.Composer.compresses (data_parts it) _ _ c.lowers_names.ensures c.compose_fields.ensures.ok

pub returns-clause-full : goal.returns-clause-full
returns-clause-full g c =
    let it = c.args.self.now in
    canonical_full c.compose_fields.result (data_type it) (is_known_data it) c.lowers_names.result (data_parts it) _ _ c.lowers_names.ensures c.compose_fields.ensures.full

pub returns-clause-some : goal.returns-clause-some
returns-clause-some g c =
    let it = c.args.self.now in
    canonical_some c.compose_fields.result (data_type it) (is_known_data it) c.lowers_names.result (data_parts it) c.lowers_names.ensures c.compose_fields.ensures.some
