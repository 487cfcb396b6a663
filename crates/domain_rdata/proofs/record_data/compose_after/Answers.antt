use Rattle.std.proofs.Common.{rules}
use Rattle.domain_rdata.proofs.Lengths.{refused_length, refused_data, taken_back}
use Rattle.domain_rdata.proofs.record_data.compose_after.Goals as goal

pub returns-in-Err-clause-full : goal.returns-in-Err-clause-full
returns-in-Err-clause-full g c =
    refused_length _ _ (g.D.ComposeRecordData.uncompressed c.args.rdata.now) _ _ _ (g.met.D.ComposeRecordData.plain c.args.rdata.now g.T.Composer.compresses) (search rules) c.append_slice.ensures.capacity c.in-Err.ensures.full

pub returns-in-Err-compose_rdata-clause-full : goal.returns-in-Err-compose_rdata-clause-full
returns-in-Err-compose_rdata-clause-full g c =
    refused_data _ _ _ _ _ _ _ (g.met.D.ComposeRecordData.plain c.args.rdata.now g.T.Composer.compresses) c.in_default.ensures.ok (search rules) c.append_slice.ensures.capacity c.in-Err-compose_rdata.ensures.full

pub returns-in-Err-compose_rdata-clause-unchanged : goal.returns-in-Err-compose_rdata-clause-unchanged
returns-in-Err-compose_rdata-clause-unchanged g c =
    taken_back _ _ _ _ _ _ c.as_slice-start.ensures.octets c.in_default.ensures.ok c.in-Err-compose_rdata.ensures.unchanged c.truncate.ensures.octets
