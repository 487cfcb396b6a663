use Rattle.std.proofs.Common.{ap, arith, length, ◌<◌, rules}
use Rattle.domain_rdata.proofs.Lengths.{refused_length, flat_too_long, flat_exceeds}
use Rattle.domain_rdata.proofs.record_data.compose_flat.Goals as goal

pub returns-in_default-clause-long : goal.returns-in_default-clause-long
returns-in_default-clause-long g c = omega (arith, c.in_default.ensures.full, ap length c.new-octets.ensures)

pub returns-in_default-clause-why : goal.returns-in_default-clause-why
returns-in_default-clause-why g c =
    let long : 65535 < length (g.D.ComposeRecordData.uncompressed c.args.rdata.now) = omega (arith, c.in_default.ensures.full, ap length c.new-octets.ensures) in
    flat_too_long _ _ _ (g.met.D.ComposeRecordData.plain c.args.rdata.now g.T.Composer.compresses) long

pub returns-in-Err-append_slice-clause-why : goal.returns-in-Err-append_slice-clause-why
returns-in-Err-append_slice-clause-why g c =
    flat_exceeds _ _ _ _ _ _ _ _ _ _ _ (g.met.D.ComposeRecordData.plain c.args.rdata.now g.T.Composer.compresses) (g.met.D.ComposeRecordData.flat c.args.rdata.now) (ap length c.new-octets.ensures) c.in-Ok.ensures.ok c.as_slice.ensures.value c.in_default-append_slice.ensures.ok (search rules) (omega (arith, c.append_slice.ensures.capacity, c.append_slice-2.ensures.capacity)) c.in-Err-append_slice.ensures.full

pub returns-in-Err-clause-why : goal.returns-in-Err-clause-why
returns-in-Err-clause-why g c =
    refused_length _ _ (g.D.ComposeRecordData.uncompressed c.args.rdata.now) _ _ _ (g.met.D.ComposeRecordData.plain c.args.rdata.now g.T.Composer.compresses) (search rules) c.append_slice.ensures.capacity c.in-Err.ensures.full
