use Rattle.std.proofs.Common.{refl, arith}
use Rattle.domain_rdata.proofs.CanonicalForms.{form_told}
use Rattle.domain_rdata.proofs.Lengths.{taken_back}
use Rattle.domain_rdata.proofs.record_data.ComposeRecordData.compose_canonical_len_rdata.Goals as goal

pub returns-in-Some-clause-ok : goal.returns-in-Some-clause-ok
returns-in-Some-clause-ok g c =
    form_told _ _ _ _ _ _ (c.in-Some.ensures.canonical refl) (omega arith) c.to_be_bytes.ensures c.in_default-append_slice.ensures.ok c.in_default-compose_canonical_rdata.ensures.ok

pub returns-in-Err-compose_canonical_rdata-clause-unchanged : goal.returns-in-Err-compose_canonical_rdata-clause-unchanged
returns-in-Err-compose_canonical_rdata-clause-unchanged g c =
    taken_back _ _ _ _ _ _ c.as_slice-start.ensures.octets c.in_default-append_slice.ensures.ok c.in-Err-compose_canonical_rdata.ensures.unchanged c.truncate.ensures.octets
