use Rattle.domain_rdata.proofs.Leaving.{behind_own_length, told_length}
use Rattle.domain_rdata.proofs.record_data.ComposeRecordData.compose_len_rdata.Goals as goal

pub returns-clause-names : goal.returns-clause-names
returns-clause-names g c compressing =
    let told = told_length (g.Self.ComposeRecordData.composed c.args.self.now) _ _ _ _ _ _ c.can_compress.ensures c.in-Some.ensures.composed c.in_default-compose_after.ensures.ok in
    behind_own_length _ _ _ _ _ _ _ _ told c.in_default-compose_after.ensures.names
