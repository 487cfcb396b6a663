use Rattle.std.proofs.lemmas.Result.{on_err_weaker}
use Rattle.domain_label.proofs.WireLaws.{absolute_some}
use Rattle.domain_name.proofs.NameFields.{flat_absolute}
use Rattle.domain_rdata.proofs.WireForms.{name_exceeds}
use Rattle.conformance.proofs.compress.NameDataComposeRecordData.compose_rdata.Goals as goal

pub returns-clause-full : goal.returns-clause-full
returns-clause-full g c =
    let laws = g.met.Target.Composer in
    on_err_weaker c.append_compressed_name.result (name_exceeds _ _ _ _ (λ s may. laws.reads_back _ _ s (flat_absolute c.args.self.now.name) may)) c.append_compressed_name.ensures.full

pub returns-clause-some : goal.returns-clause-some
returns-clause-some g c =
    let absolute = flat_absolute c.args.self.now.name in
    on_err_weaker c.append_compressed_name.result (λ _. absolute_some _ absolute.0) c.append_compressed_name.ensures.full
