use Rattle.std.proofs.Common.{false}
use Rattle.std.proofs.lemmas.Result.{on_err_weaker}
use Rattle.domain_rdata.proofs.WireForms.{name_exceeds}
use Rattle.domain_fields.specs.FieldLaws.{cased_some}
use Rattle.domain_fields.proofs.name_field.NameFieldDataField.compose_field.Goals as goal

pub returns-clause-some : goal.returns-clause-some
returns-clause-some g c =
    on_err_weaker c.append_name.result (λ _. cased_some false _ (g.met.N.Absolute.absolute c.args.self.now.name)) c.append_name.ensures.full

pub returns-clause-full : goal.returns-clause-full
returns-clause-full g c =
    let laws = g.met.Target.Composer in
    let absolute = g.met.N.Absolute.absolute c.args.self.now.name in
    on_err_weaker c.append_name.result (name_exceeds _ _ _ _ (λ s may. laws.reads_back _ _ s absolute may)) c.append_name.ensures.full
