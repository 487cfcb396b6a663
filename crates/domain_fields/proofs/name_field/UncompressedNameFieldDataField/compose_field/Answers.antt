use Rattle.std.proofs.Common.{false}
use Rattle.std.proofs.lemmas.Result.{on_err_weaker}
use Rattle.domain_fields.specs.FieldLaws.{cased_some}
use Rattle.domain_fields.proofs.name_field.UncompressedNameFieldDataField.compose_field.Goals as goal

pub returns-clause-some : goal.returns-clause-some
returns-clause-some g c =
    on_err_weaker c.append_uncompressed.result (λ _. cased_some false _ (g.met.N.Absolute.absolute c.args.self.now.name)) c.append_uncompressed.ensures.full
