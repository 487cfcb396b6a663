use Rattle.std.proofs.lemmas.Result.{on_err_weaker}
use Rattle.domain_fields.specs.FieldLaws.{cased_some}
use Rattle.domain_fields.proofs.name_field.UncompressedNameFieldDataField.compose_canonical_field.Goals as goal

pub returns-clause-some : goal.returns-clause-some
returns-clause-some g c =
    on_err_weaker c.append_cased.result (λ _. cased_some c.args.lowercase _ (g.met.N.Absolute.absolute c.args.self.now.name)) c.append_cased.ensures.full
