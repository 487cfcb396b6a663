use Rattle.std.proofs.lemmas.Result.{on_err_weaker}
use Rattle.domain_fields.specs.FieldLaws.{cased_some}
use Rattle.domain_any_rdata.specs.Composing.{lowers}
use Rattle.domain_any_rdata.proofs.Naming.{name_grown}
use Rattle.domain_any_rdata.proofs.compose.append_name.Goals as goal

pub returns-in-Compressed-clause-ok : goal.returns-in-Compressed-clause-ok
returns-in-Compressed-clause-ok g c =
    let laws = g.met.T.Composer in
    let absolute = c.args.name.now.absolute in
    name_grown _ _ _ g.T.Composer.compresses _ _ _ c.in-Compressed.is (λ s may. record { read = laws.reads_back _ _ s absolute may; flat = λ plain. laws.flat _ _ s plain may }) c.append_name.ensures.ok

pub returns-in-Compressed-clause-some : goal.returns-in-Compressed-clause-some
returns-in-Compressed-clause-some g c =
    on_err_weaker c.append_name.result (λ _. cased_some (lowers c.args.how) _ c.args.name.now.absolute) c.append_name.ensures.full

pub returns-in-Whole-clause-some : goal.returns-in-Whole-clause-some
returns-in-Whole-clause-some g c =
    on_err_weaker c.append_whole.result (λ _. cased_some (lowers c.args.how) _ c.args.name.now.absolute) c.append_whole.ensures.full
