use Rattle.std.proofs.Common.{arith, ◌<◌, length}
use Rattle.std.proofs.lemmas.Result.{on_err_weaker}
use Rattle.domain_label.specs.Lowercase.{lowercase_labels}
use Rattle.domain_label.specs.Wire.{wire}
use Rattle.domain_label.proofs.CanonicalForm.{lowercase_size}
use Rattle.domain_label.proofs.WireLaws.{absolute_some}
use Rattle.domain_name.specs.Names.{name_labels}
use Rattle.domain_name.proofs.NameFields.{flat_absolute}
use Rattle.conformance.proofs.compress.NameDataComposeRecordData.compose_canonical_rdata.Goals as goal

pub returns-clause-some : goal.returns-clause-some
returns-clause-some g c =
    let ls = name_labels c.args.self.now.name in
    let absolute = flat_absolute c.args.self.now.name in
    let some : 0 < length (wire (lowercase_labels ls)) = omega (arith, lowercase_size ls, absolute_some ls absolute.0) in
    on_err_weaker c.compose_canonical.result (λ _. some) c.compose_canonical.ensures.full
