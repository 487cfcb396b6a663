use Rattle.std.proofs.Common.{sym, ◌∙◌}
use Rattle.domain_label.proofs.CanonicalForm.{lowercase_size}
use Rattle.conformance.proofs.compress.NameDataComposeRecordData.rdlen.Goals as goal

pub returns-clause-canonical : goal.returns-clause-canonical
returns-clause-canonical c = λ _. lowercase_size _ ∙ sym c.compose_len.ensures
