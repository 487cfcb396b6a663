use Rattle.domain_fields.proofs.Missing.{rest_missing}
use Rattle.domain_fields.proofs.Parsers.{same_message}
use Rattle.domain_fields.proofs.sequence.SequenceReadField.read_field.Goals as goal

pub returns-in-Err-read_field-clause-err : goal.returns-in-Err-read_field-clause-err
returns-in-Err-read_field-clause-err g c =
    rest_missing _ _ _ _ _ _ _ _ _ (same_message _ _ _ c.in-Ok.ensures.moves) c.in-Ok.ensures.ok c.in-Err-read_field.ensures.err
