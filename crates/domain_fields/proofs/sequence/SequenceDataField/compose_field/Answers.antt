use Rattle.std.proofs.Common.{arith, length-append, false}
use Rattle.domain_fields.specs.Sequences.{first_exceeds, rest_exceeds}
use Rattle.domain_fields.proofs.sequence.SequenceDataField.compose_field.Goals as goal

pub returns-in-Err-clause-full : goal.returns-in-Err-clause-full
returns-in-Err-clause-full g c =
    first_exceeds _ _ (g.B.DataField.uncompressed c.args.self.now.rest false) _ c.in-Err.ensures.full

pub returns-in-Err-compose_field-clause-full : goal.returns-in-Err-compose_field-clause-full
returns-in-Err-compose_field-clause-full g c =
    rest_exceeds _ _ _ (g.A.DataField.uncompressed c.args.self.now.first false) _ _ _ c.in_default.ensures.ok (λ s may. g.met.A.DataField.never_longer c.args.self.now.first _ _ s may) c.in_default.ensures.capacity c.in-Err-compose_field.ensures.full

pub returns-in-Err-clause-some : goal.returns-in-Err-clause-some
returns-in-Err-clause-some g c =
    omega (arith, c.in-Err.ensures.some, length-append (g.A.DataField.uncompressed c.args.self.now.first false) (g.B.DataField.uncompressed c.args.self.now.rest false))

pub returns-in-Err-compose_field-clause-some : goal.returns-in-Err-compose_field-clause-some
returns-in-Err-compose_field-clause-some g c =
    omega (arith, c.in-Err-compose_field.ensures.some, length-append (g.A.DataField.uncompressed c.args.self.now.first false) (g.B.DataField.uncompressed c.args.self.now.rest false))
