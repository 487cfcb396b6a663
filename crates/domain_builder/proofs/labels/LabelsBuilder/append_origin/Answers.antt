use Rattle.std.proofs.Common.{◌≡◌, ◌+◌, ◌++◌, List, ℕ, length, IfOk, subst}
use Rattle.domain_label.specs.Wire.{labels_in}
use Rattle.domain_text.specs.BuilderState.{closed, size}
use Rattle.domain_builder.specs.Inside.{room}
use Rattle.domain_builder.specs.Pushing.{OriginFits}
use Rattle.domain_builder.proofs.Building.{absolute_of}
use Rattle.domain_builder.proofs.labels.LabelsBuilder.append_origin.Goals as goal

pub append_origin_wire-requires : goal.append_origin_wire-requires
append_origin_wire-requires g c = record { origin = (absolute_of _ _ c.in-Some.ensures.wire (g.met.N.Absolute.absolute c.args.origin.now)).0 }

pub returns-in-Some-clause-labels : goal.returns-in-Some-clause-labels
returns-in-Some-clause-labels g c =
    subst (λ (ls : List (List ℕ)). IfOk c.append_origin_wire.result (λ octets. labels_in (g.B.Octets.Octets.octets octets) ≡ closed c.args.self.built ++ ls)) (absolute_of _ _ c.in-Some.ensures.wire (g.met.N.Absolute.absolute c.args.origin.now)).1 c.append_origin_wire.ensures.labels

pub returns-in-Some-clause-answer : goal.returns-in-Some-clause-answer
returns-in-Some-clause-answer g c =
    subst (λ (octets : List ℕ). OriginFits (size c.args.self.built + length octets) (room g.B.Octets'.limit c.args.self) c.append_origin_wire.result) c.in-Some.ensures.wire c.append_origin_wire.ensures.answer

pub append_origin_wire-requires-2 : goal.append_origin_wire-requires-2
append_origin_wire-requires-2 g c = record { origin = (absolute_of _ _ c.put_name-len.ensures.wire (g.met.N.Absolute.absolute c.args.origin.now)).0 }

pub returns-clause-labels : goal.returns-clause-labels
returns-clause-labels g c =
    subst (λ (ls : List (List ℕ)). IfOk c.append_origin_wire-2.result (λ octets. labels_in (g.B.Octets.Octets.octets octets) ≡ closed c.args.self.built ++ ls)) (absolute_of _ _ c.put_name-len.ensures.wire (g.met.N.Absolute.absolute c.args.origin.now)).1 c.append_origin_wire-2.ensures.labels
