use Rattle.std.proofs.Common.{◌≡◌, ◌<◌, List, ℕ, length, OnOk, OnErr, subst}
use Rattle.domain_text.specs.BuilderState.{named, size}
use Rattle.domain_builder.specs.Inside.{room}
use Rattle.domain_builder.specs.Pushing.{NameFits}
use Rattle.domain_builder.proofs.Building.{relative_of}
use Rattle.domain_builder.proofs.labels.LabelsBuilder.append_name.Goals as goal

pub append_wire-requires : goal.append_wire-requires
append_wire-requires g c = record { labels = (relative_of _ _ c.in-Some.ensures.wire (g.met.N.Relative.relative c.args.name.now)).0 }

pub returns-in-Some-clause-made : goal.returns-in-Some-clause-made
returns-in-Some-clause-made g c =
    subst (λ (ls : List (List ℕ)). OnOk c.append_wire.result (c.append_wire.new.self.built ≡ named c.args.self.now.built ls)) (relative_of _ _ c.in-Some.ensures.wire (g.met.N.Relative.relative c.args.name.now)).1 c.append_wire.ensures.made

pub returns-in-Some-clause-answer : goal.returns-in-Some-clause-answer
returns-in-Some-clause-answer g c =
    subst (λ (ls : List (List ℕ)). NameFits (size (named c.args.self.now.built ls)) (room g.B.Octets.limit c.append_wire.new.self) c.append_wire.result) (relative_of _ _ c.in-Some.ensures.wire (g.met.N.Relative.relative c.args.name.now)).1 c.append_wire.ensures.answer

pub returns-in-Some-clause-some : goal.returns-in-Some-clause-some
returns-in-Some-clause-some g c =
    subst (λ (octets : List ℕ). OnErr c.append_wire.result (0 < length octets)) c.in-Some.ensures.wire c.append_wire.ensures.some

pub append_wire-requires-2 : goal.append_wire-requires-2
append_wire-requires-2 g c = record { labels = (relative_of _ _ c.put_name-len.ensures.wire (g.met.N.Relative.relative c.args.name.now)).0 }

pub returns-clause-made : goal.returns-clause-made
returns-clause-made g c =
    subst (λ (ls : List (List ℕ)). OnOk c.append_wire-2.result (c.append_wire-2.new.self.built ≡ named c.args.self.now.built ls)) (relative_of _ _ c.put_name-len.ensures.wire (g.met.N.Relative.relative c.args.name.now)).1 c.append_wire-2.ensures.made

pub returns-clause-answer : goal.returns-clause-answer
returns-clause-answer g c =
    subst (λ (ls : List (List ℕ)). NameFits (size (named c.args.self.now.built ls)) (room g.B.Octets.limit c.append_wire-2.new.self) c.append_wire-2.result) (relative_of _ _ c.put_name-len.ensures.wire (g.met.N.Relative.relative c.args.name.now)).1 c.append_wire-2.ensures.answer

pub returns-clause-some : goal.returns-clause-some
returns-clause-some g c =
    subst (λ (octets : List ℕ). OnErr c.append_wire-2.result (0 < length octets)) c.put_name-len.ensures.wire c.append_wire-2.ensures.some
