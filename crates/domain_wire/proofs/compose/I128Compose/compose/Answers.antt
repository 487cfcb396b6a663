use Rattle.std.proofs.Common.{rules, ◌≡◌, ◌++◌, List, ℕ, OnOk, subst, ap, ◌∙◌}
use Rattle.std.specs.Int.{w128, to_be_bytes, cast_unsigned}
use Rattle.std.proofs.lemmas.Int.{to_z-of_z}
use Rattle.domain_wire.proofs.compose.I128Compose.compose.Goals as goal

pub returns-clause-ok : goal.returns-clause-ok
returns-clause-ok g c =
    let Appends : List ℕ → Type 0 = λ octets. OnOk c.append_slice.result (g.Target.Octets.octets c.append_slice.new.self ≡ g.Target.Octets.octets c.args.target.now ++ octets) in
    let written : c.to_be_bytes.result ≡ to_be_bytes w128 (cast_unsigned w128 c.args.self.now) =
    c.to_be_bytes.ensures ∙ ap (λ z. to_be_bytes w128 (cast_unsigned w128 z)) (to_z-of_z w128 c.args.self.now (search rules)) in
    subst Appends written c.append_slice.ensures.ok

pub returns-clause-extends : goal.returns-clause-extends
returns-clause-extends g c =
    let Extends : List ℕ → Type 0 = λ octets. OnOk c.append_slice.result (g.Target.OctetsBuilder.extends c.args.target.now octets c.append_slice.new.self) in
    let written : c.to_be_bytes.result ≡ to_be_bytes w128 (cast_unsigned w128 c.args.self.now) =
    c.to_be_bytes.ensures ∙ ap (λ z. to_be_bytes w128 (cast_unsigned w128 z)) (to_z-of_z w128 c.args.self.now (search rules)) in
    subst Extends written c.append_slice.ensures.extends
