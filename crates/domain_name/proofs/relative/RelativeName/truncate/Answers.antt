use Rattle.std.proofs.Common.{◌≡◌, ◌++◌, ℕ, List, sym, subst}
use Rattle.domain_label.specs.Wire.{labels_in}
use Rattle.domain_name.specs.Names.{relative_labels}
use Rattle.domain_flat.proofs.Splits.{relative_parts}
use Rattle.domain_name.proofs.relative.RelativeName.truncate.Goals as goal

pub invariant_of-self : goal.invariant_of-self
invariant_of-self g c =
    let p = relative_parts _ c.args.len c.args.self.now.relative c.requires in
    record { relative = rw c.truncate.ensures.octets p.front }

pub returns-clause-parts : goal.returns-clause-parts
returns-clause-parts g c =
    let p = relative_parts _ c.args.len c.args.self.now.relative c.requires in
    let P : List ℕ → Type 0 = λ o. (x : List (List ℕ)) × (relative_labels c.args.self.now ≡ labels_in o ++ x) in
    subst P (sym c.truncate.ensures.octets) (_, sym p.parts)

pub returns-clause-offset : goal.returns-clause-offset
returns-clause-offset g c =
    let p = relative_parts _ c.args.len c.args.self.now.relative c.requires in
    rw c.truncate.ensures.octets p.offset
