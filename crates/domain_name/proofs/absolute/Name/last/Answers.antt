use Rattle.std.proofs.Common.{◌≡◌, ◌∷◌, ◌++◌, [], ℕ, List, sym, subst}
use Rattle.domain_flat.proofs.Splits.{root_last}
use Rattle.domain_name.specs.Names.{name_labels}
use Rattle.domain_name.proofs.absolute.Name.last.Goals as goal

pub returns-clause-last : goal.returns-clause-last
returns-clause-last g c =
    let ls = name_labels c.args.self.now in
    let r = root_last ls c.args.self.now.absolute.1.0 in
    let P : List ℕ → Type 0 = λ l. (front : List (List ℕ)) × (ls ≡ front ++ l ∷ []) in
    subst P (sym c.root.ensures) (r.0, r.1)
