use Rattle.std.proofs.Common.{◌≡◌, ◌+◌, ◌++◌, arith, sym, ◌∙◌, refl, true≢false}
use Rattle.domain_list.specs.Chains.{before_root}
use Rattle.domain_list.specs.NameLaws.{relative_else}
use Rattle.domain_list.proofs.Chaining.{before_chain_absolute, before_chain_relative}
use Rattle.domain_list.proofs.chain.Chain.new.Goals.{then-is_absolute, else-is_absolute}
use Rattle.domain_list.proofs.chain.Chain.new.Goals as goal

pub returns-then-len-root-clause-long : goal.returns-then-len-root-clause-long
returns-then-len-root-clause-long g c =
    let ls = g.L.NameLabels.labels c.args.left in
    let rs = g.R.NameLabels.labels c.args.right in
    let size : before_root (ls ++ rs) + c.if-is_absolute.root ≡ c.compose_len.result + c.compose_len-2.result =
    elim c.if-is_absolute.branch [
      | then-is_absolute w ↦ omega (arith, before_chain_absolute ls rs c.requires (c.is_absolute.ensures.0 w.if-is_absolute.true), w.root-is, c.compose_len.ensures, c.compose_len-2.ensures)
      | else-is_absolute w ↦ omega (arith, before_chain_relative ls rs c.requires (relative_else rs (g.met.R.NameLabels.lawful c.args.right) (λ a. true≢false (sym (c.is_absolute.ensures.1 a) ∙ w.if-is_absolute.false))), w.root-is, c.compose_len.ensures, c.compose_len-2.ensures)
    ] in
    (λ _. omega (arith, size, c.if-len-root.true), λ _. refl)

pub invariant_of-result : goal.invariant_of-result
invariant_of-result g c =
    let ls = g.L.NameLabels.labels c.args.left in
    let rs = g.R.NameLabels.labels c.args.right in
    let size : before_root (ls ++ rs) + c.if-is_absolute.root ≡ c.compose_len.result + c.compose_len-2.result =
    elim c.if-is_absolute.branch [
      | then-is_absolute w ↦ omega (arith, before_chain_absolute ls rs c.requires (c.is_absolute.ensures.0 w.if-is_absolute.true), w.root-is, c.compose_len.ensures, c.compose_len-2.ensures)
      | else-is_absolute w ↦ omega (arith, before_chain_relative ls rs c.requires (relative_else rs (g.met.R.NameLabels.lawful c.args.right) (λ a. true≢false (sym (c.is_absolute.ensures.1 a) ∙ w.if-is_absolute.false))), w.root-is, c.compose_len.ensures, c.compose_len-2.ensures)
    ] in
    record { fits = (c.requires, omega (arith, size, c.if-len-root.false)) }
