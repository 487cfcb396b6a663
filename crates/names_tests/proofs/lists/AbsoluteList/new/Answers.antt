use Rattle.std.proofs.Common.{rules, ◌≡◌, ◌∷◌, ◌++◌, [], arith}
use Rattle.domain_label.specs.Labels.{label_octets}
use Rattle.names_tests.proofs.Listed.{then_root}
use Rattle.names_tests.proofs.lists.AbsoluteList.new.Goals as goal

pub invariant_of-result : goal.invariant_of-result
invariant_of-result c =
    let last = c.in_ok-last.last.now in
    let front = c.in_ok-front.front in
    let whole : c.args.labels.now ≡ front.labels.now ++ last ∷ [] = cc (c.in_ok-last.ensures.cases.0, c.in_ok-front.ensures) in
    let root : label_octets last ≡ [] = search rules in
    let both = then_root c.args.labels.now front.labels.now last whole root front.relative in
    record { absolute = both.0; sized = omega (arith, both.1, front.sized) }
