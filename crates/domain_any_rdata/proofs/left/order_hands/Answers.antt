use Rattle.std.proofs.Common.{◌≡◌, ◌∙◌, ◌≤◌, List, ℕ, length, take, ap, arith}
use Rattle.std.specs.Cmp.Lexicographic.{slice_cmp}
use Rattle.std.specs.Ordering.{nat_cmp}
use Rattle.domain_any_rdata.specs.Readers.{remaining_octets, in_hand}
use Rattle.domain_any_rdata.proofs.Cutting.{hands_ordered}
use Rattle.domain_any_rdata.proofs.left.order_hands.Goals as goal

pub returns-clause-order : goal.returns-clause-order
returns-clause-order c =
    let first = c.args.first.now in
    let second = c.args.second.now in
    let n : ℕ = c.min-n.result in
    let here : length c.first-here.result.now ≡ length (in_hand first) = ap (λ (x : List ℕ). length x) c.first-here.ensures in
    let there : length c.first-there.result.now ≡ length (in_hand second) = ap (λ (x : List ℕ). length x) c.first-there.ensures in
    let least = c.min-n.ensures in
    let is = c.cmp-order.ensures
    ∙ ap (λ (x : List ℕ). slice_cmp nat_cmp (take n x) (take n c.first-there.result.now)) c.first-here.ensures
    ∙ ap (λ (x : List ℕ). slice_cmp nat_cmp (take n (in_hand first)) (take n x)) c.first-there.ensures in
    hands_ordered first second n c.cmp-order.result (remaining_octets c.skip.new.self) (remaining_octets c.skip-2.new.self) (omega (arith, least, here)) (omega (arith, least, there)) is
    c.skip.ensures c.skip-2.ensures
