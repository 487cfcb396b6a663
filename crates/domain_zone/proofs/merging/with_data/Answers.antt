use Rattle.std.proofs.Common.{◌≡◌, ◌<◌, ◌≤◌, List, Vec, ℕ, length, map, sym, subst}
use Rattle.std.specs.Cmp.Lexicographic.{slice_cmp}
use Rattle.std.specs.List.{HoldsAt}
use Rattle.std.specs.List.Sorted.{IsNonDecreasingBy, IsPartitionPoint}
use Rattle.std.specs.Ordering.{nat_cmp, ordering_index}
use Rattle.std.specs.declared.alloc.Global.{Global}
use Rattle.std.specs.declared.cmp.Ordering.TheVariants.{Less, Equal, Greater}
use Rattle.domain_zone.specs.Building.{AddsData}
use Rattle.domain_zone.proofs.Ascending.{octets_of}
use Rattle.domain_zone.proofs.Adding.{data_found, data_put, data_rising}
use Rattle.domain_zone.proofs.merging.with_data.Goals as goal

pub returns-in-Ok : goal.returns-in-Ok
returns-in-Ok c =
    let x = c.args.octets in
    let i = c.in-Ok.field-0 in
    let same = c.deref.ensures.value in
    data_found octets_of c.args.rdata.items x i c.requires
    (subst (λ (l : List (Vec ℕ Global)). i < length l) same c.in-Ok.ensures.bound)
    (subst (λ (l : List (Vec ℕ Global)). HoldsAt (λ (y : Vec ℕ Global). slice_cmp nat_cmp y.items x.items ≡ Equal) l i) same c.in-Ok.ensures.position)

pub returns-in_ok-insert-in-Err : goal.returns-in_ok-insert-in-Err
returns-in_ok-insert-in-Err c =
    let xs = c.args.rdata.items in
    let x = c.args.octets in
    let i = c.in-Err.at in
    let same = c.deref.ensures.value in
    let parts : IsPartitionPoint (λ (y : Vec ℕ Global). slice_cmp nat_cmp y.items x.items ≡ Less) (λ (y : Vec ℕ Global). slice_cmp nat_cmp y.items x.items ≡ Greater) xs i =
    subst (λ (l : List (Vec ℕ Global)). IsNonDecreasingBy (λ (y : Vec ℕ Global). ordering_index (slice_cmp nat_cmp y.items x.items)) l
    → IsPartitionPoint (λ (y : Vec ℕ Global). slice_cmp nat_cmp y.items x.items ≡ Less) (λ (y : Vec ℕ Global). slice_cmp nat_cmp y.items x.items ≡ Greater) l i)
    same c.in-Err.ensures.position (data_rising octets_of xs x.items c.requires) in
    subst (λ ys. AddsData (map octets_of xs) x.items (map octets_of ys)) (sym c.in_ok-insert-in-Err.ensures.items)
    (data_put octets_of xs x i c.requires (subst (λ (l : List (Vec ℕ Global)). i ≤ length l) same c.in-Err.ensures.bound) parts)
