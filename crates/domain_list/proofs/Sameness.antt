-- What an impl of `PartialEq` for a kind of names answers.
use Rattle.std.specs.Prelude.{◌≡◌, ◌↔◌, ℕ, Bool, List, reverse, IsTrue}
use Rattle.std.proofs.Common.{subst}
use Rattle.std.specs.Cmp.{both_ways, eq_by_cmp_equiv}
use Rattle.std.specs.Cmp.Lexicographic.{slice_cmp}
use Rattle.std.specs.Ordering.{nat_cmp, eq_by_cmp}
use Rattle.domain_label.specs.Lowercase.{lowercase_labels}
use Rattle.domain_list.specs.NameLaws.{lists_order, same_lowercase}
use Rattle.domain_list.specs.Order.{from_right, same_name}

low_same : (a b : List (List ℕ)) → lowercase_labels a ≡ lowercase_labels b → IsTrue (same_name a b)
low_same a b e = subst (λ r. IsTrue (eq_by_cmp (slice_cmp (slice_cmp nat_cmp)) (from_right a) (reverse r))) e ((eq_by_cmp_equiv lists_order).refl (from_right a))

-- a test of whether labels are the same without case is `same_name`
pub same_told : (r : Bool) (a b : List (List ℕ)) → (IsTrue r ↔ (lowercase_labels a ≡ lowercase_labels b)) → r ≡ same_name a b
same_told r a b h = both_ways r (same_name a b) (λ t. low_same a b (h.0 t)) (λ t. h.1 (same_lowercase a b t))
