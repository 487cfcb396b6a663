-- What a sorted zone needs: names that end with its apex are adjacent in the order.
use Rattle.std.specs.Prelude.{◌≡◌, ◌≢◌, ◌↔◌, ℕ, List}
use Rattle.std.specs.declared.cmp.Ordering.TheVariants.{Less, Equal, Greater}
use Rattle.domain_label.specs.Lowercase.{lowercase_labels}
use Rattle.domain_list.specs.Ends.{EndsWith}
use Rattle.domain_list.specs.Order.{canonical_order}

-- The order distinguishes exactly the names that differ by more than case.
abbrev pub OrderDecidesEquality : Type 0
OrderDecidesEquality = (a b : List (List ℕ)) → (canonical_order a b ≡ Equal) ↔ (lowercase_labels a ≡ lowercase_labels b)

-- What is neither less than x nor greater than z, which both end with an ancestor, ends with it, too.
abbrev pub DescendantsAreAdjacent : Type 0
DescendantsAreAdjacent = (ancestor x y z : List (List ℕ)) → EndsWith x ancestor → EndsWith z ancestor → canonical_order y x ≢ Less → canonical_order y z ≢ Greater → EndsWith y ancestor

-- The ancestor is no greater than any name that ends with it.
abbrev pub ParentIsFirst : Type 0
ParentIsFirst = (ancestor x : List (List ℕ)) → EndsWith x ancestor → canonical_order ancestor x ≢ Greater
