-- Each of these facts has one proof.
use Rattle.std.specs.Prelude.{ℕ, List, [], ◌∷◌}
use Rattle.std.specs.Coded.{×_prop, Unit-prop, le_prop, Coded-set, coded_list, coded_ℕ}
use Rattle.domain_txt.specs.Strings.{AreStrings, strings_in, HasStrings}

AreStrings_prop : (ss : List (List ℕ)) → IsProp (AreStrings ss)
AreStrings_prop [] = Unit-prop
AreStrings_prop (s ∷ ss) = ×_prop le_prop (AreStrings_prop ss)

pub HasStrings_prop : (o : List ℕ) → IsProp (HasStrings o)
HasStrings_prop o = ×_prop (Coded-set (coded_list coded_ℕ) _ _) (AreStrings_prop (strings_in o))
