-- What is said of all that an iterator yields.
use Rattle.std.specs.Prelude.{List, Option}
use Rattle.std.specs.Iterator.{AlwaysYields}

-- If the iterator yields these items and then ends, whatever they are, P holds of them.
abbrev pub IfYields : {I A : Type 0} → (I → Option A → I → Type 0) → I → (List A → Type 0) → Type 0
IfYields {A = A} steps it P = (xs : List A) → AlwaysYields steps (λ x. x) it xs → P xs
