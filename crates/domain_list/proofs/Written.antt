-- What stands on the wire, one label after another.
use Rattle.std.proofs.Common.{◌≡◌, ℕ, ◌+◌, ◌≤◌, ◌<◌, List, ◌∷◌, ◌++◌, length, ap, arith, length-append}
use Rattle.domain_label.specs.Wire.{wire}

-- What has no room for one label has none for all.
pub refused : (now start label : List ℕ) (left rest all : List (List ℕ)) (had has : ℕ) → now ++ wire left ≡ start ++ wire all → left ≡ label ∷ rest → had ≤ has → has < length now + (1 + length label) → had < length start + length (wire all)
refused now start label left rest all had has content e h k =
    omega (arith, ap length content, length-append now (wire left), length-append start (wire all), ap (λ r. length (wire r)) e, length-append label (wire rest))
