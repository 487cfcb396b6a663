-- Removing the first label of a name.
use Rattle.std.specs.Prelude.{◌≡◌, ◌≤◌, ℕ, Bool, List, [], ◌∷◌, Option, None, Some, length, slice_range, MatchBool, ⊤}
use Rattle.std.specs.Borrow.{Fml, MutBor, RattleType, follows_so}
use Rattle.std.specs.declared.ops.Range.{Range}
use mathlib.Core.Option.{none}
use Rattle.octseq.specs.declared.octets.Octets.{Ghosts}
use Rattle.domain_label.specs.Wire.{wire, Root, IsRelativeName}
use Rattle.domain_name.specs.declared.relative.RelativeName.{RelativeName}
use Rattle.domain_name.specs.Names.{relative_labels, IsParent}
use Rattle.domain_parsed.specs.declared.parsed.ParsedName.{ParsedName}
use Rattle.domain_parsed.specs.ParsedNames.{parsed_octets, parsed_labels, may_be_compressed}

-- Where `told` is true, the name new is old without its first label; else old is the root, and new is old.
abbrev pub TellsParent : {O : Type 0} {g : Ghosts O} → Bool → ParsedName O g → ParsedName O g → Type 0
TellsParent told old new = MatchBool told (IsParent (parsed_labels old) (parsed_labels new)) ((new ≡ old) × (parsed_labels old ≡ Root))

-- Once the borrow that is returned ends, what was borrowed is as P says.
abbrev pub BecomesAfter : (R : RattleType) → MutBor R.Denot → (P : R.Denot → Type 0) → Fml
BecomesAfter R s P = follows_so R R s.ghost_name none (λ _ _. ⊤) P

-- The relative name has one label, the first one of the name.
abbrev pub IsFirstLabelAlone : {O : Type 0} {g : Ghosts O} {P : Type 0} {h : Ghosts P} → ParsedName O g → RelativeName P h → Type 0
IsFirstLabelAlone old first = (label : List ℕ) × (rest : List (List ℕ)) × (relative_labels first ≡ label ∷ []) × (parsed_labels old ≡ label ∷ rest)

-- The name new is old without its first label, which is in the octets at this range.
pub record DropsFirst {O : Type 0} {g : Ghosts O} (old : ParsedName O g) (range : Range ℕ) (new : ParsedName O g) : Type 0 where
  pub label : List ℕ
  pub labels : parsed_labels old ≡ label ∷ parsed_labels new
  pub relative : IsRelativeName (label ∷ [])
  pub ordered : range.start ≤ range.end
  pub inside : range.end ≤ length (parsed_octets old)
  pub stands : slice_range (parsed_octets old) range.start range.end ≡ wire (label ∷ [])

-- Where there is a result, the name new is old without its first label, which is the result; else new is old.
abbrev pub SplitsFirst : {O : Type 0} {g : Ghosts O} {P : Type 0} {h : Ghosts P} → ParsedName O g → Option (RelativeName P h) → ParsedName O g → Type 0
SplitsFirst old None new = new ≡ old
SplitsFirst old (Some first) new = (label : List ℕ) × (relative_labels first ≡ label ∷ []) × (parsed_labels old ≡ label ∷ parsed_labels new) × (parsed_octets new ≡ parsed_octets old) × (may_be_compressed new ≡ may_be_compressed old)
