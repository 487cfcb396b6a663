-- The first label of a name, chains of names, and names that texts spell.
use Rattle.std.specs.Prelude.{◌≡◌, ◌↔◌, ◌⊎◌, ℕ, ◌+◌, ◌<◌, List, [], ◌∷◌, ◌++◌, length, Result, IsOkAnd}
use Rattle.octseq.specs.declared.octets.Octets.{Ghosts}
use Rattle.domain_builder.specs.BuilderState.{empty_state, labelled, closed}
use Rattle.domain_builder.specs.Laws.{AreBytes}
use Rattle.domain_flat.specs.Flat.{IsLabelStart}
use Rattle.domain_label.specs.Labels.{owned_octets}
use Rattle.domain_label.specs.Text.{text_with_final_dot}
use Rattle.domain_label.specs.Wire.{wire, IsAbsolute, IsAbsoluteName}
use Rattle.domain_label.specs.declared.owned.OwnedLabel.{OwnedLabel}
use Rattle.domain_list.specs.Chains.{before_root}
use Rattle.domain_list.specs.Ends.{EndsWith}
use Rattle.domain_builder.specs.declared.name_symbol.TextFault.{TextFault}
use Rattle.domain_builder.specs.declared.name_symbol.TextFault.TheVariants.{LongLabel, LongName}
use Rattle.domain_name.specs.declared.absolute.Name.{Name}
use Rattle.domain_name.specs.declared.relative.RelativeName.{RelativeName}
use Rattle.domain_name.specs.Names.{name_labels, relative_labels}

-- The name begins with this label.
abbrev pub NameBeginsWith : {O : Type 0} {g : Ghosts O} → Name O g → List ℕ → Type 0
NameBeginsWith name label = (rest : List (List ℕ)) × (name_labels name ≡ label ∷ rest)

-- The name begins with the labels of the relative name.
abbrev pub HasFront : {O P : Type 0} {g : Ghosts O} {h : Ghosts P} → Name O g → RelativeName P h → Type 0
HasFront name front = (zone : List (List ℕ)) × (name_labels name ≡ relative_labels front ++ zone)

-- The relative name has as many octets as the first label of the name.
abbrev pub IsAsLongAsFirst : {O P : Type 0} {g : Ghosts O} {h : Ghosts P} → Name O g → RelativeName P h → Type 0
IsAsLongAsFirst name front =
    (label : List ℕ) × (rest : List (List ℕ)) × (name_labels name ≡ label ∷ rest)
    × (length (wire (relative_labels front)) ≡ length label + 1)

-- The result says whether a label starts after the first one.
abbrev pub TellsSecond : {O : Type 0} {g : Ghosts O} → Name O g → (told : Type 0) → Type 0
TellsSecond name told =
    (label : List ℕ) → (rest : List (List ℕ)) → name_labels name ≡ label ∷ rest →
    (told ↔ IsLabelStart (name_labels name) (length label + 1))

-- the labels of a name: this one, and those of the zone
abbrev pub with_zone : {O : Type 0} {g : Ghosts O} → OwnedLabel → Name O g → List (List ℕ)
with_zone label zone = owned_octets label ∷ name_labels zone

-- The label is the root's, or the name is too long.
abbrev pub MakesNoHost : {O : Type 0} {g : Ghosts O} → OwnedLabel → Name O g → Type 0
MakesNoHost label zone = (owned_octets label ≡ []) ⊎ (255 < length (wire (with_zone label zone)))

-- The name of this label and the zone ends with the labels of the other, ignoring case.
abbrev pub IsInZone : {O P : Type 0} {g : Ghosts O} {h : Ghosts P} → OwnedLabel → Name O g → Name P h → Type 0
IsInZone label zone ancestor = EndsWith (with_zone label zone) (name_labels ancestor)

-- the label of these octets, and none of no octets
abbrev pub one_label : List ℕ → List (List ℕ)
one_label label = closed (labelled empty_state label)

-- Where a name of bytes shows this text, the result is that name.
abbrev pub GivesShown : {N E : Type 0} → (N → List (List ℕ)) → List ℕ → Result N E → Type 0
GivesShown labels text r =
    (ls : List (List ℕ)) → IsAbsoluteName ls → AreBytes ls → text ≡ text_with_final_dot ls →
    IsOkAnd r (λ name. labels name ≡ ls)

-- The fault of a text is that a label, or the whole, is too long.
abbrev pub IsLongFault : TextFault → Type 0
IsLongFault fault = (fault ≡ LongLabel) ⊎ (fault ≡ LongName)

-- The first labels have a root, or both together are too long.
abbrev pub CannotChain : List (List ℕ) → List (List ℕ) → Type 0
CannotChain left right = IsAbsolute left ⊎ (254 < before_root (left ++ right))
