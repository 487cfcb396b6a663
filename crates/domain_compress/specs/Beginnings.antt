-- How a name was begun to be written. `g` is `Target.OctetsBuilder`, what the traits of a target tell.
use Rattle.std.specs.Prelude.{◌≡◌, ℕ, ◌≤◌, List, ◌++◌, length, take, Option, None, Some}
use Rattle.domain_label.specs.Wire.{wire, labels_in, IsWire}
use Rattle.domain_compress.specs.Compressing.{RememberedLabel, pointer_to, Compresses}
use Rattle.domain_compress.specs.MayWrite.{NameExceeds}
use Rattle.domain_compress.specs.Written.{all_remembered}
use Rattle.domain_compress.specs.declared.written.Written.{Written}

-- what a clause has as `Target.OctetsBuilder`
abbrev pub BuilderMembers : Type 0 → Type 1
BuilderMembers T = record {
  octets : T → List ℕ;
  capacity : T → ℕ;
  limit : Option ℕ;
  cuts : T → ℕ → T → Type 0;
  extends : T → List ℕ → T → Type 0;
}

-- the first octets of a name, up to begin, and a pointer to the offset
abbrev pub pointed : List ℕ → ℕ → ℕ → List ℕ
pointed name begin offset = take begin name ++ pointer_to offset

-- The labels before the offset at, and a pointer, were written after t for the name.
pub record PointerWritten (t : List ℕ) (ws : List RememberedLabel) (name : List ℕ) (at : ℕ) (t' : List ℕ) : Type 0 where
  pub labels : List (List ℕ)
  pub octets : List ℕ
  pub compresses : Compresses t ws (labels_in name) labels octets
  pub all : t' ≡ t ++ octets
  pub spelled : labels_in (take at name) ≡ labels
  pub wire_form : IsWire (take at name)
  pub inside : at ≤ length name
  pub size : length octets ≤ length name

-- This was written; or nothing was, and the name is to be written flat.
abbrev pub BeginningWritten : Option ℕ → List ℕ → List RememberedLabel → List ℕ → List ℕ → Type 0
BeginningWritten None t ws name t' = (t' ≡ t) × Compresses t ws (labels_in name) (labels_in name) (wire (labels_in name))
BeginningWritten (Some at) t ws name t' = PointerWritten t ws name at t'

-- A pointer to where the whole name stands was written.
abbrev pub Repeats : {T : Type 0} → BuilderMembers T → List Written → List ℕ → T → T → Type 0
Repeats g ws name old new = PointerWritten (g.octets old) (all_remembered ws) name 0 (g.octets new)

-- The name was begun so, or nothing was written.
abbrev pub BeginsName : {T : Type 0} → BuilderMembers T → List Written → List ℕ → T → T → Option ℕ → Type 0
BeginsName g ws name old new begun = BeginningWritten begun (g.octets old) (all_remembered ws) name (g.octets new)

-- Octets that may be written for the name exceed the spare capacity of the target.
abbrev pub NoRoomFor : {T : Type 0} → BuilderMembers T → List Written → List ℕ → T → Type 0
NoRoomFor g ws name old = NameExceeds (g.octets old) (all_remembered ws) (labels_in name) (g.capacity old)
