-- What a walk over the items of a list has shown.
use Rattle.std.proofs.Common.{◌≡◌, List, ℕ, [], ◌∷◌, ◌++◌, refl, sym, ap, ◌∙◌, append_assoc, append-nil}
use Rattle.std.proofs.lemmas.Grind.{put_two}
use Rattle.std.specs.Fmt.{HasWritten}
use Rattle.std.specs.List.{flat_map}
use Rattle.std.specs.declared.fmt.Formatter.{Formatter}
use Rattle.domain_list.specs.Moving.{HasMoved}

-- what stands before items that are each written as `each` says
pub shown_before : {W A : Type 0} (took : W → List ℕ → W → Type 0) (each : A → List ℕ) (f g : Formatter W) (whole text : List ℕ) (left : List A) → whole ≡ text ++ flat_map each left → HasWritten took f text g → HasMoved took f whole (flat_map each left) g
shown_before took each f g whole text left is wrote = record { done = text; parts = is; wrote = wrote }

-- an item more
pub shown_item : {W A : Type 0} (took : W → List ℕ → W → Type 0) (each : A → List ℕ) (f g h : Formatter W) (whole : List ℕ) (items left : List A) (item : A) → HasMoved took f whole (flat_map each items) g → items ≡ item ∷ left → HasWritten took g (each item) h → HasMoved took f whole (flat_map each left) h
shown_item took each f g h whole items left item m first wrote = record {
  done = m.done ++ each item;
  parts = m.parts ∙ (ap (λ is. m.done ++ flat_map each is) first ∙ sym (append_assoc m.done (each item) (flat_map each left)));
  wrote = put_two took f g h m.done (each item) (m.done ++ each item) m.wrote wrote refl;
}

-- all of them
pub shown_all : {W A : Type 0} (took : W → List ℕ → W → Type 0) (each : A → List ℕ) (f g : Formatter W) (whole : List ℕ) (items : List A) → HasMoved took f whole (flat_map each items) g → items ≡ [] → HasWritten took f whole g
shown_all took each f g whole items m none =
    let all : m.done ≡ whole = sym (m.parts ∙ (ap (λ r. m.done ++ flat_map each r) none ∙ append-nil m.done)) in
    rw (sym all) m.wrote
