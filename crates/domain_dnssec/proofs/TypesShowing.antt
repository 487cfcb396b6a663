-- What a walk over types has shown.
use Rattle.std.proofs.Common.{◌≡◌, List, ℕ, [], ◌∷◌, ◌++◌, refl, sym, ap, ◌∙◌, append_assoc, append-nil}
use Rattle.std.proofs.lemmas.Grind.{put_two}
use Rattle.std.specs.Fmt.{HasWritten}
use Rattle.std.specs.List.{flat_map}
use Rattle.std.specs.declared.fmt.Formatter.{Formatter}
use Rattle.domain_header.specs.Rtypes.{rtype_text}
use Rattle.domain_list.specs.Moving.{HasMoved}
use Rattle.domain_dnssec.specs.TypesText.{spaced_type, types_text}

-- the first type
pub type_first : {W : Type 0} (took : W → List ℕ → W → Type 0) (f g : Formatter W) (ts left : List ℕ) (n : ℕ) → ts ≡ n ∷ left → HasWritten took f (rtype_text n) g → HasMoved took f (types_text ts) (flat_map spaced_type left) g
type_first took f g ts left n first wrote = record {
  done = rtype_text n;
  parts = ap types_text first;
  wrote = wrote;
}

-- a type more
pub type_more : {W : Type 0} (took : W → List ℕ → W → Type 0) (f g h : Formatter W) (whole ts left : List ℕ) (n : ℕ) → HasMoved took f whole (flat_map spaced_type ts) g → ts ≡ n ∷ left → HasWritten took g (spaced_type n) h → HasMoved took f whole (flat_map spaced_type left) h
type_more took f g h whole ts left n m first wrote = record {
  done = m.done ++ spaced_type n;
  parts = m.parts ∙ (ap (λ ns. m.done ++ flat_map spaced_type ns) first ∙ sym (append_assoc m.done (spaced_type n) (flat_map spaced_type left)));
  wrote = put_two took f g h m.done (spaced_type n) (m.done ++ spaced_type n) m.wrote wrote refl;
}

-- all of them
pub types_all : {W : Type 0} (took : W → List ℕ → W → Type 0) (f g : Formatter W) (whole ts : List ℕ) → HasMoved took f whole (flat_map spaced_type ts) g → ts ≡ [] → HasWritten took f whole g
types_all took f g whole ts m none =
    let all : m.done ≡ whole = sym (m.parts ∙ (ap (λ r. m.done ++ flat_map spaced_type r) none ∙ append-nil m.done)) in
    rw (sym all) m.wrote
