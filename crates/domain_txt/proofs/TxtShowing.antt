-- What a walk over strings has shown.
use Rattle.std.proofs.Common.{◌≡◌, List, ℕ, [], ◌++◌, refl, sym, ap, ◌∙◌, append_assoc, append-nil}
use Rattle.std.proofs.lemmas.Grind.{put_two}
use Rattle.std.specs.Fmt.{HasWritten}
use Rattle.std.specs.List.{flat_map}
use Rattle.std.specs.declared.fmt.Formatter.{Formatter}
use Rattle.domain_list.specs.Moving.{HasMoved}
use Rattle.domain_strings.specs.Quoted.{quoted, spaced_quoted, quoted_strings}
use Rattle.domain_txt.specs.Strings.{strings_in, HasFirstString}

-- the first string
pub moved_first : {W : Type 0} (took : W → List ℕ → W → Type 0) (f g : Formatter W) (o s r : List ℕ) → HasFirstString o s r → HasWritten took f (quoted s) g → HasMoved took f (quoted_strings (strings_in o)) (flat_map spaced_quoted (strings_in r)) g
moved_first took f g o s r first wrote = record {
  done = quoted s;
  parts = ap quoted_strings first.parts;
  wrote = wrote;
}

-- a string more
pub moved_string : {W : Type 0} (took : W → List ℕ → W → Type 0) (f g h : Formatter W) (whole o s r : List ℕ) → HasMoved took f whole (flat_map spaced_quoted (strings_in o)) g → HasFirstString o s r → HasWritten took g (spaced_quoted s) h → HasMoved took f whole (flat_map spaced_quoted (strings_in r)) h
moved_string took f g h whole o s r m first wrote = record {
  done = m.done ++ spaced_quoted s;
  parts = m.parts ∙ (ap (λ ss. m.done ++ flat_map spaced_quoted ss) first.parts ∙ sym (append_assoc m.done (spaced_quoted s) (flat_map spaced_quoted (strings_in r))));
  wrote = put_two took f g h m.done (spaced_quoted s) (m.done ++ spaced_quoted s) m.wrote wrote refl;
}

-- all of them
pub moved_all : {W : Type 0} (took : W → List ℕ → W → Type 0) (f g : Formatter W) (whole o : List ℕ) → HasMoved took f whole (flat_map spaced_quoted (strings_in o)) g → o ≡ [] → HasWritten took f whole g
moved_all took f g whole o m none =
    let all : m.done ≡ whole = sym (m.parts ∙ (ap (λ r. m.done ++ flat_map spaced_quoted (strings_in r)) none ∙ append-nil m.done)) in
    rw (sym all) m.wrote
