-- Text that went through a buffer.
use Rattle.std.proofs.Common.{◌≡◌, List, ℕ, [], ◌∷◌, ◌++◌, refl, sym, ap, ◌∙◌, append_assoc, append-nil}
use Rattle.std.proofs.lemmas.Grind.{put_two}
use Rattle.std.specs.Fmt.{HasWritten}
use Rattle.std.specs.List.{flat_map}
use Rattle.std.specs.declared.fmt.Formatter.{Formatter}
use Rattle.domain_label.specs.Text.{dot_before, escaped, text}
use Rattle.domain_list.specs.Moving.{HasMoved}

-- a piece more was
pub moved_on : {W : Type 0} (took : W → List ℕ → W → Type 0) (f g h : Formatter W) (whole text more rest : List ℕ) → HasMoved took f whole (text ++ more) g → HasMoved took g text rest h → HasMoved took f whole (rest ++ more) h
moved_on took f g h whole text more rest m n = record {
  done = m.done ++ n.done;
  parts = m.parts ∙ (ap (λ r. m.done ++ (r ++ more)) n.parts ∙ (ap (λ r. m.done ++ r) (append_assoc n.done rest more) ∙ sym (append_assoc m.done n.done (rest ++ more))));
  wrote = put_two took f g h m.done n.done (m.done ++ n.done) m.wrote n.wrote refl;
}

-- a label comes into the buffer
pub moved_label : {W : Type 0} (took : W → List ℕ → W → Type 0) (f g : Formatter W) (whole text new l : List ℕ) (s t : List (List ℕ)) → HasMoved took f whole (text ++ flat_map dot_before s) g → s ≡ l ∷ t → new ≡ text ++ dot_before l → HasMoved took f whole (new ++ flat_map dot_before t) g
moved_label took f g whole text new l s t m e k = record {
  done = m.done;
  parts = m.parts ∙ ap (λ r. m.done ++ r) (ap (λ ls. text ++ flat_map dot_before ls) e ∙ (sym (append_assoc text (dot_before l) (flat_map dot_before t)) ∙ ap (λ r. r ++ flat_map dot_before t) (sym k)));
  wrote = m.wrote;
}

-- what is in the buffer at the end is written, too
pub moved_end : {W : Type 0} (took : W → List ℕ → W → Type 0) (f g h : Formatter W) (whole text : List ℕ) (s : List (List ℕ)) → HasMoved took f whole (text ++ flat_map dot_before s) g → s ≡ [] → HasWritten took g text h → HasWritten took f whole h
moved_end took f g h whole text s m e w =
    put_two took f g h m.done text whole m.wrote w (ap (λ r. m.done ++ r) (sym (append-nil text) ∙ ap (λ ls. text ++ flat_map dot_before ls) (sym e)) ∙ sym m.parts)

-- the first label stands without a dot
pub first_text : (new empty l o : List ℕ) (all rest : List (List ℕ)) → all ≡ l ∷ rest → new ≡ empty ++ escaped o → empty ≡ [] → o ≡ l → new ++ flat_map dot_before rest ≡ text all
first_text new empty l o all rest e k n m =
    ap (λ t. t ++ flat_map dot_before rest) (k ∙ (ap (λ t. t ++ escaped o) n ∙ ap escaped m)) ∙ sym (ap text e)
