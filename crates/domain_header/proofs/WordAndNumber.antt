-- Texts of a word and a number.
use Rattle.std.proofs.Common.{◌≡◌, ℕ, List, length, take, drop, refl, ap, sym, subst, ◌∙◌}
use Rattle.std.specs.Prelude.{Option, Some, None, IfSome, IsNone}
use Rattle.std.specs.Char.{to_ascii_lowercase}
use Rattle.std.proofs.Math.Seq.{drop-append_seam}
use Rattle.std.proofs.lemmas.List.{length-map, take-append-drop}
use Rattle.domain_label.specs.Lowercase.{lowercase}
use Rattle.domain_header.specs.Mnemonics.{Row, NumberOf}
use Rattle.domain_header.specs.Numbered.{IsDecimal, IsNumbered, Named}
use Rattle.domain_header.specs.Numbered.Named.{by_number, nothing}

-- the number is after as many octets as the word has
pub rest_of : (word text : List ℕ) (n : ℕ) → IsNumbered word text n → IsDecimal (drop (length word) text) n
rest_of word text n is =
    let size : length is.first ≡ length word = sym (length-map is.first to_ascii_lowercase) ∙ (ap length is.same ∙ length-map word to_ascii_lowercase) in
    let rest : drop (length word) text ≡ is.rest = ap (λ k. drop k text) (sym size) ∙ (ap (drop (length is.first)) is.parts ∙ drop-append_seam is.first is.rest) in
    subst (λ ds. IsDecimal ds n) (sym rest) is.number

pub numbered : (word text : List ℕ) (found : Option ℕ) → lowercase (take (length word) text) ≡ lowercase word → IfSome found (IsDecimal (drop (length word) text)) → IfSome found (IsNumbered word text)
numbered word text None same is = tt
numbered word text (Some n) same is = record {
  first = take (length word) text;
  rest = drop (length word) text;
  parts = sym (take-append-drop (length word) text);
  same = same;
  number = is;
}

-- the text names no mnemonic
pub named_after : (rows : List Row) (word text : List ℕ) (found : Option ℕ) → NumberOf text rows None → IfSome found (IsNumbered word text) → (IsNone found → (n : ℕ) → IsNumbered word text n → ⊥) → Named rows word text found
named_after rows word text None other some none = nothing other (none refl)
named_after rows word text (Some n) other some none = by_number other some
