-- Data that a line says, and why it says none.
use Rattle.std.proofs.Common.{◌≡◌, ℕ, List, length, drop, Ok, refl, ap, subst, ◌∙◌}
use Rattle.domain_descriptor.specs.Table.{known_fields}
use Rattle.domain_rdata_text.specs.Texts.{text_octets, IsGenericText, IsPlain, IsReadFault}
use Rattle.domain_rdata_text.specs.declared.error.Fault.{Fault as TextFault}
use Rattle.domain_make.specs.Data.{begin_of, text_from, MeansNone, IsData}
use Rattle.domain_make.specs.Data.IsData.{says}
use Rattle.domain_make.specs.Stops.{NoData}
use Rattle.domain_make.specs.Words.{WordAt, column_of}
use Rattle.domain_make.specs.declared.error.Fault.TheVariants as fault

-- The text from the first word on, where that is known to begin.
text_begins : (line : List ℕ) (words : List WordAt) (text : List ℕ) (begin : ℕ) → begin ≡ begin_of (length line) words → text ≡ drop begin line → text ≡ text_from line words
text_begins line words text begin starts same = same ∙ ap (λ n. drop n line) starts

pub data_says : (rtype class : ℕ) (line : List ℕ) (words : List WordAt) (text : List ℕ) (begin : ℕ) (octets : List ℕ) → begin ≡ begin_of (length line) words → text ≡ drop begin line → (MeansNone class words → ⊥)
    → text_octets (known_fields rtype class) text ≡ Ok octets → (IsGenericText text → IsPlain (known_fields rtype class) octets) → IsData rtype class line words octets
data_says rtype class line words text begin octets starts same other told plain =
    let from = text_begins line words text begin starts same in
    says other (subst (λ t. text_octets (known_fields rtype class) t ≡ Ok octets) from told) (subst (λ t. IsGenericText t → IsPlain (known_fields rtype class) octets) from plain)

pub data_refused : (rtype class : ℕ) (line : List ℕ) (words : List WordAt) (text : List ℕ) (begin column : ℕ) (why : TextFault) → begin ≡ begin_of (length line) words → text ≡ drop begin line → (MeansNone class words → ⊥)
    → IsReadFault (known_fields rtype class) text why → column ≡ column_of (length line) begin why.at → NoData rtype class line words (fault.Text why.reason) column
data_refused rtype class line words text begin column why starts same other refused at = record {
  why = why;
  meant = other;
  refused = subst (λ t. IsReadFault (known_fields rtype class) t why) (text_begins line words text begin starts same) refused;
  told = (refl, at ∙ ap (λ n. column_of (length line) n why.at) starts);
}
