-- Tags in a message are a reading, and are read back.
use Rattle.std.specs.Prelude.{◌≡◌, ℕ, ◌≤◌, List, length}
use Rattle.std.proofs.Common.{sym, subst, ◌∙◌}
use Rattle.domain_wire.specs.Refusals.{refusal}
use Rattle.domain_wire.specs.Values.{IsReading}
use Rattle.domain_wire.specs.declared.error.ParseError.{ParseError}
use Rattle.domain_fields.specs.ReadBack.{IsReadBack}
use Rattle.domain_strings.specs.CharStrings.{counted}
use Rattle.domain_strings.specs.CharStringLaws.{char_string_reading, char_string_read_back}
use Rattle.domain_strings.specs.Tags.{IsTag, TagAt, NoTag}
use Rattle.domain_strings.specs.Tags.NoTag.{no_string, no_tag}

tag_or_none : (m : List ℕ) (p : ℕ) (s : List ℕ) (e : ℕ) (why : ParseError) → TagAt m p s e → NoTag m p why → ⊥
tag_or_none m p s e why at (no_string none) = char_string_reading.not_both m p s e why at.string none
tag_or_none m p s e why at (no_tag other f also fails told) =
    let same = (char_string_reading.one_value m p s other e f at.string also).0 in
    fails (subst IsTag same at.tag)

one_told : (m : List ℕ) (p : ℕ) (why other : ParseError) → NoTag m p why → NoTag m p other → refusal why ≡ refusal other
one_told m p why other (no_string a) (no_string b) = char_string_reading.one_fault m p why other a b
one_told m p why other (no_string a) (no_tag s e at fails told) = absurd (char_string_reading.not_both m p s e why at a)
one_told m p why other (no_tag s e at fails told) (no_string b) = absurd (char_string_reading.not_both m p s e other at b)
one_told m p why other (no_tag s e at fails told) (no_tag r f also failed tells) = told ∙ sym tells

-- at each offset one tag is read, or there is none
pub tag_reading : IsReading TagAt NoTag
tag_reading = record {
  inside = λ m p s e at. char_string_reading.inside m p s e at.string;
  one_value = λ m p a b e f x y. char_string_reading.one_value m p a b e f x.string y.string;
  not_both = tag_or_none;
  one_fault = one_told;
}

-- a tag that was composed is read back
pub tag_read_back : (it : List ℕ) → length it ≤ 255 → IsTag it → IsReadBack (λ _ _ s. s ≡ counted it) TagAt (λ seen. seen ≡ it)
tag_read_back it short is compresses t s u same =
    let seen = char_string_read_back it short compresses t s u same in
    (seen.0, record { string = seen.1; tag = subst IsTag (sym seen.2) is }, seen.2)
