-- What contracts see of a value as its key wants it: its text.
use Rattle.std.specs.Prelude.{◌≡◌, ℕ, List, [], Option, Some, None, MatchOption}
use Rattle.std.specs.Fmt.{decimal}
use Rattle.base64.specs.Engines.{standard}
use Rattle.base64.specs.GeneralPurpose.{encode_of}
use Rattle.domain_svcb.specs.Lists.{item_texts, with_commas}
use Rattle.domain_svcb.specs.Values.{given, octets_value}
use Rattle.domain_svcb.specs.declared.value.KnownValue.{KnownValue}
use Rattle.domain_svcb.specs.declared.value.KnownValue.TheVariants.{Nothing, Number, Items, Base64, Plain}

-- its text, with the sign of equality
abbrev pub known_text : KnownValue → List ℕ
known_text Nothing = []
known_text (Number n) = given (decimal n)
known_text (Items list) = given (with_commas (item_texts list.kind list.octets.now))
known_text (Base64 octets) = given (encode_of standard octets.now)
known_text (Plain value) = octets_value value.octets.now

-- The value is known and has this text; or there is neither.
abbrev pub HasText : Option (List ℕ) → Option KnownValue → Type 0
HasText text value = MatchOption value (text ≡ None) (λ it. text ≡ Some (known_text it))
