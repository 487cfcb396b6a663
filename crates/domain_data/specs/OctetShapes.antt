-- Where the fields of record data with strings and other octets are, and that each is a reading.
use Rattle.std.specs.Prelude.{ℕ, List}
use Rattle.std.specs.Int.{w8, from_be_bytes}
use Rattle.domain_wire.specs.declared.error.ParseError.{ParseError}
use Rattle.domain_wire.specs.FixedLength.{fixed_reading}
use Rattle.domain_wire.specs.Refusals.{refusal}
use Rattle.domain_wire.specs.Values.{IsReading, FixedAt, ShortAt}
use Rattle.domain_fields.specs.Data.{AllAt, NotAll}
use Rattle.domain_fields.specs.Names.{NameFieldAt, NoNameField, name_reading}
use Rattle.domain_fields.specs.Reading.{IsReadingOf, any_reading}
use Rattle.domain_fields.specs.Sequences.{BothAt, NotBoth, both_reading}
use Rattle.domain_rdata.specs.AnyData.{IsAllThatIsLeft, TooMuchIsLeft}
use Rattle.domain_rdata.specs.UnknownReading.{all_that_is_left}
use Rattle.domain_strings.specs.CharStrings.{CharStringAt, NoCharString}
use Rattle.domain_strings.specs.CharStringLaws.{char_string_reading}
use Rattle.domain_strings.specs.TagLaws.{tag_reading}
use Rattle.domain_strings.specs.Tags.{TagAt, NoTag}
use Rattle.domain_dnssec.specs.BitmapReading.{BitmapsAt, NoBitmaps, bitmaps_reading}
use Rattle.domain_data.specs.Shapes.{Number16At, Number32At, all_data, number16, one_more, name_before}

-- a number of 8 bits
abbrev pub Number8At : List ℕ → ℕ → ℕ → ℕ → Type 0
Number8At = FixedAt 1 (from_be_bytes w8)

-- two strings: HINFO
abbrev pub StringsAt : List ℕ → ℕ → List ℕ × List ℕ → ℕ → Type 0
StringsAt = BothAt CharStringAt CharStringAt

-- the first of these that isn't there
abbrev pub NoStrings : List ℕ → ℕ → ParseError → Type 0
NoStrings = NotBoth CharStringAt NoCharString NoCharString

-- three strings and a name
abbrev pub StringsNameAt : List ℕ → ℕ → List ℕ × (List ℕ × (List ℕ × List (List ℕ))) → ℕ → Type 0
StringsNameAt = BothAt CharStringAt (BothAt CharStringAt (BothAt CharStringAt NameFieldAt))

-- the first of these that isn't there
abbrev pub NoStringsName : List ℕ → ℕ → ParseError → Type 0
NoStringsName = NotBoth CharStringAt NoCharString (NotBoth CharStringAt NoCharString (NotBoth CharStringAt NoCharString NoNameField))

-- two numbers of 16 bits, three strings and a name: NAPTR
abbrev pub RuleAt : List ℕ → ℕ → ℕ × (ℕ × (List ℕ × (List ℕ × (List ℕ × List (List ℕ))))) → ℕ → Type 0
RuleAt = BothAt Number16At (BothAt Number16At StringsNameAt)

-- the first of these that isn't there
abbrev pub NoRule : List ℕ → ℕ → ParseError → Type 0
NoRule = NotBoth Number16At (ShortAt 2) (NotBoth Number16At (ShortAt 2) NoStringsName)

-- two numbers of 8 bits and all remaining octets: SSHFP
abbrev pub FingerprintAt : List ℕ → ℕ → ℕ × (ℕ × List ℕ) → ℕ → Type 0
FingerprintAt = BothAt Number8At (BothAt Number8At IsAllThatIsLeft)

-- the first of these that isn't there
abbrev pub NoFingerprint : List ℕ → ℕ → ParseError → Type 0
NoFingerprint = NotBoth Number8At (ShortAt 1) (NotBoth Number8At (ShortAt 1) TooMuchIsLeft)

-- a number of 16 bits, two of 8 bits and all remaining octets: DS and DNSKEY
abbrev pub KeyAt : List ℕ → ℕ → ℕ × (ℕ × (ℕ × List ℕ)) → ℕ → Type 0
KeyAt = BothAt Number16At FingerprintAt

-- the first of these that isn't there
abbrev pub NoKey : List ℕ → ℕ → ParseError → Type 0
NoKey = NotBoth Number16At (ShortAt 2) NoFingerprint

-- three numbers of 8 bits and all remaining octets: TLSA
abbrev pub AssociationAt : List ℕ → ℕ → ℕ × (ℕ × (ℕ × List ℕ)) → ℕ → Type 0
AssociationAt = BothAt Number8At FingerprintAt

-- the first of these that isn't there
abbrev pub NoAssociation : List ℕ → ℕ → ParseError → Type 0
NoAssociation = NotBoth Number8At (ShortAt 1) NoFingerprint

-- a number of 8 bits, a tag and all remaining octets: CAA
abbrev pub PropertyAt : List ℕ → ℕ → ℕ × (List ℕ × List ℕ) → ℕ → Type 0
PropertyAt = BothAt Number8At (BothAt TagAt IsAllThatIsLeft)

-- the first of these that isn't there
abbrev pub NoProperty : List ℕ → ℕ → ParseError → Type 0
NoProperty = NotBoth Number8At (ShortAt 1) (NotBoth TagAt NoTag TooMuchIsLeft)

-- a number of 16 bits, a name and all remaining octets
abbrev pub SignerAt : List ℕ → ℕ → ℕ × (List (List ℕ) × List ℕ) → ℕ → Type 0
SignerAt = BothAt Number16At (BothAt NameFieldAt IsAllThatIsLeft)

-- the first of these that isn't there
abbrev pub NoSigner : List ℕ → ℕ → ParseError → Type 0
NoSigner = NotBoth Number16At (ShortAt 2) (NotBoth NameFieldAt NoNameField TooMuchIsLeft)

-- three numbers of 32 bits before these
abbrev pub TimesAt : List ℕ → ℕ → ℕ × (ℕ × (ℕ × (ℕ × (List (List ℕ) × List ℕ)))) → ℕ → Type 0
TimesAt = BothAt Number32At (BothAt Number32At (BothAt Number32At SignerAt))

-- the first of these that isn't there
abbrev pub NoTimes : List ℕ → ℕ → ParseError → Type 0
NoTimes = NotBoth Number32At (ShortAt 4) (NotBoth Number32At (ShortAt 4) (NotBoth Number32At (ShortAt 4) NoSigner))

-- a number of 16 bits and two of 8 bits before these: RRSIG
abbrev pub SignatureAt : List ℕ → ℕ → ℕ × (ℕ × (ℕ × (ℕ × (ℕ × (ℕ × (ℕ × (List (List ℕ) × List ℕ))))))) → ℕ → Type 0
SignatureAt = BothAt Number16At (BothAt Number8At (BothAt Number8At TimesAt))

-- the first of these that isn't there
abbrev pub NoSignature : List ℕ → ℕ → ParseError → Type 0
NoSignature = NotBoth Number16At (ShortAt 2) (NotBoth Number8At (ShortAt 1) (NotBoth Number8At (ShortAt 1) NoTimes))

-- a name and bitmaps of types: NSEC
abbrev pub DenialAt : List ℕ → ℕ → List (List ℕ) × List (ℕ × List ℕ) → ℕ → Type 0
DenialAt = BothAt NameFieldAt BitmapsAt

-- the first of these that isn't there
abbrev pub NoDenial : List ℕ → ℕ → ParseError → Type 0
NoDenial = NotBoth NameFieldAt NoNameField NoBitmaps

string : IsReadingOf refusal CharStringAt NoCharString
string = any_reading char_string_reading

octets : IsReadingOf refusal IsAllThatIsLeft TooMuchIsLeft
octets = any_reading all_that_is_left

number8_before : {A : Type 0} (R : List ℕ → ℕ → A → ℕ → Type 0) (NR : List ℕ → ℕ → ParseError → Type 0) → IsReadingOf refusal R NR → IsReadingOf refusal (BothAt Number8At R) (NotBoth Number8At (ShortAt 1) NR)
number8_before R NR rest = both_reading refusal Number8At R (ShortAt 1) NR (any_reading (fixed_reading 1 (from_be_bytes w8))) rest

number16_before : {A : Type 0} (R : List ℕ → ℕ → A → ℕ → Type 0) (NR : List ℕ → ℕ → ParseError → Type 0) → IsReadingOf refusal R NR → IsReadingOf refusal (BothAt Number16At R) (NotBoth Number16At (ShortAt 2) NR)
number16_before R NR rest = both_reading refusal Number16At R (ShortAt 2) NR number16 rest

string_before : {A : Type 0} (R : List ℕ → ℕ → A → ℕ → Type 0) (NR : List ℕ → ℕ → ParseError → Type 0) → IsReadingOf refusal R NR → IsReadingOf refusal (BothAt CharStringAt R) (NotBoth CharStringAt NoCharString NR)
string_before R NR rest = both_reading refusal CharStringAt R NoCharString NR string rest

strings_name : IsReadingOf refusal StringsNameAt NoStringsName
strings_name =
    string_before (BothAt CharStringAt (BothAt CharStringAt NameFieldAt)) (NotBoth CharStringAt NoCharString (NotBoth CharStringAt NoCharString NoNameField))
    (string_before (BothAt CharStringAt NameFieldAt) (NotBoth CharStringAt NoCharString NoNameField)
    (string_before NameFieldAt NoNameField (any_reading name_reading)))

fingerprint : IsReadingOf refusal FingerprintAt NoFingerprint
fingerprint = number8_before (BothAt Number8At IsAllThatIsLeft) (NotBoth Number8At (ShortAt 1) TooMuchIsLeft) (number8_before IsAllThatIsLeft TooMuchIsLeft octets)

pub strings_data : IsReading (AllAt StringsAt) (NotAll refusal StringsAt NoStrings)
strings_data = all_data StringsAt NoStrings (string_before CharStringAt NoCharString string)

pub rule_data : IsReading (AllAt RuleAt) (NotAll refusal RuleAt NoRule)
rule_data = all_data RuleAt NoRule (number16_before (BothAt Number16At StringsNameAt) (NotBoth Number16At (ShortAt 2) NoStringsName) (number16_before StringsNameAt NoStringsName strings_name))

pub fingerprint_data : IsReading (AllAt FingerprintAt) (NotAll refusal FingerprintAt NoFingerprint)
fingerprint_data = all_data FingerprintAt NoFingerprint fingerprint

pub key_data : IsReading (AllAt KeyAt) (NotAll refusal KeyAt NoKey)
key_data = all_data KeyAt NoKey (number16_before FingerprintAt NoFingerprint fingerprint)

pub association_data : IsReading (AllAt AssociationAt) (NotAll refusal AssociationAt NoAssociation)
association_data = all_data AssociationAt NoAssociation (number8_before FingerprintAt NoFingerprint fingerprint)

pub property_data : IsReading (AllAt PropertyAt) (NotAll refusal PropertyAt NoProperty)
property_data =
    all_data PropertyAt NoProperty
    (number8_before (BothAt TagAt IsAllThatIsLeft) (NotBoth TagAt NoTag TooMuchIsLeft)
    (both_reading refusal TagAt IsAllThatIsLeft NoTag TooMuchIsLeft (any_reading tag_reading) octets))

signer : IsReadingOf refusal SignerAt NoSigner
signer = number16_before (BothAt NameFieldAt IsAllThatIsLeft) (NotBoth NameFieldAt NoNameField TooMuchIsLeft) (name_before IsAllThatIsLeft TooMuchIsLeft octets)

times : IsReadingOf refusal TimesAt NoTimes
times =
    one_more (BothAt Number32At (BothAt Number32At SignerAt)) (NotBoth Number32At (ShortAt 4) (NotBoth Number32At (ShortAt 4) NoSigner))
    (one_more (BothAt Number32At SignerAt) (NotBoth Number32At (ShortAt 4) NoSigner) (one_more SignerAt NoSigner signer))

pub signature_data : IsReading (AllAt SignatureAt) (NotAll refusal SignatureAt NoSignature)
signature_data =
    all_data SignatureAt NoSignature
    (number16_before (BothAt Number8At (BothAt Number8At TimesAt)) (NotBoth Number8At (ShortAt 1) (NotBoth Number8At (ShortAt 1) NoTimes))
    (number8_before (BothAt Number8At TimesAt) (NotBoth Number8At (ShortAt 1) NoTimes) (number8_before TimesAt NoTimes times)))

pub denial_data : IsReading (AllAt DenialAt) (NotAll refusal DenialAt NoDenial)
denial_data = all_data DenialAt NoDenial (name_before BitmapsAt NoBitmaps (any_reading bitmaps_reading))
