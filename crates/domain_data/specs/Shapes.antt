-- Where the fields of record data are, type by type, and that each is a reading (RFC 1035, 3.3; RFC 2782).
use Rattle.std.specs.Prelude.{ℕ, List}
use Rattle.std.specs.Int.{w16, w32, from_be_bytes}
use Rattle.domain_wire.specs.declared.error.ParseError.{ParseError}
use Rattle.domain_wire.specs.Addresses.{ipv4_of, ipv6_of}
use Rattle.domain_wire.specs.FixedLength.{fixed_reading}
use Rattle.domain_wire.specs.Refusals.{refusal}
use Rattle.domain_wire.specs.Values.{IsReading, FixedAt, ShortAt}
use Rattle.domain_fields.specs.Data.{AllAt, NotAll, all_reading}
use Rattle.domain_fields.specs.Names.{NameFieldAt, NoNameField, name_reading}
use Rattle.domain_fields.specs.Reading.{IsReadingOf, any_reading, parse_reading}
use Rattle.domain_fields.specs.Sequences.{BothAt, NotBoth, both_reading}

-- a number of 16 bits
abbrev pub Number16At : List ℕ → ℕ → ℕ → ℕ → Type 0
Number16At = FixedAt 2 (from_be_bytes w16)

-- a number of 32 bits
abbrev pub Number32At : List ℕ → ℕ → ℕ → ℕ → Type 0
Number32At = FixedAt 4 (from_be_bytes w32)

-- a number of 16 bits and a name
abbrev pub NumberNameAt : List ℕ → ℕ → ℕ × List (List ℕ) → ℕ → Type 0
NumberNameAt = BothAt Number16At NameFieldAt

-- the first of these that isn't there
abbrev pub NoNumberName : List ℕ → ℕ → ParseError → Type 0
NoNumberName = NotBoth Number16At (ShortAt 2) NoNameField

-- three numbers of 16 bits and a name
abbrev pub NumbersNameAt : List ℕ → ℕ → ℕ × (ℕ × (ℕ × List (List ℕ))) → ℕ → Type 0
NumbersNameAt = BothAt Number16At (BothAt Number16At NumberNameAt)

-- the first of these that isn't there
abbrev pub NoNumbersName : List ℕ → ℕ → ParseError → Type 0
NoNumbersName = NotBoth Number16At (ShortAt 2) (NotBoth Number16At (ShortAt 2) NoNumberName)

-- five numbers of 32 bits
abbrev pub NumbersAt : List ℕ → ℕ → ℕ × (ℕ × (ℕ × (ℕ × ℕ))) → ℕ → Type 0
NumbersAt = BothAt Number32At (BothAt Number32At (BothAt Number32At (BothAt Number32At Number32At)))

-- the first of these that isn't there
abbrev pub NoNumbers : List ℕ → ℕ → ParseError → Type 0
NoNumbers = NotBoth Number32At (ShortAt 4) (NotBoth Number32At (ShortAt 4) (NotBoth Number32At (ShortAt 4) (NotBoth Number32At (ShortAt 4) (ShortAt 4))))

-- two names and five numbers of 32 bits
abbrev pub NamesNumbersAt : List ℕ → ℕ → List (List ℕ) × (List (List ℕ) × (ℕ × (ℕ × (ℕ × (ℕ × ℕ))))) → ℕ → Type 0
NamesNumbersAt = BothAt NameFieldAt (BothAt NameFieldAt NumbersAt)

-- the first of these that isn't there
abbrev pub NoNamesNumbers : List ℕ → ℕ → ParseError → Type 0
NoNamesNumbers = NotBoth NameFieldAt NoNameField (NotBoth NameFieldAt NoNameField NoNumbers)

-- two names
abbrev pub NamesAt : List ℕ → ℕ → List (List ℕ) × List (List ℕ) → ℕ → Type 0
NamesAt = BothAt NameFieldAt NameFieldAt

-- the first of these that isn't there
abbrev pub NoNames : List ℕ → ℕ → ParseError → Type 0
NoNames = NotBoth NameFieldAt NoNameField NoNameField

-- a number of 16 bits and two names
abbrev pub NumberNamesAt : List ℕ → ℕ → ℕ × (List (List ℕ) × List (List ℕ)) → ℕ → Type 0
NumberNamesAt = BothAt Number16At NamesAt

-- the first of these that isn't there
abbrev pub NoNumberNames : List ℕ → ℕ → ParseError → Type 0
NoNumberNames = NotBoth Number16At (ShortAt 2) NoNames

a_name : IsReadingOf refusal NameFieldAt NoNameField
a_name = any_reading name_reading

pub number16 : IsReadingOf refusal Number16At (ShortAt 2)
number16 = any_reading (fixed_reading 2 (from_be_bytes w16))

number32 : IsReadingOf refusal Number32At (ShortAt 4)
number32 = any_reading (fixed_reading 4 (from_be_bytes w32))

number_name : IsReadingOf refusal NumberNameAt NoNumberName
number_name = both_reading refusal Number16At NameFieldAt (ShortAt 2) NoNameField number16 a_name

two_numbers_name : IsReadingOf refusal (BothAt Number16At NumberNameAt) (NotBoth Number16At (ShortAt 2) NoNumberName)
two_numbers_name = both_reading refusal Number16At NumberNameAt (ShortAt 2) NoNumberName number16 number_name

numbers_name : IsReadingOf refusal NumbersNameAt NoNumbersName
numbers_name = both_reading refusal Number16At (BothAt Number16At NumberNameAt) (ShortAt 2) (NotBoth Number16At (ShortAt 2) NoNumberName) number16 two_numbers_name

-- a number of 32 bits before numbers
pub one_more : {A : Type 0} (R : List ℕ → ℕ → A → ℕ → Type 0) (NR : List ℕ → ℕ → ParseError → Type 0) → IsReadingOf refusal R NR → IsReadingOf refusal (BothAt Number32At R) (NotBoth Number32At (ShortAt 4) NR)
one_more R NR rest = both_reading refusal Number32At R (ShortAt 4) NR number32 rest

-- a name before other fields
pub name_before : {A : Type 0} (R : List ℕ → ℕ → A → ℕ → Type 0) (NR : List ℕ → ℕ → ParseError → Type 0) → IsReadingOf refusal R NR → IsReadingOf refusal (BothAt NameFieldAt R) (NotBoth NameFieldAt NoNameField NR)
name_before R NR rest = both_reading refusal NameFieldAt R NoNameField NR a_name rest

two_numbers : IsReadingOf refusal (BothAt Number32At Number32At) (NotBoth Number32At (ShortAt 4) (ShortAt 4))
two_numbers = one_more Number32At (ShortAt 4) number32

three_numbers : IsReadingOf refusal (BothAt Number32At (BothAt Number32At Number32At)) (NotBoth Number32At (ShortAt 4) (NotBoth Number32At (ShortAt 4) (ShortAt 4)))
three_numbers = one_more (BothAt Number32At Number32At) (NotBoth Number32At (ShortAt 4) (ShortAt 4)) two_numbers

four_numbers : IsReadingOf refusal (BothAt Number32At (BothAt Number32At (BothAt Number32At Number32At))) (NotBoth Number32At (ShortAt 4) (NotBoth Number32At (ShortAt 4) (NotBoth Number32At (ShortAt 4) (ShortAt 4))))
four_numbers = one_more (BothAt Number32At (BothAt Number32At Number32At)) (NotBoth Number32At (ShortAt 4) (NotBoth Number32At (ShortAt 4) (ShortAt 4))) three_numbers

numbers : IsReadingOf refusal NumbersAt NoNumbers
numbers = one_more (BothAt Number32At (BothAt Number32At (BothAt Number32At Number32At))) (NotBoth Number32At (ShortAt 4) (NotBoth Number32At (ShortAt 4) (NotBoth Number32At (ShortAt 4) (ShortAt 4)))) four_numbers

two_names : IsReadingOf refusal NamesAt NoNames
two_names = name_before NameFieldAt NoNameField a_name

number_names : IsReadingOf refusal NumberNamesAt NoNumberNames
number_names = both_reading refusal Number16At NamesAt (ShortAt 2) NoNames number16 two_names

name_numbers : IsReadingOf refusal (BothAt NameFieldAt NumbersAt) (NotBoth NameFieldAt NoNameField NoNumbers)
name_numbers = name_before NumbersAt NoNumbers numbers

names_numbers : IsReadingOf refusal NamesNumbersAt NoNamesNumbers
names_numbers = name_before (BothAt NameFieldAt NumbersAt) (NotBoth NameFieldAt NoNameField NoNumbers) name_numbers

-- fields that must take all remaining octets
pub all_data : {A : Type 0} (At : List ℕ → ℕ → A → ℕ → Type 0) (No : List ℕ → ℕ → ParseError → Type 0) → IsReadingOf refusal At No → IsReading (AllAt At) (NotAll refusal At No)
all_data At No law = parse_reading (all_reading refusal At No law)

pub name_data : IsReading (AllAt NameFieldAt) (NotAll refusal NameFieldAt NoNameField)
name_data = all_data NameFieldAt NoNameField a_name

pub number_name_data : IsReading (AllAt NumberNameAt) (NotAll refusal NumberNameAt NoNumberName)
number_name_data = all_data NumberNameAt NoNumberName number_name

pub numbers_name_data : IsReading (AllAt NumbersNameAt) (NotAll refusal NumbersNameAt NoNumbersName)
numbers_name_data = all_data NumbersNameAt NoNumbersName numbers_name

pub names_numbers_data : IsReading (AllAt NamesNumbersAt) (NotAll refusal NamesNumbersAt NoNamesNumbers)
names_numbers_data = all_data NamesNumbersAt NoNamesNumbers names_numbers

pub names_data : IsReading (AllAt NamesAt) (NotAll refusal NamesAt NoNames)
names_data = all_data NamesAt NoNames two_names

pub number_names_data : IsReading (AllAt NumberNamesAt) (NotAll refusal NumberNamesAt NoNumberNames)
number_names_data = all_data NumberNamesAt NoNumberNames number_names

pub ipv4_data : IsReading (AllAt (FixedAt 4 ipv4_of)) (NotAll refusal (FixedAt 4 ipv4_of) (ShortAt 4))
ipv4_data = all_data (FixedAt 4 ipv4_of) (ShortAt 4) (any_reading (fixed_reading 4 ipv4_of))

pub ipv6_data : IsReading (AllAt (FixedAt 16 ipv6_of)) (NotAll refusal (FixedAt 16 ipv6_of) (ShortAt 16))
ipv6_data = all_data (FixedAt 16 ipv6_of) (ShortAt 16) (any_reading (fixed_reading 16 ipv6_of))
