-- Names, numbers and addresses in the data of records (RFC 1035, 3.3 and 4.1.4). The data are octets of the message
-- from p on, so many, of class IN.
use Rattle.std.specs.Prelude.{◌≡◌, ◌⊎◌, ℕ, ◌+◌, List, slice_range, Some, take}
use Rattle.domain_descriptor.specs.Rdatas.{field_kind, field_message, field_begin, field_after}
use Rattle.domain_descriptor.specs.Values.{number_in}
use Rattle.domain_descriptor.specs.declared.rdata.Field.{Field}
use Rattle.domain_label.specs.Wire.{wire}
use Rattle.domain_reading.specs.Grammar.{Names}
use Rattle.domain_reading.specs.Limits.{max_pointers}
use Rattle.dnsnames_c.specs.Answers.{Gives}
use Rattle.dnsnames_c.specs.Wanted.{HasWanted, LacksWanted, lack_number}
use Rattle.dnsnames_c.specs.declared.wanted.FieldFault.{FieldFault}
use Rattle.dnsnames_c.specs.declared.wanted.Wanted.{Wanted}
use Rattle.dnsnames_c.specs.declared.wanted.Wanted.TheVariants.{Name, Number, Address}

-- There is no such field: the number is that of why, and nothing changed.
abbrev pub GivesNoField : Wanted → List ℕ → ℕ → ℕ → ℕ → ℕ → ℕ → Type 0
GivesNoField wanted message p len rtype index status =
    (why : FieldFault) × LacksWanted wanted message p len rtype index why × (status ≡ lack_number why)

-- The name at q in m was given.
abbrev pub GivesNameAt : List ℕ → ℕ → ℕ → List ℕ → List ℕ → ℕ → Type 0
GivesNameAt m q status old new len =
    (ls : List (List ℕ)) × Names max_pointers m q ls × Gives (wire ls) status old new len

-- The name with `index` names before it was given; or there is none, and nothing changed.
abbrev pub GivesDataName : List ℕ → ℕ → ℕ → ℕ → ℕ → ℕ → List ℕ → List ℕ → ℕ → ℕ → Type 0
GivesDataName message p data_len rtype index status old new old_len len =
    ((it : Field) × HasWanted Name message p data_len rtype index it
    × GivesNameAt (take (p + data_len) message) (field_begin it) status old new len)
    ⊎ (GivesNoField Name message p data_len rtype index status × (new ≡ old) × (len ≡ old_len))

-- The number of at most 32 bits with `index` such numbers before it was given (0); or there is none, and nothing
-- changed.
abbrev pub GivesDataNumber : List ℕ → ℕ → ℕ → ℕ → ℕ → ℕ → ℕ → ℕ → Type 0
GivesDataNumber message p data_len rtype index status old new =
    ((status ≡ 0) × (it : Field) × HasWanted Number message p data_len rtype index it
    × (number_in (field_kind it) (field_message it) (field_begin it) ≡ Some new))
    ⊎ (GivesNoField Number message p data_len rtype index status × (new ≡ old))

-- The first address was given; or there is none, and nothing changed.
abbrev pub GivesDataAddress : List ℕ → ℕ → ℕ → ℕ → ℕ → List ℕ → List ℕ → ℕ → ℕ → Type 0
GivesDataAddress message p data_len rtype status old new old_len len =
    ((it : Field) × HasWanted Address message p data_len rtype 0 it
    × Gives (slice_range (field_message it) (field_begin it) (field_after it)) status old new len)
    ⊎ (GivesNoField Address message p data_len rtype 0 status × (new ≡ old) × (len ≡ old_len))
