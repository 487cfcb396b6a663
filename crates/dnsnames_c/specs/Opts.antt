-- OPT records (RFC 6891, 6.1).
use Rattle.std.specs.Prelude.{◌≡◌, ◌⊎◌, ℕ, ◌+◌, ◌*◌, ◌%◌, ◌≤◌, ◌<◌, List, length, take, drop}
use Rattle.domain_message.specs.Options.{BeginsWithOption, EndsInOption}
use Rattle.domain_message.specs.OptRecords.{upper_code}

-- The type is that of an OPT record (0), or another (21).
abbrev pub TellsOptType : ℕ → ℕ → Type 0
TellsOptType rtype status = ((status ≡ 0) × (rtype ≡ 41)) ⊎ ((status ≡ 21) × (rtype ≡ 41 → ⊥))

-- the response code of twelve bits that the TTL of an OPT record and the flags of a header tell (RFC 6891, 6.1.3)
abbrev pub extended_code : ℕ → ℕ → ℕ
extended_code ttl flags = upper_code ttl * 16 + flags % 16

-- the sixteen flags of EDNS in the TTL of an OPT record, as DO and CO (RFC 6891, 6.1.4; RFC 3225, 3; RFC 9824, 5.1)
abbrev pub edns_flags : ℕ → ℕ
edns_flags ttl = ttl % 65536

-- the octets of the data from p on, so many, after those that were passed
abbrev pub left_of : List ℕ → ℕ → ℕ → ℕ → List ℕ
left_of message p len passed = drop (p + passed) (take (p + len) message)

-- The octets of the message from p on, so many, are data of an OPT record, and all of them were passed.
pub record NoOptionLeft (message : List ℕ) (p len rtype passed : ℕ) : Type 0 where
  pub typed : rtype ≡ 41
  pub inside : p + len ≤ length message
  pub all : len ≤ passed

-- After those that were passed comes an option of this code with these data, and it ends inside the record's.
pub record HasOption (message : List ℕ) (p len rtype passed code : ℕ) (octets : List ℕ) : Type 0 where
  pub typed : rtype ≡ 41
  pub inside : p + len ≤ length message
  pub some : passed < len
  pub rest : List ℕ
  pub option : BeginsWithOption (left_of message p len passed) code octets rest
  pub ends : passed + 4 + length octets ≤ len

-- The type is that of an OPT record, but the data end past the message, or in the option.
abbrev pub CutOption : List ℕ → ℕ → ℕ → ℕ → ℕ → Type 0
CutOption message p len rtype passed =
    ((rtype ≡ 41) × (length message < p + len))
    ⊎ ((rtype ≡ 41) × (p + len ≤ length message) × (passed < len)
    × EndsInOption (left_of message p len passed))

-- No option comes there, and the number of why: all were passed (27), the type is another (21), or the octets end too
-- soon (1).
abbrev pub GivesNoOption : List ℕ → ℕ → ℕ → ℕ → ℕ → ℕ → Type 0
GivesNoOption message p len rtype status passed =
    ((status ≡ 27) × NoOptionLeft message p len rtype passed)
    ⊎ ((status ≡ 21) × (rtype ≡ 41 → ⊥))
    ⊎ ((status ≡ 1) × CutOption message p len rtype passed)

-- The option after the octets passed before was given, and is now passed with them (0). Otherwise no more octets are
-- passed.
abbrev pub GivesDataOption : List ℕ → ℕ → ℕ → ℕ → ℕ → ℕ → ℕ → ℕ → ℕ → ℕ → Type 0
GivesDataOption message p data_len rtype status old_passed passed code option len =
    ((status ≡ 0) × (octets : List ℕ) × HasOption message p data_len rtype old_passed code octets
    × (option ≡ p + old_passed + 4) × (len ≡ length octets)
    × (passed ≡ old_passed + 4 + length octets))
    ⊎ (GivesNoOption message p data_len rtype status old_passed × (passed ≡ old_passed))
