-- Hosts that take mail, and addresses of hosts, among the records of a message.
use Rattle.std.specs.Prelude.{◌≡◌, ℕ, ◌<◌, ◌≤◌, ◌⊎◌, List, [], ◌∷◌, ◌++◌, length, Option, Some, None, All, option_map}
use Rattle.octseq.specs.declared.octets.Octets.{Ghosts}
use Rattle.domain_wire.specs.declared.error.ParseError.{ParseError}
use Rattle.domain_wire.specs.declared.net.Ipv4Addr.{Ipv4Addr}
use Rattle.domain_wire.specs.Addresses.{ipv4_of}
use Rattle.domain_wire.specs.Refusals.{refusal}
use Rattle.domain_wire.specs.Values.{FixedAt, ShortAt}
use Rattle.domain_label.specs.Lowercase.{lowercase_labels}
use Rattle.domain_header.specs.Numbers.{number16}
use Rattle.domain_message.specs.Entries.{RecordFields, RecordAt, NoRecord}
use Rattle.domain_message.specs.Sections.{Run, QuestionsTo, AuthorityTo, NoQuestions, NoAuthority}
use Rattle.domain_fields.specs.Data.{AllAt, NotAll}
use Rattle.domain_parsed.specs.declared.parsed.ParsedName.{ParsedName}
use Rattle.domain_parsed.specs.ParsedNames.{parsed_labels}
use Rattle.domain_data.specs.Shapes.{NumberNameAt, NoNumberName}

-- a preference and the name of a host (RFC 1035, 3.3.9)
abbrev pub Host : Type 0
Host = ℕ × List (List ℕ)

-- The record is an MX record with this data.
pub record IsMail (it : RecordFields) (host : Host) : Type 0 where
  pub mx : it.header.rtype ≡ 15
  pub end : ℕ
  pub data_is : AllAt NumberNameAt it.octets it.start host end

-- The MX records among these have this data, in their order.
abbrev pub HaveMail : List RecordFields → List Host → Type 0
HaveMail [] hosts = hosts ≡ []
HaveMail (it ∷ its) hosts = ((it.header.rtype ≡ 15 → ⊥) × HaveMail its hosts) ⊎ ((host : Host) × (rest : List Host) × (hosts ≡ host ∷ rest) × IsMail it host × HaveMail its rest)

-- The host is the first of those with the lowest number.
pub record IsPreferred (hosts : List Host) (host : Host) : Type 0 where
  pub before : List Host
  pub after : List Host
  pub all : hosts ≡ before ++ (host ∷ after)
  pub above : All (λ other. host.0 < other.0) before
  pub not_below : All (λ other. host.0 ≤ other.0) after

-- The name of the preferred host. None: there are no hosts.
abbrev pub PreferredName : List Host → Option (List (List ℕ)) → Type 0
PreferredName hosts None = hosts ≡ []
PreferredName hosts (Some name) = (number : ℕ) × IsPreferred hosts (number, name)

-- The preferred host of the MX records of the answers, which are all there.
pub record PrefersHost (m : List ℕ) (found : Option (List (List ℕ))) : Type 0 where
  pub start : ℕ
  pub questions : QuestionsTo m start
  pub answers : List RecordFields
  pub count : length answers ≡ number16 m 6
  pub end : ℕ
  pub run : Run RecordAt m start answers end
  pub hosts : List Host
  pub mail : HaveMail answers hosts
  pub preferred : PreferredName hosts found

-- The record is an A record with this address (RFC 1035, 3.4.1).
pub record IsAddressRecord (it : RecordFields) (addr : Ipv4Addr) : Type 0 where
  pub a : it.header.rtype ≡ 1
  pub end : ℕ
  pub data_is : AllAt (FixedAt 4 ipv4_of) it.octets it.start addr end

-- The owner of the record is the host, ignoring ASCII case.
abbrev pub IsOf : RecordFields → List (List ℕ) → Type 0
IsOf it host = lowercase_labels it.header.owner ≡ lowercase_labels host

-- The record has no address of the host: it is of another type, or is an A record of another owner.
abbrev pub HasNoAddressOf : List (List ℕ) → RecordFields → Type 0
HasNoAddressOf host it = (it.header.rtype ≡ 1 → ⊥) ⊎ ((addr : Ipv4Addr) × IsAddressRecord it addr × (IsOf it host → ⊥))

-- Of n records at p a first one is an A record of the host, with this address.
pub record FirstAddress (m : List ℕ) (p n : ℕ) (host : List (List ℕ)) (addr : Ipv4Addr) : Type 0 where
  pub before : List RecordFields
  pub others : All (HasNoAddressOf host) before
  pub few : length before < n
  pub offset : ℕ
  pub run : Run RecordAt m p before offset
  pub it : RecordFields
  pub end : ℕ
  pub at : RecordAt m offset it end
  pub address : IsAddressRecord it addr
  pub owner : IsOf it host

-- The n records at p are all there, and none has an address of the host.
pub record NoAddress (m : List ℕ) (p n : ℕ) (host : List (List ℕ)) : Type 0 where
  pub records : List RecordFields
  pub others : All (HasNoAddressOf host) records
  pub count : length records ≡ n
  pub end : ℕ
  pub run : Run RecordAt m p records end

-- What the additional section has for a host: the address of the first A record, or none.
abbrev pub AddressOf : List ℕ → ℕ → List (List ℕ) → Option Ipv4Addr → Type 0
AddressOf m start host None = NoAddress m start (number16 m 10) host
AddressOf m start host (Some addr) = FirstAddress m start (number16 m 10) host addr

abbrev pub FindsAddress : List ℕ → List (List ℕ) → Option Ipv4Addr → Type 0
FindsAddress m host found = (start : ℕ) × AuthorityTo m start × AddressOf m start host found

-- Of n records at p the first ones are as Read says. The next is missing, or is of the type t and its data is refused,
-- and why.
pub record StopsAtRecord (t : ℕ) (Read : List RecordFields → Type 0) (Refused : List ℕ → ℕ → ParseError → Type 0) (m : List ℕ) (p n : ℕ) (why : ParseError) : Type 0 where
  pub before : List RecordFields
  pub read : Read before
  pub few : length before < n
  pub offset : ℕ
  pub run : Run RecordAt m p before offset
  pub stops : NoRecord m offset why ⊎ ((it : RecordFields) × (end : ℕ) × RecordAt m offset it end × (it.header.rtype ≡ t) × Refused it.octets it.start why)

-- Why the answers can't be searched for hosts.
abbrev pub MailRefused : List ℕ → ParseError → Type 0
MailRefused m why = NoQuestions m why ⊎ ((start : ℕ) × QuestionsTo m start × StopsAtRecord 15 (λ its. (hosts : List Host) × HaveMail its hosts) (NotAll refusal NumberNameAt NoNumberName) m start (number16 m 6) why)

-- Why the additional section can't be searched for an address of the host.
abbrev pub AddressRefused : List ℕ → List (List ℕ) → ParseError → Type 0
AddressRefused m host why = NoAuthority m why ⊎ ((start : ℕ) × AuthorityTo m start × StopsAtRecord 1 (All (HasNoAddressOf host)) (NotAll refusal (FixedAt 4 ipv4_of) (ShortAt 4)) m start (number16 m 10) why)

-- The name that was found in a message, or none, is the preferred host (`PrefersHost`).
abbrev pub Prefers : {O : Type 0} {g : Ghosts O} → List ℕ → Option (ParsedName O g) → Type 0
Prefers m found = PrefersHost m (option_map (λ name. parsed_labels name) found)
