-- A response for the mail of a name.
use Rattle.std.specs.Prelude.{◌≡◌, ℕ, List, [], ◌∷◌, ◌++◌, true}
use Rattle.std.specs.Int.{w16, to_be_bytes}
use Rattle.octseq.specs.declared.builder.ShortBuf.{ShortBuf}
use Rattle.octseq.specs.declared.octets.Octets.{Ghosts}
use Rattle.domain_wire.specs.declared.net.Ipv4Addr.{Ipv4Addr}
use Rattle.domain_wire.specs.Addresses.{ipv4_octets}
use Rattle.domain_header.specs.Headers.{header_octets, counts_octets, section_header, section_counts}
use Rattle.domain_header.specs.declared.header.HeaderSection.{HeaderSection}
use Rattle.domain_name.specs.declared.absolute.Name.{Name}
use Rattle.domain_name.specs.Names.{name_labels}
use Rattle.domain_rdata.specs.declared.record_data.ComposeRdataError.{ComposeRdataError}
use Rattle.domain_rdata.specs.ReadBack.{Exceeds}
use Rattle.domain_rdata.specs.RecordData.{NameOctets}
use Rattle.domain_fields.specs.Sequences.{BothComposed}
use Rattle.domain_message.specs.Composing.{QuestionOctets, RecordOctets, ComposeRecordRefused}

-- The header: the identifier, the bit QR alone, one question, one answer and one additional record (RFC 1035, 4.1.1).
abbrev pub response_octets : ℕ → List ℕ
response_octets id = to_be_bytes w16 id ++ (128 ∷ 0 ∷ 0 ∷ 1 ∷ 0 ∷ 1 ∷ 0 ∷ 0 ∷ 0 ∷ 1 ∷ [])

-- the octets that a header section is written as
abbrev pub section_octets : HeaderSection → List ℕ
section_octets s = header_octets (section_header s) ++ counts_octets (section_counts s)

-- The data of an MX record of the preference 10 (RFC 1035, 3.3.9), after the octets t.
abbrev pub MailData : List (List ℕ) → List ℕ → List ℕ → Type 0
MailData host = BothComposed (λ t s. s ≡ to_be_bytes w16 10) (NameOctets host true)

-- The data of an A record (RFC 1035, 3.4.1).
abbrev pub AddressData : Ipv4Addr → List ℕ → List ℕ → Type 0
AddressData addr t s = s ≡ ipv4_octets addr

-- The message is the header, the question for the MX records of the name, the MX record that names the host, and the A
-- record of the host. Both records have the class IN and a TTL of an hour (RFC 1035, 4.1). Names may be compressed.
pub record IsMailResponse (id : ℕ) (name host : List (List ℕ)) (addr : Ipv4Addr) (m : List ℕ) : Type 0 where
  pub question : List ℕ
  pub has_question : QuestionOctets name 15 1 true (response_octets id) question
  pub mail : List ℕ
  pub has_mail : RecordOctets name 15 1 3600 (MailData host) true (response_octets id ++ question) mail
  pub address : List ℕ
  pub has_address : RecordOctets host 1 1 3600 (AddressData addr) true (response_octets id ++ question ++ mail) address
  pub all : m ≡ response_octets id ++ question ++ mail ++ address

-- The octets up to a part that may be composed so exceed 512.
pub data ExceedsMessage (id : ℕ) (name host : List (List ℕ)) (addr : Ipv4Addr) : Type 0 where
  no_question : Exceeds (QuestionOctets name 15 1 true (response_octets id)) (response_octets id) 512 → ExceedsMessage id name host addr
  no_mail : (question : List ℕ) → QuestionOctets name 15 1 true (response_octets id) question
      → (e : ComposeRdataError ShortBuf) → ComposeRecordRefused name 15 1 3600 (MailData host) true (response_octets id ++ question) 512 e → ExceedsMessage id name host addr
  no_address : (question mail : List ℕ) → QuestionOctets name 15 1 true (response_octets id) question
      → RecordOctets name 15 1 3600 (MailData host) true (response_octets id ++ question) mail
      → (e : ComposeRdataError ShortBuf) → ComposeRecordRefused host 1 1 3600 (AddressData addr) true (response_octets id ++ question ++ mail) 512 e → ExceedsMessage id name host addr

-- The octets are the response that tells these two names' host for mail (`IsMailResponse`).
abbrev pub TellsMail : {O P : Type 0} {g : Ghosts O} {h : Ghosts P} → (id : ℕ) → Name O g → Name P h → Ipv4Addr → List ℕ → Type 0
TellsMail id name host addr m = IsMailResponse id (name_labels name) (name_labels host) addr m

-- With these two names it would be too long (`ExceedsMessage`).
abbrev pub MailIsTooLong : {O P : Type 0} {g : Ghosts O} {h : Ghosts P} → (id : ℕ) → Name O g → Name P h → Ipv4Addr → Type 0
MailIsTooLong id name host addr = ExceedsMessage id (name_labels name) (name_labels host) addr
