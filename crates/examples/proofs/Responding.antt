-- What was composed of a response.
use Rattle.std.proofs.Common.{◌≡◌, ℕ, List, [], ◌++◌, append-nil, sym, ap, subst, ◌∙◌}
use Rattle.std.specs.Prelude.{Result, Ok, Err, Option, Some, None, OnOk, IfErr, true}
use Rattle.std.specs.Int.{w16, to_be_bytes}
use Rattle.std.specs.Result.{result_ok}
use Rattle.std.proofs.lemmas.Option.{none-some}
use Rattle.octseq.specs.declared.builder.ShortBuf.{ShortBuf}
use Rattle.domain_wire.specs.declared.net.Ipv4Addr.{Ipv4Addr}
use Rattle.domain_header.specs.Headers.{header_octets, counts_octets, section_header, section_counts}
use Rattle.domain_header.specs.declared.header.HeaderSection.{HeaderSection}
use Rattle.domain_rdata.specs.declared.record_data.ComposeRdataError.{ComposeRdataError}
use Rattle.domain_rdata.specs.ReadBack.{Appended}
use Rattle.domain_rdata.specs.RecordData.{NameOctets}
use Rattle.domain_fields.specs.Sequences.{BothComposed}
use Rattle.domain_message.specs.Composing.{QuestionOctets, RecordOctets, ComposeRecordRefused}
use Rattle.examples.specs.Responses.{response_octets, section_octets, MailData, AddressData, IsMailResponse, ExceedsMessage}
use Rattle.examples.specs.Responses.ExceedsMessage.{no_mail, no_address}

-- what a result says whose value `ok` gave
pub of_ok : {A E : Type 0} (r : Result A E) (o : Option A) (x : A) (P : Type 0) → o ≡ result_ok r → o ≡ Some x → OnOk r P → P
of_ok (Ok y) o x P made is held = held
of_ok (Err e) o x P made is held = absurd (none-some x (sym made ∙ is))

-- what a result says of its error, where `ok` gave nothing
pub of_err : {A E : Type 0} (r : Result A E) (o : Option A) (P : E → Type 0) → o ≡ result_ok r → o ≡ None → IfErr r P → (e : E) × P e
of_err (Ok y) o P made is held = absurd (none-some y (sym is ∙ made))
of_err (Err e) o P made is held = (e, held)

-- the octets of the header, appended to none
pub head_is : (o m z old : List ℕ) (section : HeaderSection) (id : ℕ) → old ≡ [] → o ≡ old ++ m → m ≡ header_octets (section_header section) ++ (counts_octets (section_counts section) ++ z) → z ≡ [] → section_octets section ≡ response_octets id → o ≡ response_octets id
head_is o m z old section id empty is written none told =
    is ∙ (ap (λ x. x ++ m) empty ∙ (written ∙ (ap (λ x. header_octets (section_header section) ++ (counts_octets (section_counts section) ++ x)) none ∙ (ap (λ x. header_octets (section_header section) ++ x) (append-nil (counts_octets (section_counts section))) ∙ told))))

-- what holds of a question holds by its parts
pub same_question : (P : List (List ℕ) → ℕ → ℕ → Type 0) (n n' : List (List ℕ)) (r r' k k' : ℕ) → n ≡ n' → r ≡ r' → k ≡ k' → P n r k → P n' r' k'
same_question P n n' r r' k k' name rtype class held =
    subst (λ x. P n' r' x) class (subst (λ x. P n' x k) rtype (subst (λ x. P x r k) name held))

-- the same of a record with a number and a name
pub same_mail : (P : List (List ℕ) → ℕ → ℕ → (List ℕ → List ℕ → Type 0) → Type 0) (n n' e e' : List (List ℕ)) (k k' l l' p p' : ℕ) → n ≡ n' → k ≡ k' → l ≡ l' → p ≡ p' → e ≡ e'
    → P n k l (BothComposed (λ t s. s ≡ to_be_bytes w16 p) (NameOctets e true)) → P n' k' l' (BothComposed (λ t s. s ≡ to_be_bytes w16 p') (NameOctets e' true))
same_mail P n n' e e' k k' l l' p p' owner class ttl number name held =
    subst (λ x. P n' k' l' (BothComposed (λ t s. s ≡ to_be_bytes w16 p') (NameOctets x true))) name (subst (λ x. P n' k' l' (BothComposed (λ t s. s ≡ to_be_bytes w16 x) (NameOctets e true))) number (same_question (λ a b c. P a b c (BothComposed (λ t s. s ≡ to_be_bytes w16 p) (NameOctets e true))) n n' k k' l l' owner class ttl held))

-- the same of a record with an address
pub same_address : (P : List (List ℕ) → ℕ → ℕ → (List ℕ → List ℕ → Type 0) → Type 0) (n n' : List (List ℕ)) (k k' l l' : ℕ) (a a' : Ipv4Addr) → n ≡ n' → k ≡ k' → l ≡ l' → a ≡ a' → P n k l (AddressData a) → P n' k' l' (AddressData a')
same_address P n n' k k' l l' a a' owner class ttl addr held =
    subst (λ x. P n' k' l' (AddressData x)) addr (same_question (λ b c d. P b c d (AddressData a)) n n' k k' l l' owner class ttl held)

-- The octets of a response up to its records.
abbrev pub UpToRecords : ℕ → List (List ℕ) → List ℕ → Type 0
UpToRecords id name o = Appended (QuestionOctets name 15 1 true (response_octets id)) (response_octets id) o

pub up_to_records : (id : ℕ) (name : List (List ℕ)) (head o : List ℕ) → head ≡ response_octets id → Appended (QuestionOctets name 15 1 true head) head o → UpToRecords id name o
up_to_records id name head o is question = subst (λ t. Appended (QuestionOctets name 15 1 true t) t o) is question

-- The octets of a response up to its second record.
pub record UpToAddress (id : ℕ) (name host : List (List ℕ)) (o : List ℕ) : Type 0 where
  pub question : List ℕ
  pub has_question : QuestionOctets name 15 1 true (response_octets id) question
  pub mail : Appended (RecordOctets name 15 1 3600 (MailData host) true (response_octets id ++ question)) (response_octets id ++ question) o

pub up_to_address : (id : ℕ) (name host : List (List ℕ)) (mid o : List ℕ) → UpToRecords id name mid → Appended (RecordOctets name 15 1 3600 (MailData host) true mid) mid o → UpToAddress id name host o
up_to_address id name host mid o before mail = record {
  question = before.octets;
  has_question = before.allowed;
  mail = subst (λ t. Appended (RecordOctets name 15 1 3600 (MailData host) true t) t o) before.all mail;
}

-- the whole response
pub is_mail_response : (id : ℕ) (name host : List (List ℕ)) (addr : Ipv4Addr) (mid o : List ℕ) → UpToAddress id name host mid → Appended (RecordOctets host 1 1 3600 (AddressData addr) true mid) mid o → IsMailResponse id name host addr o
is_mail_response id name host addr mid o before address =
    let whole = subst (λ t. Appended (RecordOctets host 1 1 3600 (AddressData addr) true t) t o) before.mail.all address in
    record {
      question = before.question;
      has_question = before.has_question;
      mail = before.mail.octets;
      has_mail = before.mail.allowed;
      address = whole.octets;
      has_address = whole.allowed;
      all = whole.all;
    }

-- the first record exceeds the octets
pub mail_exceeds : (id : ℕ) (name host : List (List ℕ)) (addr : Ipv4Addr) (mid : List ℕ) (e : ComposeRdataError ShortBuf) → UpToRecords id name mid → ComposeRecordRefused name 15 1 3600 (MailData host) true mid 512 e → ExceedsMessage id name host addr
mail_exceeds id name host addr mid e before refused =
    no_mail before.octets before.allowed e (subst (λ t. ComposeRecordRefused name 15 1 3600 (MailData host) true t 512 e) before.all refused)

-- the second record does
pub address_exceeds : (id : ℕ) (name host : List (List ℕ)) (addr : Ipv4Addr) (mid : List ℕ) (e : ComposeRdataError ShortBuf) → UpToAddress id name host mid → ComposeRecordRefused host 1 1 3600 (AddressData addr) true mid 512 e → ExceedsMessage id name host addr
address_exceeds id name host addr mid e before refused =
    no_address before.question before.mail.octets before.has_question before.mail.allowed e (subst (λ t. ComposeRecordRefused host 1 1 3600 (AddressData addr) true t 512 e) before.mail.all refused)
