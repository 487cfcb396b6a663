-- What may be composed of a question and of a record, from what they hold. `labels` gives those of a name, `number`
-- the number of the data's type, and `composed` what may be composed for data.
use Rattle.std.specs.Prelude.{◌≡◌, ℕ, ◌≤◌, Bool, List, ◌++◌}
use Rattle.domain_rdata.specs.declared.record_data.ComposeRdataError.{ComposeRdataError}
use Rattle.domain_rdata.specs.ReadBack.{Exceeds}
use Rattle.domain_rdata.specs.Rtypes.{rtype_number}
use Rattle.domain_header.specs.Values.{class_number, ttl_seconds}
use Rattle.domain_message.specs.declared.question.Question.{Question}
use Rattle.domain_message.specs.declared.resource_record.Record.{Record}
use Rattle.domain_message.specs.Composing.{type_and_class, before_length, QuestionOctets, RecordOctets, ComposeRecordRefused}
use Rattle.domain_message.specs.RecordParts.{owner_of, class_of, ttl_of, data_of}
use Rattle.domain_message.specs.EntryViews.{question_name, question_type, question_class}

-- the four octets after the name of a question
abbrev pub after_qname : {N : Type 0} → Question N → List ℕ
after_qname q = type_and_class (rtype_number (question_type q)) (class_number (question_class q))

-- The octets are some that are allowed for a name, and these after it.
abbrev pub IsNameThen : (List ℕ → Type 0) → List ℕ → List ℕ → Type 0
IsNameThen May after s = (named : List ℕ) × May named × (s ≡ named ++ after)

-- Nothing of a record was composed: the owner's name, as the target may then write it, and these numbers exceed the
-- spare capacity; or the data was refused after them, with no less room. `Refuses t room e`: after the octets t it is
-- refused so.
pub data RefusesRecord {T E : Type 0} (octets : T → List ℕ) (May : List ℕ → Type 0)
    (appends : T → T → Type 0) (numbers : List ℕ) (Refuses : List ℕ → ℕ → E → Type 0) (old : T)
    (capacity : ℕ) (e : E) : Type 0 where
  at_owner : Exceeds (IsNameThen May numbers) (octets old) capacity
      → RefusesRecord octets May appends numbers Refuses old capacity e
  at_data : (named : T) (room : ℕ) → appends old named → capacity ≤ room
      → Refuses (octets named ++ numbers) room e
      → RefusesRecord octets May appends numbers Refuses old capacity e

-- The question may be composed into these octets after t.
abbrev pub MayComposeQuestion : {N : Type 0} → (N → List (List ℕ)) → Question N → Bool → List ℕ
    → List ℕ → Type 0
MayComposeQuestion labels q compresses t =
    QuestionOctets (labels (question_name q)) (rtype_number (question_type q))
    (class_number (question_class q)) compresses t

-- the eight octets after the name of a record: type, class and TTL
abbrev pub after_owner : {N D : Type 0} → (D → ℕ) → Record N D → List ℕ
after_owner number r =
    before_length (number (data_of r)) (class_number (class_of r)) (ttl_seconds (ttl_of r))

-- The record may be composed into these octets after t.
abbrev pub MayComposeRecord : {N D : Type 0} → (N → List (List ℕ)) → (D → ℕ)
    → (D → Bool → List ℕ → List ℕ → Type 0) → Record N D → Bool → List ℕ → List ℕ → Type 0
MayComposeRecord labels number composed r compresses t =
    RecordOctets (labels (owner_of r)) (number (data_of r)) (class_number (class_of r))
    (ttl_seconds (ttl_of r)) (composed (data_of r) compresses) compresses t

-- Nothing of the record was composed after t, and why.
abbrev pub MayRefuseRecord : {N D E : Type 0} → (N → List (List ℕ)) → (D → ℕ)
    → (D → Bool → List ℕ → List ℕ → Type 0) → Record N D → Bool → List ℕ → ℕ → ComposeRdataError E
    → Type 0
MayRefuseRecord labels number composed r compresses t capacity e =
    ComposeRecordRefused (labels (owner_of r)) (number (data_of r)) (class_number (class_of r))
    (ttl_seconds (ttl_of r)) (composed (data_of r) compresses) compresses t capacity e
