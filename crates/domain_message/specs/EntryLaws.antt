-- The statements of the laws for callers: what is composed is read back.
use Rattle.std.specs.Prelude.{◌≡◌, ℕ, ◌+◌, ◌^◌, ◌<◌, Bool, List, ◌++◌, length, take}
use Rattle.domain_label.specs.Lowercase.{lowercase_labels}
use Rattle.domain_message.specs.Composing.{QuestionOctets, RecordOctets}
use Rattle.domain_message.specs.Entries.{QuestionAt, RecordAt}

-- A question that was composed is read back, whatever follows it: an equal name, ignoring ASCII case, and its type and
-- class.
abbrev pub QuestionReadsBack : Type 0
QuestionReadsBack =
    (name : List (List ℕ)) (rtype class : ℕ) (compresses : Bool) (t s u : List ℕ) → rtype < 2 ^ 16
    → class < 2 ^ 16 → QuestionOctets name rtype class compresses t s
    → (c : List (List ℕ)) × QuestionAt (t ++ s ++ u) (length t)
    (record { name = c; rtype = rtype; class = class }) (length t + length s)
    × (lowercase_labels c ≡ lowercase_labels name)

-- The data of a composed record is at the end of the octets that it is read from, and starts at the offset `start`. It
-- can be composed after the octets before it.
pub record DataStands (May : List ℕ → List ℕ → Type 0) (m : List ℕ) (start : ℕ)
    (rdata : List ℕ) : Type 0 where
  pub before : List ℕ
  pub start_is : start ≡ length before
  pub allowed : May before rdata
  pub all : m ≡ before ++ rdata

-- A record that was composed, whose data may be the octets that May has, is read back, whatever follows it: an equal
-- owner's name, ignoring ASCII case, its type, class and TTL, and its data, which is the octets that were composed for
-- it and stands as it was composed. So what is read back of such data (`ReadBackData`) is read of the record.
abbrev pub RecordReadsBack : (List ℕ → List ℕ → Type 0) → Bool → Type 0
RecordReadsBack May compresses =
    (owner : List (List ℕ)) (rtype class ttl : ℕ) (t s u : List ℕ) → rtype < 2 ^ 16 → class < 2 ^ 16
    → ttl < 2 ^ 32 → (done : RecordOctets owner rtype class ttl May compresses t s)
    → (c : List (List ℕ)) × RecordAt (t ++ s ++ u) (length t)
    (record {
      header = record {
        owner = c;
        rtype = rtype;
        class = class;
        ttl = ttl;
        rdlen = length done.rdata;
      };
      start = length t + length done.named + 10;
      octets = take (length t + length s) (t ++ s ++ u);
    }) (length t + length s)
    × (lowercase_labels c ≡ lowercase_labels owner)
    × DataStands May (take (length t + length s) (t ++ s ++ u)) (length t + length done.named + 10)
    done.rdata

-- Each record with data of a type is read back so. `composed` states the octets that its data can be composed into.
abbrev pub RecordsReadBack : {D : Type 0} → (D → Bool → List ℕ → List ℕ → Type 0) → Type 0
RecordsReadBack {D = D} composed =
    (it : D) (compresses : Bool) → RecordReadsBack (composed it compresses) compresses
