-- What contracts have as the members of a trait and of those above it, as one record, and what a record says by them.
use Rattle.std.specs.Prelude.{ℕ, Bool, List, Option}
use Rattle.domain_rdata.specs.Members.{DataMembers, Writing}
use Rattle.domain_message.specs.RecordParts.{data_of}
use Rattle.domain_message.specs.declared.resource_record.Record.{Record}
use Rattle.domain_message_builder.specs.Contents.{RecordHead}
use Rattle.domain_message_builder.specs.Pushes.{headed}

-- what a clause has as `D.ReadBackData`
abbrev pub ReadBackMembers : Type 0 → Type 1
ReadBackMembers D = record {
  type_number : D → ℕ;
  composed : D → Bool → List ℕ → List ℕ → Type 0;
  written : D → Writing;
  uncompressed : D → List ℕ;
  lowercase : D → Option (List ℕ);
  knows_len : D → Bool → Bool;
  Seen : Type 0;
  seen_at : ℕ → List ℕ → ℕ → Seen → ℕ → Type 0;
  like : D → Seen → Type 0;
}

-- what a record says before the length of its data
abbrev pub head_of : {N D : Type 0} → (N → List (List ℕ)) → DataMembers D → Record N D → RecordHead
head_of labels d r = headed labels d.type_number r

-- the octets that its data may be composed into, after others
abbrev pub data_octets_of : {N D : Type 0} → DataMembers D → Bool → Record N D → List ℕ → List ℕ → Type 0
data_octets_of d compresses r = d.composed (data_of r) compresses
