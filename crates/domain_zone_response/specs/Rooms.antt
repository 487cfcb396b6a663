-- Why there is no room for a response.
use Rattle.std.specs.Prelude.{◌≡◌, ℕ, ◌+◌, ◌<◌, ◌≤◌, ◌⊎◌, Bool, List, length, Option, Some}
use Rattle.domain_message.specs.Entries.{QuestionFields}
use Rattle.domain_message_builder.specs.Answers.{BeginsWithQuestion, CannotAsk}
use Rattle.domain_message_builder.specs.Builders.{state, target_room}
use Rattle.domain_message_builder.specs.Contents.{Holds, no_content}
use Rattle.domain_message_builder.specs.Cuts.{CannotAddOpt, HasNoRoomFor}
use Rattle.domain_message_builder.specs.Opt.{Opt}
use Rattle.domain_message_builder.specs.SectionStarts.{start_of}
use Rattle.domain_message_builder.specs.State.{State}
use Rattle.domain_message_builder.specs.declared.builder.MessageBuilder.{MessageBuilder}
use Rattle.domain_message.specs.declared.section.Section.TheVariants.{Answer}
use Rattle.domain_rdata.specs.Members.{ComposerMembers}
use Rattle.domain_zone_response.specs.Edns.{response_opt, opt_len}
use Rattle.domain_zone_response.specs.Queries.{Asked, TellsOpt}
use Rattle.domain_zone_response.specs.Responses.{AskedIn, RepeatsQuestion, asking}
use Rattle.domain_zone_response.specs.declared.edns.Server.{Server}

-- The target isn't empty, or has no room for the header's twelve octets, or none for these, the first question of the
-- query and the OPT record of the response.
pub data LacksRoom (compresses : Bool) (server : Server) (capacity : ℕ) (octets m : List ℕ) : Type 0 where
  not_empty : 0 < length octets → LacksRoom compresses server capacity octets m
  no_header : capacity < 12 → LacksRoom compresses server capacity octets m
  no_entry : (asked : Asked) (u : List ℕ) → TellsOpt m asked → AskedIn compresses m u → capacity < length u + opt_len (response_opt server.payload_size asked 0) → LacksRoom compresses server capacity octets m

-- No message of at most `limit` octets can be begun on the target, of which so many are set aside.
abbrev pub CannotBegin : {T : Type 0} → ComposerMembers T → T → ℕ → ℕ → Type 0
CannotBegin g target limit aside = (0 < length (g.octets target)) ⊎ ((g.capacity target < 12) ⊎ (limit < 12 + aside))

-- The OPT record can't be pushed.
abbrev pub OptDoesNotFit : {T E : Type 0} {g : _} {h : _} {i : _} {j : _} {k : _} {l : _}
    → Option Opt → MessageBuilder T E g h i j k l → Type 0
OptDoesNotFit opt b = (o : Opt) × (opt ≡ Some o) × CannotAddOpt o (target_room b) (state b)

-- The OPT record has no room, even directly after the question.
abbrev pub OptNeverFits : {T E : Type 0} {g : _} {h : _} {i : _} {j : _} {k : _} {l : _}
    → Option Opt → MessageBuilder T E g h i j k l → Type 0
OptNeverFits opt b =
    (o : Opt) × (opt ≡ Some o) × HasNoRoomFor o (start_of Answer (state b).starts) (target_room b) (state b).limit

-- The question can't be pushed.
abbrev pub CannotBeAsked : {T E : Type 0} {g : _} {h : _} {i : _} {j : _} {k : _} {l : _}
    → QuestionFields → MessageBuilder T E g h i j k l → Type 0
CannotBeAsked {g = g} q b = CannotAsk g.compresses q (state b) (target_room b)

-- One of the entries of a refusal can't be: the question, or the OPT record after it, where the message held nothing.
pub data LacksEntryOf (compresses : Bool) (m : List ℕ) (opt : Option Opt) (capacity : ℕ) (a : State) : Type 0 where
  question_of : (q : QuestionFields) → BeginsWithQuestion m q → CannotAsk compresses q a capacity → LacksEntryOf compresses m opt capacity a
  opt_of : (o : Opt) (qs : List QuestionFields) (s : State) (room : ℕ) → opt ≡ Some o → RepeatsQuestion m qs → (Holds compresses a no_content → Holds compresses s (asking qs)) → s.limit ≡ a.limit → capacity ≤ room → CannotAddOpt o room s
      → LacksEntryOf compresses m opt capacity a

abbrev pub RefusalDoesNotFit : {T E : Type 0} {g : _} {h : _} {i : _} {j : _} {k : _} {l : _}
    → List ℕ → Option Opt → MessageBuilder T E g h i j k l → Type 0
RefusalDoesNotFit {g = g} m opt b = LacksEntryOf g.compresses m opt (target_room b) (state b)
