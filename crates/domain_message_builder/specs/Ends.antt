-- The steps by which an answer is finished.
use Rattle.std.specs.Prelude.{◌≡◌, ℕ, Bool, true, Option, None, Some}
use Rattle.domain_message.specs.declared.section.Section.TheVariants.{Answer}
use Rattle.domain_message_builder.specs.Cuts.{PushesOpt, Truncates, CannotAddOpt, HasNoRoomFor, EndsHeader}
use Rattle.domain_message_builder.specs.Errors.{is_for_room}
use Rattle.domain_message_builder.specs.Opt.{Opt}
use Rattle.domain_message_builder.specs.SectionStarts.{start_of}
use Rattle.domain_message_builder.specs.Pushes.{with_header}
use Rattle.domain_message_builder.specs.State.{State}
use Rattle.domain_message_builder.specs.declared.error.PushError.{PushError}

-- Only TC was set, if the answer is cut.
pub record MarksCut (cut : Bool) (old new : State) : Type 0 where
  pub header : EndsHeader cut old.header new.header
  pub others : new ≡ with_header new.header old

-- The OPT record was pushed, or, where it can't be pushed after the records, instead of them, and TC was set.
pub data KeepsOpt (compresses : Bool) (o : Opt) (capacity : ℕ) (old new : State) : Type 0 where
  beside : PushesOpt compresses o old new → KeepsOpt compresses o capacity old new
  instead : CannotAddOpt o capacity old → (mid : State) → Truncates compresses old mid → PushesOpt compresses o mid new → KeepsOpt compresses o capacity old new

-- It has no room even after the questions alone.
pub record LosesOpt {E : Type 0} (o : Opt) (capacity : ℕ) (s : State) (e : PushError E) : Type 0 where
  pub for_room : is_for_room e ≡ true
  pub no_room : HasNoRoomFor o (start_of Answer s.starts) capacity s.limit

-- The same of an OPT record, if there is one.
abbrev pub KeepsOpts : Bool → Option Opt → ℕ → State → State → Type 0
KeepsOpts compresses None capacity old new = new ≡ old
KeepsOpts compresses (Some o) capacity old new = KeepsOpt compresses o capacity old new

abbrev pub LosesOpts : {E : Type 0} → Option Opt → ℕ → State → PushError E → Type 0
LosesOpts None capacity s e = ⊥
LosesOpts (Some o) capacity s e = LosesOpt o capacity s e
