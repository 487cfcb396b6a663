-- Places of a message, and the message that it was there.
use Rattle.std.specs.Prelude.{◌≡◌, List, ◌++◌, ℕ, length, take}
use Rattle.domain_message_builder.specs.Pushes.{SameSettings}
use Rattle.domain_message_builder.specs.State.{State}
use Rattle.domain_message_builder.specs.declared.mark.Mark.{Mark}

-- where the message is now
abbrev pub place_of : State → Mark
place_of s = record { counts = s.counts; starts = s.starts; len = length s.octets }

-- the message as it was at the mark, with the header that it has now
abbrev pub state_at : Mark → State → State
state_at mark s = record s { counts = mark.counts; starts = mark.starts; octets = take mark.len s.octets }

-- Octets came after those that were there. Header, limit and what is set aside are as before.
pub record Grows (old new : State) : Type 0 where
  pub octets : List ℕ
  pub all : new.octets ≡ old.octets ++ octets
  pub settings : SameSettings old new
