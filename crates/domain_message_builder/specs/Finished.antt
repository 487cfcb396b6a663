-- The octets of a message that was finished.
use Rattle.std.specs.Prelude.{◌≡◌, ℕ, Bool, List, ◌++◌, drop, Option}
use Rattle.domain_header.specs.Headers.{header_octets, counts_octets}
use Rattle.domain_message_builder.specs.Ends.{MarksCut, KeepsOpts}
use Rattle.domain_message_builder.specs.Opt.{Opt}
use Rattle.domain_message_builder.specs.State.{State}

-- the header and the counts in twelve octets (RFC 1035, 4.1.1), and what was composed after them
abbrev pub finished_octets : State → List ℕ
finished_octets s = header_octets s.header ++ (counts_octets s.counts ++ drop 12 s.octets)

-- The octets are those of what was pushed, with TC if the answer is cut. The OPT record, if there is one, comes after
-- the records or instead of them.
pub record EndsIn (compresses cut : Bool) (opt : Option Opt) (capacity : ℕ) (s : State) (m : List ℕ) : Type 0 where
  pub marked : State
  pub end : State
  pub marks : MarksCut cut s marked
  pub keeps : KeepsOpts compresses opt capacity marked end
  pub octets : m ≡ finished_octets end
