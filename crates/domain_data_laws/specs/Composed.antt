-- Data that stands where it was composed.
use Rattle.std.specs.Prelude.{◌≡◌, ℕ, Bool, List, ◌++◌, length}
use Rattle.octseq.specs.Parsing.{message, position}
use Rattle.octseq.specs.declared.parse.Parser.{Parser}
use Rattle.domain_rdata.specs.Members.{DataMembers}

-- `d` is `⟦<D as ComposeRecordData>⟧`. The parser stands before octets that were composed for the data, which are its
-- last.
abbrev pub StandsComposed : {D : Type 0} → DataMembers D → D → Parser → Type 0
StandsComposed d it parser =
    (compresses : Bool) × (t : List ℕ) × (s : List ℕ) × d.composed it compresses t s
    × (message parser ≡ t ++ s) × (position parser ≡ length t)
