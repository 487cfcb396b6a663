-- A host that exchanges keys, as the data of a record has it.
use Rattle.std.specs.Prelude.{ℕ, List}
use Rattle.std.specs.Int.{w16, from_be_bytes}
use Rattle.octseq.specs.declared.parse.Parser.{Parser}
use Rattle.octseq.specs.Parsing.{message, position}
use Rattle.domain_wire.specs.Values.{FixedAt}
use Rattle.domain_data.specs.Data.{AllAt}
use Rattle.domain_data.specs.Names.{NameFieldAt}
use Rattle.domain_data.specs.Sequences.{BothAt}

-- A number and the name of a host stand there, and end where the octets do and the parser was moved to.
abbrev pub HasExchanger : Parser → (number : ℕ) → (host : List (List ℕ)) → Parser → Type 0
HasExchanger old number host new =
    AllAt (BothAt (FixedAt 2 (from_be_bytes w16)) NameFieldAt) (message old) (position old) (number, host) (position new)
