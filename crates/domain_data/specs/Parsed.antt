-- Fields that are read at a parser's position.
use Rattle.std.specs.Prelude.{ℕ, List}
use Rattle.octseq.specs.declared.parse.Parser.{Parser}
use Rattle.octseq.specs.Parsing.{message, position}
use Rattle.domain_wire.specs.Refusals.{Refusal}
use Rattle.domain_fields.specs.Data.{AllAt, NotAll}

-- What `At` describes is present and takes all remaining octets, and the parser was moved to its end.
abbrev pub HasAll : {A : Type 0} → (At : List ℕ → ℕ → A → ℕ → Type 0) → Parser → A → Parser → Type 0
HasAll At old it new = AllAt At (message old) (position old) it (position new)

-- It isn't there, or octets are left after it, and why.
abbrev pub LacksAll : {A E : Type 0} → (said : E → Refusal) → (At : List ℕ → ℕ → A → ℕ → Type 0) → (No : List ℕ → ℕ → E → Type 0) → Parser → E → Type 0
LacksAll said At No p why = NotAll said At No (message p) (position p) why
