-- What a parser reads as fields. `encodes` and `fails_with` tell where a value is, and why none is; `model` what is
-- seen of a value.
use Rattle.std.specs.Prelude.{ℕ, List}
use Rattle.octseq.specs.Parsing.{message, position}
use Rattle.octseq.specs.declared.parse.Parser.{Parser}
use Rattle.domain_wire.specs.Refusals.{Refusal}
use Rattle.domain_fields.specs.Data.{AllAt, NotAll}

-- The value is where the parser stood, up to where it stands.
abbrev pub ReadsValue : {F View : Type 0} → (List ℕ → ℕ → View → ℕ → Type 0) → (F → View) → Parser → Parser → F → Type 0
ReadsValue encodes model old new value = encodes (message old) (position old) (model value) (position new)

-- The value is, and has all octets from there on.
abbrev pub ReadsAll : {F View : Type 0} → (List ℕ → ℕ → View → ℕ → Type 0) → (F → View) → Parser → Parser → F → Type 0
ReadsAll encodes model old new value = AllAt encodes (message old) (position old) (model value) (position new)

-- No value has all octets from where the parser stood, and why.
abbrev pub NoneHasAll : {View E : Type 0} → (E → Refusal) → (List ℕ → ℕ → View → ℕ → Type 0) → (List ℕ → ℕ → E → Type 0) → Parser → E → Type 0
NoneHasAll said encodes fails_with old e = NotAll said encodes fails_with (message old) (position old) e
