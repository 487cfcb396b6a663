-- What a parser reads as record data. `encodes` and `fails_with` tell where data of a type is, and why none is;
-- `model` what is seen of data.
use Rattle.std.specs.Prelude.{◌≡◌, ℕ, List, Option, IfSome}
use Rattle.octseq.specs.Parsing.{message, position}
use Rattle.octseq.specs.declared.parse.Parser.{Parser}
use Rattle.domain_wire.specs.declared.error.ParseError.{ParseError}
use Rattle.domain_rdata.specs.Rtypes.{rtype_number}
use Rattle.domain_rdata.specs.declared.rtype.Rtype.{Rtype}

-- The data is of this type.
abbrev pub IsOfType : {D : Type 0} → (D → ℕ) → Rtype → D → Type 0
IsOfType type_number rtype it = type_number it ≡ rtype_number rtype

-- The data of this type is where the parser stood, up to where it stands.
abbrev pub ReadsData : {D View : Type 0} → (ℕ → List ℕ → ℕ → View → ℕ → Type 0) → Rtype → (D → View) → Parser → Parser → D → Type 0
ReadsData encodes rtype model old new it = encodes (rtype_number rtype) (message old) (position old) (model it) (position new)

-- So is the data, where there is some.
abbrev pub ReadsIfSome : {D View : Type 0} → (ℕ → List ℕ → ℕ → View → ℕ → Type 0) → Rtype → (D → View) → Parser → Parser → Option D → Type 0
ReadsIfSome encodes rtype model old new read = IfSome read (λ it. ReadsData encodes rtype model old new it)

-- No data of this type is where the parser stood, and why.
abbrev pub HasNoData : (ℕ → List ℕ → ℕ → ParseError → Type 0) → Rtype → Parser → ParseError → Type 0
HasNoData fails_with rtype old e = fails_with (rtype_number rtype) (message old) (position old) e
