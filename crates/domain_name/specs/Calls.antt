-- Calls of a builder, one after another.
use Rattle.std.specs.Prelude.{◌≡◌, ◌≢◌, ℕ, ◌+◌, ◌<◌, ◌≤◌, ◌⊎◌, Bool, true, false, Option, Some, None, List, [], ◌∷◌, length}
use Rattle.std.specs.Fmt.{decimal}
use Rattle.std.specs.Str.{chars}
use Rattle.domain_label.specs.Spelling.{JustOne, ReadsSymbols}
use Rattle.domain_builder.specs.BuilderState.{BuilderState, size, pushed, ended, labelled, named, symbol_fault, after, Makes, StopsAt, LacksRoom}
use Rattle.domain_builder.specs.Inside.{Held, room}
use Rattle.domain_builder.specs.Reverse.{hex_label}
use Rattle.domain_builder.specs.NameSymbols.{Items, name_symbols, symbol_in_name}
use Rattle.domain_builder.specs.declared.name_symbol.NameSymbol.TheVariants.{Dot}
use Rattle.domain_name.specs.declared.calls.BuilderCall.{BuilderCall}
use Rattle.domain_name.specs.declared.calls.BuilderCall.TheVariants.{Push, PushSymbol, AppendSlice, EndLabel, AppendLabel, AppendDecU8Label, AppendHexDigitLabel, AppendName, AppendChars}
use Rattle.domain_builder.specs.declared.name_symbol.TextFault.{TextFault}
use Rattle.domain_name.specs.Names.{relative_octets, relative_labels}

-- A label of `label` octets and a whole of `whole` octets are short enough.
abbrev pub Fits : ℕ → ℕ → Type 0
Fits label whole = (label ≤ 63) × (whole ≤ 254)

-- They aren't, or they exceed the capacity.
abbrev pub ExceedsLimits : ℕ → ℕ → ℕ → Type 0
ExceedsLimits room label whole = (63 < label) ⊎ ((254 < whole) ⊎ (room < whole))

-- What a call that succeeds makes.
abbrev pub Accepted : BuilderState → BuilderCall → BuilderState → Type 0
Accepted b (Push c) new = (new ≡ pushed b (c ∷ [])) × Fits (length new.open_label) (size new)
Accepted b (PushSymbol s) new = (symbol_fault b (symbol_in_name s) ≡ None) × (new ≡ after b (symbol_in_name s))
Accepted b (AppendSlice s) new = (new ≡ pushed b s.now) × (0 < length s.now → Fits (length new.open_label) (size new))
Accepted b EndLabel new = new ≡ ended b
Accepted b (AppendLabel s) new = (new ≡ labelled b s.now) × Fits (length s.now) (size new)
Accepted b (AppendDecU8Label n) new = (new ≡ labelled b (decimal n)) × (size new ≤ 254)
Accepted b (AppendHexDigitLabel n) new = (new ≡ labelled b (hex_label n)) × (size new ≤ 254)
Accepted b (AppendName n) new = (new ≡ named b (relative_labels n)) × (size new ≤ 254)
Accepted b (AppendChars s) new = (items : Items) → ReadsSymbols (chars s.now) items → Makes b (name_symbols items) new

-- All of them are too many octets, or exceed the capacity.
abbrev pub IsTooMuch : ℕ → ℕ → Type 0
IsTooMuch room whole = (254 < whole) ⊎ (room < whole)

-- Why a call fails. One that adds no octets never does. It changes nothing, but that symbols of a text that were added
-- are kept.
abbrev pub PassedOver : ℕ → BuilderState → BuilderCall → BuilderState → Type 0
PassedOver room b (Push c) new = (new ≡ b) × ExceedsLimits room (length (pushed b (c ∷ [])).open_label) (size (pushed b (c ∷ [])))
PassedOver room b (PushSymbol s) new = (new ≡ b) × (((f : TextFault) × (symbol_fault b (symbol_in_name s) ≡ Some f)) ⊎ ((symbol_fault b (symbol_in_name s) ≡ None) × (symbol_in_name s ≢ Dot) × (room < size (after b (symbol_in_name s)))))
PassedOver room b (AppendSlice s) new = (0 < length s.now) × (new ≡ b) × ExceedsLimits room (length (pushed b s.now).open_label) (size (pushed b s.now))
PassedOver room b EndLabel new = ⊥
PassedOver room b (AppendLabel s) new = (0 < length s.now) × (new ≡ b) × ExceedsLimits room (length s.now) (size (labelled b s.now))
PassedOver room b (AppendDecU8Label n) new = (new ≡ b) × IsTooMuch room (size (labelled b (decimal n)))
PassedOver room b (AppendHexDigitLabel n) new = (new ≡ b) × IsTooMuch room (size (labelled b (hex_label n)))
PassedOver room b (AppendName n) new = (0 < length (relative_octets n)) × (new ≡ b) × IsTooMuch room (size (named b (relative_labels n)))
PassedOver room b (AppendChars s) new = (items : Items) → ReadsSymbols (chars s.now) items → ((f : TextFault) × StopsAt b (name_symbols items) new f) ⊎ LacksRoom room b (name_symbols items) new

-- A call succeeds. No capacity is lost.
abbrev pub TakesCall : Held → BuilderCall → Held → Type 0
TakesCall b call new = Accepted b.built call new.built × (b.capacity ≤ new.capacity)

-- A call fails. The capacity is that which it leaves, and may have grown.
abbrev pub PassesOver : Option ℕ → Held → BuilderCall → Held → Type 0
PassesOver limit b call new = PassedOver (room limit new) b.built call new.built × (b.capacity ≤ new.capacity)

-- One call, whether it succeeds or not.
abbrev pub Applies : Option ℕ → Held → BuilderCall → Held → Bool → Type 0
Applies limit b call new true = TakesCall b call new
Applies limit b call new false = PassesOver limit b call new

-- Calls in turn, n of which succeed. Each goes on from what the one before it left, the capacity too.
abbrev pub AppliesAll : Option ℕ → Held → List BuilderCall → Held → ℕ → Type 0
AppliesAll limit b [] new n = (new ≡ b) × (n ≡ 0)
AppliesAll limit b (call ∷ calls) new n = (m : Held) × ((TakesCall b call m × ((k : ℕ) × (n ≡ k + 1) × AppliesAll limit m calls new k)) ⊎ (PassesOver limit b call m × AppliesAll limit m calls new n))

-- What calls in turn may make, and how many of them may succeed.
abbrev pub MayEnd : Option ℕ → Held → List BuilderCall → BuilderState × ℕ → Type 0
MayEnd limit b calls end = (capacity : ℕ) × AppliesAll limit b calls (record { built = end.0; capacity = capacity }) end.1

-- Calls in turn have one outcome.
abbrev pub OneOutcome : Option ℕ → Held → List BuilderCall → Type 0
OneOutcome limit b calls = JustOne (MayEnd limit b calls)
