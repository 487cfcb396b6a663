-- When a builder refuses octets, and what its errors tell.
use Rattle.std.specs.Prelude.{◌≡◌, ◌≢◌, ℕ, ◌<◌, ◌≤◌, Option, Some, None, Result, Ok, Err, MatchResult, IfErr, List, length, codes}
use Rattle.domain_text.specs.BuilderState.{BuilderState, size, symbol_fault, after, Makes, StopsAt, LacksRoom}
use Rattle.domain_text.specs.TextErrors.{MatchFromStr}
use Rattle.domain_text.specs.declared.error.FromStrError.{FromStrError}
use Rattle.domain_text.specs.declared.error.FromStrError.TheVariants as short
use Rattle.domain_text.specs.declared.name_symbol.TextFault.TheVariants as fault
use Rattle.domain_text.specs.declared.name_symbol.NameSymbol.{NameSymbol}
use Rattle.domain_text.specs.declared.name_symbol.NameSymbol.TheVariants.{Dot}
use Rattle.domain_builder.specs.Inside.{Held, room}
use Rattle.domain_builder.specs.declared.push_error.PushNameError.{PushNameError}
use Rattle.domain_builder.specs.declared.push_error.PushNameError.TheVariants as name
use Rattle.domain_builder.specs.declared.push_error.PushError.{PushError}
use Rattle.domain_builder.specs.declared.push_error.PushError.TheVariants.{LongLabel, LongName, ShortBuf}

-- What holds at each error.
abbrev pub MatchPushError : PushError → Type 0 → Type 0 → Type 0 → Type 0
MatchPushError LongLabel P Q R = P
MatchPushError LongName P Q R = Q
MatchPushError ShortBuf P Q R = R

-- A call whose label would have `label` octets and the whole `whole`, where `room` octets fit without new memory. A
-- long label is reported first. Where neither is long, the call is refused only where the whole doesn't fit.
abbrev pub LabelThenName : (label whole room : ℕ) → Result (Unit {0}) PushError → Type 0
LabelThenName label whole room r =
    MatchResult r (λ _. (label ≤ 63) × (whole ≤ 254))
    (λ e. MatchPushError e (63 < label) ((label ≤ 63) × (254 < whole)) ((label ≤ 63) × (whole ≤ 254) × (room < whole)))

-- The same, where a long name is reported first.
abbrev pub NameThenLabel : (label whole room : ℕ) → Result (Unit {0}) PushError → Type 0
NameThenLabel label whole room r =
    MatchResult r (λ _. (label ≤ 63) × (whole ≤ 254))
    (λ e. MatchPushError e ((whole ≤ 254) × (63 < label)) (254 < whole) ((label ≤ 63) × (whole ≤ 254) × (room < whole)))

-- The same of octets in the open label, of what they would make.
abbrev pub OpenLabelThenName : (made : BuilderState) (room : ℕ) → Result (Unit {0}) PushError → Type 0
OpenLabelThenName made room r = LabelThenName (length made.open_label) (size made) room r

-- The same, where a long name is reported first.
abbrev pub NameThenOpenLabel : (made : BuilderState) (room : ℕ) → Result (Unit {0}) PushError → Type 0
NameThenOpenLabel made room r = NameThenLabel (length made.open_label) (size made) room r

-- The same, where the label can't be long.
abbrev pub NameAlone : (whole room : ℕ) → Result (Unit {0}) PushError → Type 0
NameAlone whole room r =
    MatchResult r (λ _. whole ≤ 254) (λ e. MatchPushError e ⊥ (254 < whole) ((whole ≤ 254) × (room < whole)))

-- The same, where the name can't be long either.
abbrev pub RoomAlone : {A : Type 0} → (whole room : ℕ) → Result A PushError → Type 0
RoomAlone whole room r = IfErr r (λ e. (e ≡ ShortBuf) × (room < whole))

-- A part of a text is taken, or nothing changes: it is refused, or else what it makes doesn't fit. A dot
-- takes no room.
abbrev pub TakesSymbol : (room : ℕ) → BuilderState → NameSymbol → Result (Unit {0}) FromStrError → BuilderState → Type 0
TakesSymbol room b p r new =
    MatchResult r (λ _. (symbol_fault b p ≡ None) × (new ≡ after b p))
    (λ e. (new ≡ b) × MatchFromStr e (λ f. symbol_fault b p ≡ Some f) ((symbol_fault b p ≡ None) × (p ≢ Dot) × (room < size (after b p))))

-- Parts are taken in turn, up to the first that is refused or doesn't fit. What those before it made stays.
abbrev pub TakesSymbols : (room : ℕ) → BuilderState → List NameSymbol → Result (Unit {0}) FromStrError → BuilderState → Type 0
TakesSymbols room b ps r new =
    MatchResult r (λ _. Makes b ps new) (λ e. MatchFromStr e (StopsAt b ps new) (LacksRoom room b ps new))

-- Like `TakesSymbol`, for a builder: `limit` is the number of octets that is fixed for its type, if any.
abbrev pub AddsSymbol : (limit : Option ℕ) → Held → NameSymbol → Result (Unit {0}) FromStrError → Held → Type 0
AddsSymbol limit b p r new = TakesSymbol (room limit new) b.built p r new.built

-- The same of parts in turn.
abbrev pub AddsSymbols : (limit : Option ℕ) → Held → List NameSymbol → Result (Unit {0}) FromStrError → Held → Type 0
AddsSymbols limit b ps r new = TakesSymbols (room limit new) b.built ps r new.built

-- What a refusal of octets is reported as, where the octets are those of a text.
abbrev pub PushErrorBecomes : PushError → FromStrError → Type 0
PushErrorBecomes LongLabel e = MatchFromStr e (λ f. f ≡ fault.LongLabel) ⊥
PushErrorBecomes LongName e = MatchFromStr e (λ f. f ≡ fault.LongName) ⊥
PushErrorBecomes ShortBuf e = e ≡ short.ShortBuf

-- The same of a refusal to add a name.
abbrev pub PushNameErrorBecomes : PushNameError → FromStrError → Type 0
PushNameErrorBecomes name.LongName e = MatchFromStr e (λ f. f ≡ fault.LongName) ⊥
PushNameErrorBecomes name.ShortBuf e = e ≡ short.ShortBuf

-- A call that makes `whole` octets, where `room` octets fit without new memory.
abbrev pub NameFits : (whole room : ℕ) → Result (Unit {0}) PushNameError → Type 0
NameFits whole room (Ok u) = whole ≤ 254
NameFits whole room (Err name.LongName) = 254 < whole
NameFits whole room (Err name.ShortBuf) = (whole ≤ 254) × (room < whole)

-- The same with an absolute name at the end.
abbrev pub OriginFits : {A : Type 0} → (whole room : ℕ) → Result A PushNameError → Type 0
OriginFits whole room (Ok octets) = whole ≤ 255
OriginFits whole room (Err name.LongName) = 255 < whole
OriginFits whole room (Err name.ShortBuf) = (whole ≤ 255) × (room < whole)

-- The text of an error of adding octets to a builder
abbrev pub push_text : PushError → List ℕ
push_text LongLabel = codes "long label"
push_text LongName = codes "long domain name"
push_text ShortBuf = codes "buffer size exceeded"

-- The text of an error of adding a name to a builder
abbrev pub push_name_text : PushNameError → List ℕ
push_name_text name.LongName = codes "long domain name"
push_name_text name.ShortBuf = codes "buffer size exceeded"
