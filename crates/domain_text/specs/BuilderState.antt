-- What a name builder has built, and what parts of a text make of it.
use Rattle.std.specs.Prelude.{◌≡◌, ◌≢◌, ℕ, ◌<◌, nat_lt, List, [], ◌∷◌, ◌++◌, length, Option, None, Some, Result, MatchResult, if◌then◌else◌}
use Rattle.domain_label.specs.Wire.{wire, Root}
use Rattle.domain_text.specs.declared.name_symbol.TextFault.{TextFault}
use Rattle.domain_text.specs.declared.name_symbol.TextFault.TheVariants.{BinaryLabel, LongLabel, EmptyLabel, LongName}
use Rattle.domain_text.specs.declared.name_symbol.NameSymbol.{NameSymbol}
use Rattle.domain_text.specs.declared.name_symbol.NameSymbol.TheVariants.{Dot, Octet, Bracket, Nothing}

-- Finished labels, and the octets of the open label, none where no label is open.
pub record BuilderState : Type 0 where
  pub labels : List (List ℕ)
  pub open_label : List ℕ

-- No label, and none open.
abbrev pub empty_state : BuilderState
empty_state = record { labels = []; open_label = [] }

-- Finished labels alone.
abbrev pub finished : List (List ℕ) → BuilderState
finished ls = record { labels = ls; open_label = [] }

-- The labels, and the open one as their last.
abbrev pub closed_with : List (List ℕ) → List ℕ → List (List ℕ)
closed_with ls [] = ls
closed_with ls (c ∷ o) = ls ++ (c ∷ o) ∷ []

-- All labels of the builder, the open one as the last.
abbrev pub closed : BuilderState → List (List ℕ)
closed b = closed_with b.labels b.open_label

-- The same, and the root.
abbrev pub rooted : BuilderState → List (List ℕ)
rooted b = closed b ++ Root

-- How many octets they have with all length octets.
abbrev pub size : BuilderState → ℕ
size b = length (wire (closed b))

-- The open label finished.
abbrev pub ended : BuilderState → BuilderState
ended b = record { labels = closed b; open_label = [] }

-- More octets in the open label.
abbrev pub pushed : BuilderState → List ℕ → BuilderState
pushed b s = record { labels = b.labels; open_label = b.open_label ++ s }

-- One more octet there.
abbrev pub with_octet : BuilderState → ℕ → BuilderState
with_octet b c = pushed b (c ∷ [])

-- The open label finished, and one more label, if it has octets.
abbrev pub labelled : BuilderState → List ℕ → BuilderState
labelled b s = record { labels = closed_with (closed b) s; open_label = [] }

-- The open label finished, and more labels.
abbrev pub named : BuilderState → List (List ℕ) → BuilderState
named b ls = record { labels = closed b ++ ls; open_label = [] }

-- What an open label shows: its length as 0, and its octets.
abbrev pub encoded_label : List ℕ → List ℕ
encoded_label [] = []
encoded_label (c ∷ o) = 0 ∷ c ∷ o

-- The octets of a builder: the wire format of its finished labels, and what the open label shows.
abbrev pub encoded : BuilderState → List ℕ
encoded b = wire b.labels ++ encoded_label b.open_label

-- A name may have 254 octets before the root, and a label 63. A long name is reported first.
abbrev pub too_long : BuilderState → Option TextFault
too_long b = if nat_lt 254 (size b) then Some LongName else (if nat_lt 63 (length b.open_label) then Some LongLabel else None)

-- The first where no label is open.
abbrev pub unless_open : {A : Type 0} → List ℕ → A → A → A
unless_open [] x y = x
unless_open (c ∷ o) x y = y

-- Why a part of a text can't follow what is built, if it can't.
abbrev pub symbol_fault : BuilderState → NameSymbol → Option TextFault
symbol_fault b Dot = unless_open b.open_label (Some EmptyLabel) None
symbol_fault b (Octet c) = too_long (with_octet b c)
symbol_fault b Bracket = unless_open b.open_label (Some BinaryLabel) (too_long (with_octet b 91))
symbol_fault b (Nothing f) = Some f

-- What it makes where it can: a dot ends the open label.
abbrev pub after : BuilderState → NameSymbol → BuilderState
after b Dot = ended b
after b (Octet c) = with_octet b c
after b Bracket = with_octet b 91
after b (Nothing f) = b

-- Parts in turn, none of them refused.
abbrev pub Makes : BuilderState → List NameSymbol → BuilderState → Type 0
Makes b [] new = new ≡ b
Makes b (p ∷ ps) new = (symbol_fault b p ≡ None) × Makes (after b p) ps new

-- Parts in turn, and the first that is refused, for f. The parts before it make `new`.
pub record StopsAt (b : BuilderState) (ps : List NameSymbol) (new : BuilderState) (f : TextFault) : Type 0 where
  pub before : List NameSymbol
  pub part : NameSymbol
  pub rest : List NameSymbol
  pub parts : ps ≡ before ++ part ∷ rest
  pub made : Makes b before new
  pub refused : symbol_fault new part ≡ Some f

-- Parts are taken in turn, up to the first that is refused. What those before it made stays.
abbrev pub TakesParts : BuilderState → List NameSymbol → Result (Unit {0}) TextFault → BuilderState → Type 0
TakesParts b ps r new = MatchResult r (λ _. Makes b ps new) (StopsAt b ps new)

-- All parts of a text, from nothing: what the result says was built, or the first that is refused.
abbrev pub ReadsParts : {A : Type 0} → (A → BuilderState) → List NameSymbol → Result A TextFault → Type 0
ReadsParts built ps r = MatchResult r (λ x. Makes empty_state ps (built x)) (λ f. (new : BuilderState) × StopsAt empty_state ps new f)

-- Parts in turn, and one that isn't refused and doesn't fit in the room of `room` octets. It is an octet: a dot takes
-- no room.
pub record LacksRoom (room : ℕ) (b : BuilderState) (ps : List NameSymbol) (new : BuilderState) : Type 0 where
  pub before : List NameSymbol
  pub part : NameSymbol
  pub rest : List NameSymbol
  pub parts : ps ≡ before ++ part ∷ rest
  pub made : Makes b before new
  pub taken : symbol_fault new part ≡ None
  pub octet : part ≢ Dot
  pub full : room < size (after new part)
