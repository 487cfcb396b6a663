-- What octets of a message are read as. Offsets count from the start of the octets.
use Rattle.std.specs.Prelude.{◌≡◌, ℕ, ◌+◌, ◌<◌, ◌≤◌, List, length, slice_range}
use Rattle.octseq.specs.declared.parse.Parser.{Parser}
use Rattle.octseq.specs.Parsing.{message, position}
use Rattle.domain_wire.specs.declared.error.ParseError.{ParseError}
use Rattle.domain_wire.specs.declared.error.ParseError.TheVariants.{ShortInput}
use Rattle.domain_wire.specs.Refusals.{refusal}

-- Where values are, and where none is: a value that is seen so is in the octets from one offset to another, and an
-- error says why none is at an offset.
pub record IsReading {Seen : Type 0} (encodes : List ℕ → ℕ → Seen → ℕ → Type 0) (fails_with : List ℕ → ℕ → ParseError → Type 0) : Type 0 where
  -- a value lies in the octets
  pub inside : (m : List ℕ) (p : ℕ) (model : Seen) (e : ℕ) → encodes m p model e → (p ≤ e) × (e ≤ length m)
  -- one value is at an offset, and it has one end
  pub one_value : (m : List ℕ) (p : ℕ) (a b : Seen) (e f : ℕ) → encodes m p a e → encodes m p b f → (a ≡ b) × (e ≡ f)
  -- where a value is, there is no error
  pub not_both : (m : List ℕ) (p : ℕ) (model : Seen) (e : ℕ) (why : ParseError) → encodes m p model e → fails_with m p why → ⊥
  -- there is one error
  pub one_fault : (m : List ℕ) (p : ℕ) (why other : ParseError) → fails_with m p why → fails_with m p other → refusal why ≡ refusal other

-- The parser was moved over a value that is seen so.
abbrev pub Passes : {Seen : Type 0} → (List ℕ → ℕ → Seen → ℕ → Type 0) → Parser → Seen → Parser → Type 0
Passes encodes old model new = encodes (message old) (position old) model (position new)

-- a value that has this number of octets, whatever it is, and is what they are
pub record FixedAt {Seen : Type 0} (len : ℕ) (value_of : List ℕ → Seen) (m : List ℕ) (p : ℕ) (model : Seen) (e : ℕ) : Type 0 where
  pub whole : p + len ≤ length m
  pub value : model ≡ value_of (slice_range m p (p + len))
  pub after : e ≡ p + len

-- fewer octets than a value has are left
pub record ShortAt (len : ℕ) (m : List ℕ) (p : ℕ) (why : ParseError) : Type 0 where
  pub cut : length m < p + len
  pub told : why ≡ ShortInput
