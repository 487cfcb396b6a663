-- What composing record data may append.
use Rattle.std.specs.Prelude.{◌≡◌, ℕ, ◌+◌, ◌<◌, ◌≤◌, ⊤, Bool, false, List, ◌++◌, length, take, drop, codes}
use Rattle.std.specs.Int.{w16, to_be_bytes}
use Rattle.domain_rdata.specs.declared.record_data.ComposeRdataError.{ComposeRdataError}
use Rattle.domain_rdata.specs.declared.record_data.ComposeRdataError.TheVariants.{Append, Long}
use Rattle.domain_label.specs.Wire.{wire}
use Rattle.domain_rdata.specs.ReadBack.{ReadsBack}

-- The octets of a name after t: those of the wire format, and where names may be written shorter, any that
-- are read back as an equal name and are no more.
pub record NameOctets (ls : List (List ℕ)) (compresses : Bool) (t s : List ℕ) : Type 0 where
  pub read : ReadsBack t ls s
  pub flat : compresses ≡ false → s ≡ wire ls

-- the octets, with a length in two octets written over those at an offset
abbrev pub with_length_at : ℕ → ℕ → List ℕ → List ℕ
with_length_at offset len octets = take offset octets ++ (to_be_bytes w16 len ++ drop (offset + 2) octets)

-- This length in two octets and then n octets of data were appended, which may be composed after the length.
pub record DataAfterLength (May : List ℕ → List ℕ → Type 0) (old : List ℕ) (len n : ℕ) (new : List ℕ) : Type 0 where
  pub octets : List ℕ
  pub allowed : May (old ++ to_be_bytes w16 len) octets
  pub size : length octets ≡ n
  pub all : new ≡ old ++ to_be_bytes w16 len ++ octets

-- A length in two octets and then as many octets of data were appended, which may be composed after this length.
pub record LengthAndData (May : List ℕ → List ℕ → Type 0) (old new : List ℕ) : Type 0 where
  pub octets : List ℕ
  pub allowed : May (old ++ to_be_bytes w16 (length octets)) octets
  pub few : length octets ≤ 65535
  pub all : new ≡ old ++ to_be_bytes w16 (length octets) ++ octets

-- Two octets and data that may be composed after whichever octets, as that with no name compressed, exceed the spare
-- capacity.
pub record ExceedsWithLength (May : List ℕ → List ℕ → Type 0) (old : List ℕ) (capacity : ℕ) : Type 0 where
  pub octets : List ℕ
  pub allowed : (t : List ℕ) → May t octets
  pub full : capacity < length old + (2 + length octets)

-- Data that may be composed after a length of 0 has more octets than a length tells.
pub record IsTooLong (May : List ℕ → List ℕ → Type 0) (old : List ℕ) : Type 0 where
  pub octets : List ℕ
  pub allowed : May (old ++ to_be_bytes w16 0) octets
  pub many : 65535 < length octets

-- Why nothing was appended.
abbrev pub ComposeRefused : {E : Type 0} → (List ℕ → List ℕ → Type 0) → List ℕ → ℕ → ComposeRdataError E → Type 0
ComposeRefused May old capacity (Append e) = ExceedsWithLength May old capacity
ComposeRefused May old capacity (Long _) = IsTooLong May old

-- What holds where the data is too long.
abbrev pub IfLong : {E : Type 0} → Type 0 → ComposeRdataError E → Type 0
IfLong P (Append e) = ⊤
IfLong P (Long _) = P

-- the text that says why nothing was appended
abbrev pub compose_error_text : {E : Type 0} → ComposeRdataError E → List ℕ
compose_error_text (Append e) = codes "buffer size exceeded"
compose_error_text (Long _) = codes "record data too long"
