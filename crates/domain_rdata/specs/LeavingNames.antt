-- What a target becomes when record data is composed into it. Names are left to the target, which writes them shorter
-- where it may (RFC 1035, 4.1.4). `octets` is those of a target. `extends` is what the target becomes when octets are
-- appended, and `cuts` is what it becomes when it is cut. `written` is what it becomes when its own calls append the
-- data.
use Rattle.std.specs.Prelude.{◌≡◌, ℕ, ◌+◌, ◌<◌, List, length}
use Rattle.std.specs.Int.{w16, to_be_bytes}

-- This length was appended, and then the data, which has n octets there.
pub record WrittenBehind {T : Type 0} (octets : T → List ℕ) (extends : T → List ℕ → T → Type 0) (written : T → T → Type 0) (old : T) (len n : ℕ) (new : T) : Type 0 where
  pub before : T
  pub length_there : extends old (to_be_bytes w16 len) before
  pub done : written before new
  pub size : length (octets new) ≡ length (octets old) + 2 + n

-- The data was appended behind a length of 0, where it has n octets, and cut off again.
pub record Measured {T : Type 0} (octets : T → List ℕ) (extends : T → List ℕ → T → Type 0) (cuts : T → ℕ → T → Type 0) (written : T → T → Type 0) (old : T) (n : ℕ) (new : T) : Type 0 where
  pub made : T
  pub behind_none : WrittenBehind octets extends written old 0 n made
  pub back : cuts made (length (octets old)) new

-- The data was appended behind its own length, at once or after it was measured. Or it has no number of octets that
-- stays: where the octets of a target lead names through the length, the data behind a length of 0 has another number
-- of octets than behind that number.
pub data LeavesNames {T : Type 0} (octets : T → List ℕ) (extends : T → List ℕ → T → Type 0) (cuts : T → ℕ → T → Type 0) (written : T → T → Type 0) (old new : T) : Type 0 where
  at_once : (n : ℕ) → WrittenBehind octets extends written old n n new → LeavesNames octets extends cuts written old new
  measured : (n : ℕ) (again : T) → Measured octets extends cuts written old n again → WrittenBehind octets extends written again n n new → LeavesNames octets extends cuts written old new
  length_moves : (n m : ℕ) (again second : T) → Measured octets extends cuts written old n again → WrittenBehind octets extends written again n m second → (m ≡ n → ⊥) → LeavesNames octets extends cuts written old new

-- The data has more octets than a length tells: behind a length of 0, as the target writes it there. Or it has no
-- number of octets that stays, and so many with no name compressed.
pub data Outgrows {T : Type 0} (octets : T → List ℕ) (extends : T → List ℕ → T → Type 0) (cuts : T → ℕ → T → Type 0) (written : T → T → Type 0) (uncompressed : List ℕ) (old : T) : Type 0 where
  as_written : (n : ℕ) (made : T) → WrittenBehind octets extends written old 0 n made → 65535 < n → Outgrows octets extends cuts written uncompressed old
  uncompressed_too : (n m : ℕ) (again second : T) → Measured octets extends cuts written old n again → WrittenBehind octets extends written again n m second → (m ≡ n → ⊥) → 65535 < length uncompressed → Outgrows octets extends cuts written uncompressed old
