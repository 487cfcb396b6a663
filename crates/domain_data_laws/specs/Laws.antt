-- The statements of the laws: what was composed for record data is read as the same data (RFC 1035, 3.2.1), and what
-- `ReadBackData` says of its reading is what `ParseRecordData` reads.
use Rattle.std.specs.Prelude.{◌≡◌, ◌↔◌, ℕ, ◌+◌, Bool, true, List, ◌++◌, length}
use Rattle.domain_rdata.specs.Members.{DataMembers}
use Rattle.domain_wire.specs.declared.error.ParseError.{ParseError}
use Rattle.domain_data_laws.specs.Members.{ReadingMembers}

-- At each offset what `ReadBackData` sees is what `parse_rdata` reads, and both end where the other does.
abbrev pub SeesWhatIsRead : {View : Type 0} → (ℕ → List ℕ → ℕ → View → ℕ → Type 0) → (ℕ → List ℕ → ℕ → View → ℕ → Type 0) → Type 0
SeesWhatIsRead {View} seen_at encodes = (rtype : ℕ) (m : List ℕ) (p : ℕ) (it : View) (e : ℕ) → seen_at rtype m p it e ↔ encodes rtype m p it e

-- Data that is read is like data that was composed exactly where it is the same.
abbrev pub LikeMeansSame : {D R View : Type 0} → (D → View → Type 0) → (R → View) → (D → R → Type 0) → Type 0
LikeMeansSame {D} {R} like model Same = (it : D) (read : R) → like it (model read) ↔ Same it read

-- The octets s, which are the last, stand after the octets t, and are data to their end. `parse_rdata` has no error
-- there, and all that it can read there is the same.
pub record AreReadAs {R View : Type 0} (At : List ℕ → ℕ → View → ℕ → Type 0) (No : List ℕ → ℕ → ParseError → Type 0) (model : R → View) (Same : R → Type 0) (t s : List ℕ) : Type 0 where
  pub there : (seen : View) × At (t ++ s) (length t) seen (length t + length s)
  pub no_error : (why : ParseError) → No (t ++ s) (length t) why → ⊥
  pub same : (read : R) (e : ℕ) → At (t ++ s) (length t) (model read) e → Same read × (e ≡ length t + length s)

-- `d` is `⟦<D as ComposeRecordData>⟧` and `r` is `⟦<R as ParseRecordData<'a>>⟧`. Whatever may be composed for data
-- with numbers that fit, after any octets, is read there as R, by the number of its own type, as the same data.
abbrev pub IsReadAs : {D R : Type 0} → DataMembers D → ReadingMembers R → (D → Type 0) → (D → R → Type 0) → Type 0
IsReadAs {D} d r Fits Same =
    (it : D) → Fits it → (r.reads_type (d.type_number it) ≡ true)
    × ((compresses : Bool) (t s : List ℕ) → d.composed it compresses t s
    → AreReadAs (r.encodes (d.type_number it)) (r.fails_with (d.type_number it)) r.model (Same it) t s)
