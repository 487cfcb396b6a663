-- Names that record data leaves to the target to write.
use Rattle.std.proofs.Common.{Result, Ok, Err, OnOk, IfErr, ◌≡◌, ◌<◌, ◌∙◌, ℕ, Bool, List, ◌++◌, length, ap, sym, subst}
use Rattle.std.specs.Int.{w16, to_be_bytes}
use Rattle.domain_rdata.specs.LeavingNames.{WrittenBehind, Measured, LeavesNames, Outgrows}
use Rattle.domain_rdata.specs.LeavingNames.LeavesNames.{at_once, measured, length_moves}
use Rattle.domain_rdata.specs.LeavingNames.Outgrows.{uncompressed_too}
use Rattle.domain_rdata.specs.RecordData.{DataAfterLength, IfLong}
use Rattle.domain_rdata.specs.declared.record_data.ComposeRdataError.{ComposeRdataError}
use Rattle.domain_rdata.specs.declared.record_data.ComposeRdataError.TheVariants.{Append, Long}

-- What stands behind a length stands there however the length is called.
behind_called : {T : Type 0} (octets : T → List ℕ) (extends : T → List ℕ → T → Type 0) (written : T → T → Type 0) (old : T) (k len n : ℕ) (new : T) → k ≡ len → WrittenBehind octets extends written old k n new → WrittenBehind octets extends written old len n new
behind_called octets extends written old k len n new told x =
    let P : ℕ → Type 0 = λ j. WrittenBehind octets extends written old j n new in
    subst P told x

-- Behind its own length the data's names are left to the target.
pub behind_own_length : {T : Type 0} (octets : T → List ℕ) (extends : T → List ℕ → T → Type 0) (cuts : T → ℕ → T → Type 0) (written : T → T → Type 0) (old : T) (k n : ℕ) (new : T) → k ≡ n → WrittenBehind octets extends written old k n new → LeavesNames octets extends cuts written old new
behind_own_length octets extends cuts written old k n new told x = at_once n (behind_called octets extends written old k n n new told x)

-- The data was composed to be measured, and cut off again.
pub was_measured : {T : Type 0} (octets : T → List ℕ) (extends : T → List ℕ → T → Type 0) (cuts : T → ℕ → T → Type 0) (written : T → T → Type 0) (old made again : T) (seen : List ℕ) (n : ℕ) → seen ≡ octets old → WrittenBehind octets extends written old 0 n made → cuts made (length seen) again → Measured octets extends cuts written old n again
was_measured octets extends cuts written old made again seen n same behind cut =
    let P : ℕ → Type 0 = λ j. cuts made j again in
    record { made = made; behind_none = behind; back = subst P (ap length same) cut }

-- Behind the length that was measured, too.
pub behind_measured_length : {T : Type 0} (octets : T → List ℕ) (extends : T → List ℕ → T → Type 0) (cuts : T → ℕ → T → Type 0) (written : T → T → Type 0) (old again : T) (k n m : ℕ) (new : T) → Measured octets extends cuts written old n again → k ≡ n → m ≡ n → WrittenBehind octets extends written again k m new → LeavesNames octets extends cuts written old new
behind_measured_length octets extends cuts written old again k n m new was told size x =
    let P : ℕ → Type 0 = λ j. WrittenBehind octets extends written again n j new in
    measured n again was (subst P size (behind_called octets extends written again k n m new told x))

-- Where no length is right, nothing is asked of what was appended.
pub no_length_stays : {T U E : Type 0} (octets : T → List ℕ) (extends : T → List ℕ → T → Type 0) (cuts : T → ℕ → T → Type 0) (written : T → T → Type 0) (old again : T) (k n m : ℕ) (second new : T) (r : Result U E) → Measured octets extends cuts written old n again → k ≡ n → WrittenBehind octets extends written again k m second → (m ≡ n → ⊥) → OnOk r (LeavesNames octets extends cuts written old new)
no_length_stays octets extends cuts written old again k n m second new (Ok x) was told behind other = length_moves n m again second was (behind_called octets extends written again k n m second told behind) other
no_length_stays octets extends cuts written old again k n m second new (Err e) was told behind other = tt

-- There data is too long only where it is with no name compressed.
pub no_length_long : {T U E : Type 0} (octets : T → List ℕ) (extends : T → List ℕ → T → Type 0) (cuts : T → ℕ → T → Type 0) (written : T → T → Type 0) (uncompressed : List ℕ) (old again : T) (k n m : ℕ) (second : T) (r : Result U (ComposeRdataError E)) → Measured octets extends cuts written old n again → k ≡ n → WrittenBehind octets extends written again k m second → (m ≡ n → ⊥) → IfErr r (λ e. IfLong (65535 < length uncompressed) e) → IfErr r (λ e. IfLong (Outgrows octets extends cuts written uncompressed old) e)
no_length_long octets extends cuts written uncompressed old again k n m second (Ok x) was told behind other long = tt
no_length_long octets extends cuts written uncompressed old again k n m second (Err (Append e)) was told behind other long = tt
no_length_long octets extends cuts written uncompressed old again k n m second (Err (Long e)) was told behind other long = uncompressed_too n m again second was (behind_called octets extends written again k n m second told behind) other long

-- A length returned for all octets that may be composed is the length of the data that was composed.
pub told_length : (Composed : Bool → List ℕ → List ℕ → Type 0) (asked compresses : Bool) (old new : List ℕ) (len n : ℕ) → asked ≡ compresses → ((t s : List ℕ) → Composed asked t s → length s ≡ len) → DataAfterLength (Composed compresses) old len n new → len ≡ n
told_length Composed asked compresses old new len n same told x =
    let P : Bool → Type 0 = λ b. Composed b (old ++ to_be_bytes w16 len) x.octets in
    sym (told (old ++ to_be_bytes w16 len) x.octets (subst P (sym same) x.allowed)) ∙ x.size
