-- The data of a record that was composed, where it is read.
use Rattle.std.proofs.Common.{◌≡◌, ℕ, ◌+◌, List, ◌++◌, length, take, ap, sym, ◌∙◌, arith, append_assoc, length-append}
use Rattle.std.specs.Prelude.{Bool}
use Rattle.std.specs.Int.{w16, to_be_bytes}
use Rattle.std.proofs.Math.Seq.{take-append_seam}
use Rattle.domain_message.specs.Composing.{before_length, RecordOctets}
use Rattle.domain_message.specs.EntryLaws.{DataStands, RecordReadsBack}
use Rattle.domain_message.specs.ReadsBack.{record_reads_back}

data_stands : (owner : List (List ℕ)) (rtype class ttl : ℕ) (May : List ℕ → List ℕ → Type 0) (b : Bool) (t s u : List ℕ) → (done : RecordOctets owner rtype class ttl May b t s)
    → DataStands May (take (length t + length s) (t ++ s ++ u)) (length t + length done.named + 10) done.rdata
data_stands owner rtype class ttl May b t s u done =
    let n = to_be_bytes w16 (length done.rdata) in
    let head = before_length rtype class ttl in
    let before = t ++ done.named ++ head ++ n in
    let whole : t ++ s ≡ before ++ done.rdata = ap (λ x. t ++ x) done.all ∙ simp append_assoc in
    let front : take (length t + length s) (t ++ s ++ u) ≡ t ++ s = ap (λ k. take k (t ++ s ++ u)) (sym (length-append t s)) ∙ take-append_seam (t ++ s) u in
    let size : length before ≡ length t + length done.named + 10 = omega (arith, length-append (t ++ done.named ++ head) n, length-append (t ++ done.named) head, length-append t done.named) in
    record { before = before; start_is = sym size; allowed = done.data_allowed; all = front ∙ whole }

pub record_and_data_read_back : (May : List ℕ → List ℕ → Type 0) (b : Bool) → RecordReadsBack May b
record_and_data_read_back May b owner rtype class ttl t s u small_type small_class small_ttl done =
    let read = record_reads_back owner rtype class ttl May b t s u small_type small_class small_ttl done in
    (read.0, read.1, read.2, data_stands owner rtype class ttl May b t s u done)
