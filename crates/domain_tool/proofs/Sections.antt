-- The four sections of a message, one after the other.
use Rattle.std.proofs.Common.{◌≡◌, ℕ, ◌≤◌, List, length, ◌++◌, Option, refl, sym, subst, replicate}
use Rattle.std.specs.Prelude.{Result, Ok, Err, OnOk}
use Rattle.std.specs.Io.KnownBytes.{Appends}
use Rattle.domain_header.specs.declared.counts.HeaderCounts.{HeaderCounts}
use Rattle.domain_tool.specs.declared.entry_kind.EntryKind.{EntryKind}
use Rattle.domain_tool.specs.declared.entry_kind.EntryKind.TheVariants.{Question, Answer, Authority, Additional}
use Rattle.domain_tool.specs.declared.tool.ToolError.{ToolError}
use Rattle.domain_tool.specs.declared.tool.ToolError.TheVariants.{Parse, Text, Read, Write, Memory}
use Rattle.domain_header.specs.Headers.{question_count, answer_count, authority_count, additional_count}
use Rattle.domain_tool.specs.Counted.{IsCounted}
use Rattle.domain_tool.specs.Engines.{IfRefused}
use Rattle.domain_tool.specs.Lines.{IsListing, Lists, StopsListing, counted_entries}
use Rattle.domain_tool.specs.Written.{WritesEntries, WritesUpTo}
use Rattle.domain_tool.proofs.Listing.{writes_join, stops}

-- the entries of the sections by the counts that were read
pub counted_by : (m : List ℕ) (counts : HeaderCounts) (questions answers authority additional : ℕ) → IsCounted m counts
    → questions ≡ question_count counts → answers ≡ answer_count counts → authority ≡ authority_count counts → additional ≡ additional_count counts
    → counted_entries m ≡ replicate questions Question ++ (replicate answers Answer ++ (replicate authority Authority ++ replicate additional Additional))
counted_by m counts questions answers authority additional c q a n x =
    rw q (rw a (rw n (rw x (rw c.questions (rw c.answers (rw c.authority (rw c.additional refl)))))))

-- a section after those that were written
pub section_done : (m seen : List ℕ) (done : List EntryKind) (s : EntryKind) (n p q : ℕ) (old mid new : Option (List ℕ)) → seen ≡ m → WritesEntries m done 12 p old mid → WritesEntries seen (replicate n s) p q mid new → WritesEntries m (done ++ replicate n s) 12 q old new
section_done m seen done s n p q old mid new same before here =
    writes_join m done (replicate n s) 12 p q old mid new before (subst (λ o. WritesEntries o (replicate n s) p q mid new) same here)

-- a section in which an entry isn't there, after those that were written
pub section_stopped : (m seen : List ℕ) (done after : List EntryKind) (s : EntryKind) (n p : ℕ) (old mid new : Option (List ℕ)) (r : Result (Unit {0}) ToolError) → seen ≡ m → counted_entries m ≡ done ++ (replicate n s ++ after) → 12 ≤ length m
    → WritesEntries m done 12 p old mid → IfRefused r (λ why. WritesUpTo seen s n p mid new why) → IfRefused r (λ why. (text : List ℕ) × StopsListing m text why × Appends old new text)
section_stopped m seen done after s n p old mid new (Ok _) same all header before up = tt
section_stopped m seen done after s n p old mid new (Err (Parse why)) same all header before up =
    stops m done after s n p old mid new why all before (subst (λ o. WritesUpTo o s n p mid new why) same up) header
section_stopped m seen done after s n p old mid new (Err (Text e)) same all header before up = absurd up
section_stopped m seen done after s n p old mid new (Err Read) same all header before up = tt
section_stopped m seen done after s n p old mid new (Err Write) same all header before up = tt
section_stopped m seen done after s n p old mid new (Err Memory) same all header before up = tt

-- the last section
pub all_done : (m seen : List ℕ) (done : List EntryKind) (s : EntryKind) (n p q : ℕ) (old mid new : Option (List ℕ)) (r : Result (Unit {0}) ToolError) → seen ≡ m → counted_entries m ≡ done ++ replicate n s → 12 ≤ length m
    → WritesEntries m done 12 p old mid → OnOk r (WritesEntries seen (replicate n s) p q mid new) → OnOk r ((text : List ℕ) × IsListing m text × Appends old new text)
all_done m seen done s n p q old mid new (Ok _) same all header before here =
    let whole = section_done m seen done s n p q old mid new same before here in
    (whole.0, (header, q, subst (λ ss. Lists m ss 12 whole.0 q) (sym all) whole.1), whole.2)
all_done m seen done s n p q old mid new (Err _) same all header before here = tt
