-- No pointer leads into a header that was blank while names were composed.
use Rattle.std.proofs.Common.{◌≡◌, ℕ, ◌+◌, ◌≤◌, ◌<◌, ◌⊎◌, inl, inr, Bool, List, ◌++◌, length, sym, subst, arith, ◌∙◌, append_assoc, length-append}
use Rattle.domain_message.specs.Entries.{QuestionFields}
use Rattle.domain_message.specs.ReadsBack.{name_reads_back}
use Rattle.domain_rdata.specs.RecordData.{NameOctets}
use Rattle.domain_reading.specs.Grammar.{Reads}
use Rattle.domain_reading.specs.Grammar.Reads.{root, label, pointer}
use Rattle.domain_message_builder.specs.Contents.{blank_header, PushedRecord, QuestionMay, RecordMay}
use Rattle.domain_message_builder.specs.Pointers.{LeadsBehind, PointsBehind, EntryPointsBehind}
use Rattle.domain_message_builder.specs.Reading.{QuestionReadAt, RecordReadAt}
use Rattle.domain_message_builder.proofs.Blank.{none_in_blank, index_under, size_under, before_or_not}
use Rattle.domain_message_builder.proofs.Composing.{question_under, record_under, question_read, record_read}

-- What is read behind a blank header is read behind any through pointers behind it.
leads_under : (h b : List ℕ) (p j k : ℕ) (ls qs : List (List ℕ)) → 12 ≡ length h → 12 ≤ p → Reads (blank_header ++ b) p j ls → (way : Reads (h ++ b) p k qs) → LeadsBehind 12 way
leads_under h b p j k ls qs same le (root x) (root y) = tt
leads_under h b p j k ls qs same le (root x) (label y way) = absurd (omega (arith, index_under blank_header h b p same le, x.octet, y.head, y.nonempty))
leads_under h b p j k ls qs same le (root x) (pointer y lt way) = absurd (omega (arith, index_under blank_header h b p same le, x.octet, y.head))
leads_under h b p j k ls qs same le (label x r) (root y) = absurd (omega (arith, index_under blank_header h b p same le, x.head, x.nonempty, y.octet))
leads_under h b p j k ls qs same le (label {l = l} {rest = rest} x r) (label {l = n} {rest = more} y way) =
    let sized : length l ≡ length n = omega (arith, index_under blank_header h b p same le, x.head, y.head) in
    leads_under h b (p + 1 + length n) j k rest more same (omega (arith, le)) (subst (λ i. Reads (blank_header ++ b) (p + 1 + i) j rest) sized r) way
leads_under h b p j k ls qs same le (label x r) (pointer y lt way) = absurd (omega (arith, index_under blank_header h b p same le, x.head, x.short, y.head))
leads_under h b p j k ls qs same le (pointer x lt r) (root y) = absurd (omega (arith, index_under blank_header h b p same le, x.head, y.octet))
leads_under h b p j k ls qs same le (pointer x lt r) (label y way) = absurd (omega (arith, index_under blank_header h b p same le, x.head, y.head, y.short))
leads_under h b p j k ls qs same le (pointer {q = q} {k = i} x lt r) (pointer {q = n} {k = o} y lu way) =
    let one : q ≡ n = omega (arith, index_under blank_header h b p same le, index_under blank_header h b (p + 1) same (omega (arith, le)), x.target, y.target) in
    let back = subst (λ a. Reads (blank_header ++ b) a i ls) one r in
    next back (λ far. leads_under h b n i o ls qs same far back way) (before_or_not n 12)
  where
    next : Reads (blank_header ++ b) n i ls → (12 ≤ n → LeadsBehind 12 way) → (n < 12) ⊎ (12 ≤ n) → (12 ≤ n) × LeadsBehind 12 way
    next back on (inl low) = absurd (none_in_blank b n i ls low back)
    next back on (inr far) = (far, on far)

pub points_under : (h b : List ℕ) (p k : ℕ) (ls : List (List ℕ)) → length h ≡ 12 → 12 ≤ p → Reads (blank_header ++ b) p k ls → PointsBehind 12 (h ++ b) p
points_under h b p k ls twelve le back j qs way = leads_under h b p k j ls qs (sym twelve) le back way

-- the same of octets in three parts
points_in_parts : (h b s u : List ℕ) (k : ℕ) (ls : List (List ℕ)) → length h ≡ 12 → Reads (blank_header ++ b ++ s ++ u) (length (blank_header ++ b)) k ls → PointsBehind 12 (h ++ b ++ s ++ u) (length (h ++ b))
points_in_parts h b s u k ls twelve back =
    let parts : (g : List ℕ) → g ++ b ++ s ++ u ≡ g ++ (b ++ (s ++ u)) = λ g. append_assoc (g ++ b) s u ∙ append_assoc g b (s ++ u) in
    let p = length (blank_header ++ b) in
    let far : 12 ≤ p = omega (arith, length-append blank_header b) in
    let there : p ≡ length (h ++ b) = sym (size_under blank_header h b (sym twelve)) in
    let points : PointsBehind 12 (h ++ (b ++ (s ++ u))) p = points_under h (b ++ (s ++ u)) p k ls twelve far (subst (λ m. Reads m p k ls) (parts blank_header) back) in
    subst (λ n. PointsBehind 12 (h ++ b ++ s ++ u) n) there (subst (λ m. PointsBehind 12 m p) (sym (parts h)) points)

-- a name that was composed
pub name_points : (h b s u : List ℕ) (ls : List (List ℕ)) (c : Bool) → length h ≡ 12 → NameOctets ls c (blank_header ++ b) s → PointsBehind 12 (h ++ b ++ s ++ u) (length (h ++ b))
name_points h b s u ls c twelve name =
    let back = name_reads_back ls c (blank_header ++ b) s u name in
    points_in_parts h b s u back.1.labels.pointers back.0 twelve back.1.labels.reads

-- What may be composed after a blank header, after these octets, which have another header in its place.
abbrev pub UnderHeader : {V : Type 0} → (V → List ℕ → List ℕ → Type 0) → List ℕ → V → List ℕ → List ℕ → Type 0
UnderHeader May h x t s = (b : List ℕ) × (t ≡ h ++ b) × May x (blank_header ++ b) s

pub question_points : (c : Bool) (h : List ℕ) → length h ≡ 12 → (q : QuestionFields) (t s v : List ℕ) → UnderHeader (QuestionMay c) h q t s → EntryPointsBehind 12 QuestionReadAt (t ++ s ++ v) (length t) q (length t + length s)
question_points c h twelve q t s v under =
    let b = under.0 in
    let blank = question_read c q (blank_header ++ b) s v under.2 in
    let labels = blank.at.name.labels in
    subst (λ o. EntryPointsBehind 12 QuestionReadAt (o ++ s ++ v) (length o) q (length o + length s)) (sym under.1)
    (question_read c q (h ++ b) s v (question_under c h twelve q b s under.2), points_in_parts h b s v labels.pointers blank.name twelve labels.reads)

pub record_points : (c : Bool) (h : List ℕ) → length h ≡ 12 → (r : PushedRecord) (t s v : List ℕ) → UnderHeader (RecordMay c) h r t s → EntryPointsBehind 12 RecordReadAt (t ++ s ++ v) (length t) r (length t + length s)
record_points c h twelve r t s v under =
    let b = under.0 in
    let blank = record_read c r (blank_header ++ b) s v under.2 in
    let labels = blank.at.header.name.labels in
    subst (λ o. EntryPointsBehind 12 RecordReadAt (o ++ s ++ v) (length o) r (length o + length s)) (sym under.1)
    (record_read c r (h ++ b) s v (record_under c h twelve r b s under.2), points_in_parts h b s v labels.pointers blank.it.header.owner twelve labels.reads)
