-- The message once its header is written.
use Rattle.std.proofs.Common.{◌≡◌, ℕ, ◌+◌, ◌^◌, ◌<◌, Bool, List, [], ◌++◌, length, take, drop, slice_index, refl, sym, ap, subst, arith, ◌∙◌, append_assoc, append-nil, length-append}
use Rattle.std.proofs.lemmas.Nat.{from_be_bytes-to_be_bytes_2}
use Rattle.std.proofs.lemmas.List.{take-append-drop}
use Rattle.domain_header.specs.Headers.{header_id, header_octets, counts_octets, question_count, answer_count, authority_count, additional_count, section_header, section_counts}
use Rattle.domain_header.specs.Numbers.{number16}
use Rattle.domain_header.specs.declared.counts.HeaderCounts.{HeaderCounts}
use Rattle.domain_header.specs.declared.flags.Header.{Header}
use Rattle.domain_header.specs.declared.header.HeaderSection.{HeaderSection}
use Rattle.domain_message.specs.Sections.{Run}
use Rattle.domain_message.specs.Entries.{QuestionFields}
use Rattle.domain_message_builder.specs.Contents.{blank_header, PushedRecord, Content, QuestionMay, RecordMay, Holds}
use Rattle.domain_message_builder.specs.Finished.{finished_octets}
use Rattle.domain_message_builder.specs.State.{State}
use Rattle.domain_message_builder.specs.Pointers.{EntryPointsBehind}
use Rattle.domain_message_builder.specs.Reading.{QuestionReadAt, RecordReadAt, IsMessageOf, EntriesAt}
use Rattle.domain_message_builder.proofs.Pointing.{UnderHeader, question_points, record_points}
use Rattle.domain_message_builder.proofs.Composing.{composed_under, composed_after, composed_reads, question_under, record_under, question_read, record_read}

-- the twelve octets of a header
abbrev pub whole_header : Header → HeaderCounts → List ℕ
whole_header header counts = header_octets header ++ counts_octets counts

-- a header is written over the blank one
pub written_size : (header : Header) (counts : HeaderCounts) (m made : List ℕ) → take 12 m ≡ blank_header → made ≡ header_octets header ++ (counts_octets counts ++ drop 12 m) → length made ≡ length m
written_size header counts m made blank written =
    let parts : length (take 12 m) + length (drop 12 m) ≡ length m = sym (length-append (take 12 m) (drop 12 m)) ∙ ap length (take-append-drop 12 m) in
    let head : length (header_octets header) ≡ 4 = refl in
    let mid : length (counts_octets counts) ≡ 8 = refl in
    omega (arith, parts, ap length blank, ap length written, length-append (header_octets header) (counts_octets counts ++ drop 12 m), length-append (counts_octets counts) (drop 12 m), head, mid)

head_id : (header : Header) (counts : HeaderCounts) (d : List ℕ) → header_id header < 2 ^ 16 → number16 (header_octets header ++ (counts_octets counts ++ d)) 0 ≡ header_id header
head_id header counts d small = from_be_bytes-to_be_bytes_2 (header_id header) small

head_questions : (header : Header) (counts : HeaderCounts) (d : List ℕ) → question_count counts < 2 ^ 16 → number16 (header_octets header ++ (counts_octets counts ++ d)) 4 ≡ question_count counts
head_questions header counts d small = from_be_bytes-to_be_bytes_2 (question_count counts) small

head_answers : (header : Header) (counts : HeaderCounts) (d : List ℕ) → answer_count counts < 2 ^ 16 → number16 (header_octets header ++ (counts_octets counts ++ d)) 6 ≡ answer_count counts
head_answers header counts d small = from_be_bytes-to_be_bytes_2 (answer_count counts) small

head_authority : (header : Header) (counts : HeaderCounts) (d : List ℕ) → authority_count counts < 2 ^ 16 → number16 (header_octets header ++ (counts_octets counts ++ d)) 8 ≡ authority_count counts
head_authority header counts d small = from_be_bytes-to_be_bytes_2 (authority_count counts) small

head_additional : (header : Header) (counts : HeaderCounts) (d : List ℕ) → additional_count counts < 2 ^ 16 → number16 (header_octets header ++ (counts_octets counts ++ d)) 10 ≡ additional_count counts
head_additional header counts d small = from_be_bytes-to_be_bytes_2 (additional_count counts) small

-- What was composed is there once a header is written over the blank one, as `AsksAt` and `SaysAt` tell its entries.
pub entries_at : (Asks : QuestionFields → List ℕ → List ℕ → Type 0) (Says : PushedRecord → List ℕ → List ℕ → Type 0) (AsksAt : List ℕ → ℕ → QuestionFields → ℕ → Type 0) (SaysAt : List ℕ → ℕ → PushedRecord → ℕ → Type 0) (c : Bool) (s : State) (it : Content) (made h : List ℕ)
    → ((x : QuestionFields) (b o : List ℕ) → QuestionMay c x (blank_header ++ b) o → Asks x (h ++ b) o) → ((x : PushedRecord) (b o : List ℕ) → RecordMay c x (blank_header ++ b) o → Says x (h ++ b) o)
    → ((x : QuestionFields) (t o v : List ℕ) → Asks x t o → AsksAt (t ++ o ++ v) (length t) x (length t + length o)) → ((x : PushedRecord) (t o v : List ℕ) → Says x t o → SaysAt (t ++ o ++ v) (length t) x (length t + length o))
    → length h ≡ 12 → Holds c s it → made ≡ h ++ drop 12 s.octets → EntriesAt AsksAt SaysAt it made
entries_at Asks Says AsksAt SaysAt c s it made h asked said asks says twelve holds written =
    let m = s.octets in
    let q = composed_under (QuestionMay c) Asks h asked it.questions blank_header [] holds.after_questions (sym (append-nil blank_header)) holds.questions in
    let a = composed_under (RecordMay c) Says h said it.answers holds.after_questions q.0 holds.after_answers q.1 holds.answers in
    let n = composed_under (RecordMay c) Says h said it.authority holds.after_answers a.0 holds.after_authority a.1 holds.authority in
    let x = composed_under (RecordMay c) Says h said it.additional holds.after_authority n.0 m n.1 holds.additional in
    let d = x.0 in
    let s1 = composed_after Says (h ++ q.0) (h ++ a.0) it.answers a.2 in
    let s2 = composed_after Says (h ++ a.0) (h ++ n.0) it.authority n.2 in
    let s3 = composed_after Says (h ++ n.0) (h ++ d) it.additional x.2 in
    let whole : h ++ d ≡ made = sym (written ∙ ap (λ o. h ++ drop 12 o) x.1) in
    let after_authority : (h ++ n.0) ++ s3.0 ≡ made = sym s3.1 ∙ whole in
    let after_answers : (h ++ a.0) ++ (s2.0 ++ s3.0) ≡ made = sym (append_assoc (h ++ a.0) s2.0 s3.0) ∙ (ap (λ o. o ++ s3.0) (sym s2.1) ∙ after_authority) in
    let after_questions : (h ++ q.0) ++ (s1.0 ++ (s2.0 ++ s3.0)) ≡ made = sym (append_assoc (h ++ q.0) s1.0 (s2.0 ++ s3.0)) ∙ (ap (λ o. o ++ (s2.0 ++ s3.0)) (sym s1.1) ∙ after_answers) in
    let start : length (h ++ []) ≡ 12 = ap length (append-nil h) ∙ twelve in
    record {
      question_end = length (h ++ q.0);
      answer_end = length (h ++ a.0);
      authority_end = length (h ++ n.0);
      questions = subst (λ p. Run AsksAt made p it.questions (length (h ++ q.0))) start (subst (λ o. Run AsksAt o (length (h ++ [])) it.questions (length (h ++ q.0))) after_questions
          (composed_reads Asks AsksAt asks it.questions (h ++ []) (h ++ q.0) (s1.0 ++ (s2.0 ++ s3.0)) q.2));
      answers = subst (λ o. Run SaysAt o (length (h ++ q.0)) it.answers (length (h ++ a.0))) after_answers
          (composed_reads Says SaysAt says it.answers (h ++ q.0) (h ++ a.0) (s2.0 ++ s3.0) a.2);
      authority = subst (λ o. Run SaysAt o (length (h ++ a.0)) it.authority (length (h ++ n.0))) after_authority
          (composed_reads Says SaysAt says it.authority (h ++ a.0) (h ++ n.0) s3.0 n.2);
      additional = subst (λ o. Run SaysAt o (length (h ++ n.0)) it.additional (length o)) (append-nil (h ++ d) ∙ whole)
          (subst (λ k. Run SaysAt ((h ++ d) ++ []) (length (h ++ n.0)) it.additional k) (sym (ap length (append-nil (h ++ d))))
          (composed_reads Says SaysAt says it.additional (h ++ n.0) (h ++ d) [] x.2));
    }

-- the header and its counts, as twelve octets
under_whole : (header : Header) (counts : HeaderCounts) (d made : List ℕ) → made ≡ header_octets header ++ (counts_octets counts ++ d) → made ≡ whole_header header counts ++ d
under_whole header counts d made written = written ∙ sym (append_assoc (header_octets header) (counts_octets counts) d)

-- What was composed is the message of it once its header is written.
pub finished : (c : Bool) (s : State) (it : Content) (made : List ℕ) → header_id s.header < 2 ^ 16 → question_count s.counts < 2 ^ 16 → answer_count s.counts < 2 ^ 16 → authority_count s.counts < 2 ^ 16 → additional_count s.counts < 2 ^ 16
    → Holds c s it → made ≡ header_octets s.header ++ (counts_octets s.counts ++ drop 12 s.octets) → IsMessageOf s.header it made
finished c s it made small_id small_questions small_answers small_authority small_additional holds written =
    let header = s.header in
    let counts = s.counts in
    let d = drop 12 s.octets in
    let h = whole_header header counts in
    let all = entries_at (QuestionMay c) (RecordMay c) QuestionReadAt RecordReadAt c s it made h (question_under c h refl) (record_under c h refl) (question_read c) (record_read c) refl holds (under_whole header counts d made written) in
    record {
      id = ap (λ o. number16 o 0) written ∙ head_id header counts d small_id;
      high = ap (λ o. slice_index o 2) written;
      low = ap (λ o. slice_index o 3) written;
      question_count = ap (λ o. number16 o 4) written ∙ (head_questions header counts d small_questions ∙ holds.question_count);
      answer_count = ap (λ o. number16 o 6) written ∙ (head_answers header counts d small_answers ∙ holds.answer_count);
      authority_count = ap (λ o. number16 o 8) written ∙ (head_authority header counts d small_authority ∙ holds.authority_count);
      additional_count = ap (λ o. number16 o 10) written ∙ (head_additional header counts d small_additional ∙ holds.additional_count);
      question_end = all.question_end;
      answer_end = all.answer_end;
      authority_end = all.authority_end;
      questions = all.questions;
      answers = all.answers;
      authority = all.authority;
      additional = all.additional;
    }

-- Its names are read through pointers behind the header alone.
pub entries_point : (c : Bool) (s : State) (it : Content) → Holds c s it → EntriesAt (EntryPointsBehind 12 QuestionReadAt) (EntryPointsBehind 12 RecordReadAt) it (finished_octets s)
entries_point c s it holds =
    let h = whole_header s.header s.counts in
    let made = finished_octets s in
    entries_at (UnderHeader (QuestionMay c) h) (UnderHeader (RecordMay c) h) (EntryPointsBehind 12 QuestionReadAt) (EntryPointsBehind 12 RecordReadAt) c s it made h
    (λ x b o may. (b, refl, may)) (λ x b o may. (b, refl, may)) (question_points c h refl) (record_points c h refl) refl holds (under_whole s.header s.counts (drop 12 s.octets) made refl)

-- what was written, in the words of the builder
pub written_so : (section : HeaderSection) (header : Header) (counts : HeaderCounts) (w old m : List ℕ) → w ≡ header_octets (section_header section) ++ (counts_octets (section_counts section) ++ drop 12 old) → section_header section ≡ header → section_counts section ≡ counts → old ≡ m
    → w ≡ header_octets header ++ (counts_octets counts ++ drop 12 m)
written_so section header counts w old m written head count same =
    written ∙ (ap (λ x. header_octets x ++ (counts_octets (section_counts section) ++ drop 12 old)) head
    ∙ (ap (λ x. header_octets header ++ (counts_octets x ++ drop 12 old)) count ∙ ap (λ x. header_octets header ++ (counts_octets counts ++ drop 12 x)) same))
