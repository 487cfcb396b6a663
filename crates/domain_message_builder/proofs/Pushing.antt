-- What a builder holds after a push.
use Rattle.std.proofs.Common.{◌≡◌, ℕ, ◌+◌, ◌^◌, ◌<◌, ◌≤◌, Bool, List, [], ◌∷◌, ◌++◌, length, take, drop, refl, sym, ap, subst, arith, ◌∙◌, length-append}
use Rattle.std.proofs.lemmas.List.{take-append-drop}
use Rattle.domain_header.specs.declared.counts.HeaderCounts.{HeaderCounts}
use Rattle.domain_message.specs.Entries.{QuestionFields}
use Rattle.domain_message.specs.declared.section.Section.{Section}
use Rattle.domain_message.specs.declared.section.Section.TheVariants.{Answer, Authority, Additional}
use Rattle.domain_rdata.specs.ReadBack.{Appended}
use Rattle.domain_message_builder.specs.Contents.{blank_header, Content, RecordHead, PushedRecord, question_added, AsksIn, RecordsIn, Composed, QuestionMay, RecordMay, Holds}
use Rattle.domain_message_builder.specs.SectionStarts.{all_at, starts_after}
use Rattle.domain_message_builder.specs.Pushes.{record_added, record_count, later_count, CountsQuestion, CountsRecord, PushesQuestion, PushesRecord}
use Rattle.domain_message_builder.specs.State.{State}
use Rattle.domain_message_builder.specs.declared.section_starts.SectionStarts.{SectionStarts}
use Rattle.domain_message_builder.proofs.Composing.{composed_and}

-- The blank header stays where octets are appended.
pub begun_after : (m made s : List ℕ) → take 12 m ≡ blank_header → made ≡ m ++ s → take 12 made ≡ blank_header
begun_after m made s begun all =
    let whole : blank_header ++ drop 12 m ≡ m = ap (λ o. o ++ drop 12 m) (sym begun) ∙ take-append-drop 12 m in
    ap (take 12) (all ∙ ap (λ o. o ++ s) (sym whole))

-- what is appended makes no fewer octets
pub grows : (m made s : List ℕ) → made ≡ m ++ s → length m ≤ length made
grows m made s all = omega (arith, ap length all, length-append m s)

-- Where there is no entry, no octets are composed.
pub none_composed : {V : Type 0} (May : V → List ℕ → List ℕ → Type 0) (t u : List ℕ) (xs : List V) → length xs ≡ 0 → Composed May t xs u → u ≡ t
none_composed May t u [] none all = all
none_composed May t u (x ∷ xs) none all = absurd (omega (arith, none))

pub composed_none : {V : Type 0} (May : V → List ℕ → List ℕ → Type 0) (t : List ℕ) (xs : List V) → length xs ≡ 0 → Composed May t xs t
composed_none May t [] none = refl
composed_none May t (x ∷ xs) none = absurd (omega (arith, none))

one_more : {V : Type 0} (xs : List V) (x : V) → length (xs ++ x ∷ []) ≡ length xs + 1
one_more xs x = length-append xs (x ∷ [])

question_holds : (c : Bool) (q : QuestionFields) (old : State) (counts : HeaderCounts) (s : List ℕ) (it : Content) → record_count old.counts ≡ 0 → CountsQuestion old.counts counts → QuestionMay c q old.octets s → Holds c old it
    → Holds c (record old { counts = counts; starts = all_at (length (old.octets ++ s)); octets = old.octets ++ s }) (question_added it q)
question_holds c q old counts s it none counted may holds =
    let m = old.octets in
    let no_answers : length it.answers ≡ 0 = omega (arith, none, holds.answer_count, holds.authority_count, holds.additional_count) in
    let no_authority : length it.authority ≡ 0 = omega (arith, none, holds.answer_count, holds.authority_count, holds.additional_count) in
    let no_additional : length it.additional ≡ 0 = omega (arith, none, holds.answer_count, holds.authority_count, holds.additional_count) in
    let whole : m ≡ holds.after_questions =
    none_composed (RecordMay c) holds.after_authority m it.additional no_additional holds.additional
    ∙ (none_composed (RecordMay c) holds.after_answers holds.after_authority it.authority no_authority holds.authority
    ∙ none_composed (RecordMay c) holds.after_questions holds.after_answers it.answers no_answers holds.answers) in
    record {
      after_questions = m ++ s;
      after_answers = m ++ s;
      after_authority = m ++ s;
      questions = composed_and (QuestionMay c) blank_header m s it.questions q (subst (λ o. Composed (QuestionMay c) blank_header it.questions o) (sym whole) holds.questions) may;
      answers = composed_none (RecordMay c) (m ++ s) it.answers no_answers;
      authority = composed_none (RecordMay c) (m ++ s) it.authority no_authority;
      additional = composed_none (RecordMay c) (m ++ s) it.additional no_additional;
      answers_begin = refl;
      authority_begin = refl;
      additional_begin = refl;
      question_count = omega (arith, counted.questions, holds.question_count, one_more it.questions q);
      answer_count = counted.answers ∙ holds.answer_count;
      authority_count = counted.authority ∙ holds.authority_count;
      additional_count = counted.additional ∙ holds.additional_count;
    }

-- A question was pushed.
pub pushes_question : (c : Bool) (q : QuestionFields) (old : State) (counts : HeaderCounts) (starts : SectionStarts) (made : List ℕ) (end : ℕ) → q.rtype < 2 ^ 16 → q.class < 2 ^ 16 → (0 < record_count old.counts → ⊥) → CountsQuestion old.counts counts → starts ≡ all_at end → end ≡ length made → length made + old.reserved ≤ old.limit
    → Appended (AsksIn c q old.octets) old.octets made → PushesQuestion c q old (record old { counts = counts; starts = starts; octets = made })
pushes_question c q old counts starts made end small_type small_class none counted at ends within added =
    let no_record : record_count old.counts ≡ 0 = omega (arith, none) in
    let offset : length (old.octets ++ added.octets) ≡ end = sym (ends ∙ ap length added.all) in
    record {
      in_order = no_record;
      octets = added;
      counts = counted;
      within = within;
      settings = record { header = refl; limit = refl; reserved = refl };
      holds = λ it holds. subst (λ p. Holds c (record old { counts = counts; starts = p; octets = made }) (question_added it q)) (sym at)
          (subst (λ o. Holds c (record old { counts = counts; starts = all_at end; octets = o }) (question_added it q)) (sym added.all)
          (subst (λ n. Holds c (record old { counts = counts; starts = all_at n; octets = old.octets ++ added.octets }) (question_added it q)) offset
          (question_holds c q old counts added.octets it no_record counted (record { small_type = small_type; small_class = small_class; octets = added.allowed }) holds)));
    }

record_holds : (section : Section) (c : Bool) (r : PushedRecord) (old : State) (counts : HeaderCounts) (s : List ℕ) (it : Content) → later_count section old.counts ≡ 0 → CountsRecord section old.counts counts → RecordMay c r old.octets s → Holds c old it
    → Holds c (record old { counts = counts; starts = starts_after section (length (old.octets ++ s)) old.starts; octets = old.octets ++ s }) (record_added section it r)
record_holds Answer c r old counts s it none counted may holds =
    let m = old.octets in
    let no_authority : length it.authority ≡ 0 = omega (arith, none, holds.authority_count, holds.additional_count) in
    let no_additional : length it.additional ≡ 0 = omega (arith, none, holds.authority_count, holds.additional_count) in
    let whole : m ≡ holds.after_answers =
    none_composed (RecordMay c) holds.after_authority m it.additional no_additional holds.additional
    ∙ none_composed (RecordMay c) holds.after_answers holds.after_authority it.authority no_authority holds.authority in
    record {
      after_questions = holds.after_questions;
      after_answers = m ++ s;
      after_authority = m ++ s;
      questions = holds.questions;
      answers = composed_and (RecordMay c) holds.after_questions m s it.answers r (subst (λ o. Composed (RecordMay c) holds.after_questions it.answers o) (sym whole) holds.answers) may;
      authority = composed_none (RecordMay c) (m ++ s) it.authority no_authority;
      additional = composed_none (RecordMay c) (m ++ s) it.additional no_additional;
      answers_begin = holds.answers_begin;
      authority_begin = refl;
      additional_begin = refl;
      question_count = counted.0 ∙ holds.question_count;
      answer_count = omega (arith, counted.1, holds.answer_count, one_more it.answers r);
      authority_count = counted.2 ∙ holds.authority_count;
      additional_count = counted.3 ∙ holds.additional_count;
    }
record_holds Authority c r old counts s it none counted may holds =
    let m = old.octets in
    let no_additional : length it.additional ≡ 0 = omega (arith, none, holds.additional_count) in
    let whole : m ≡ holds.after_authority = none_composed (RecordMay c) holds.after_authority m it.additional no_additional holds.additional in
    record {
      after_questions = holds.after_questions;
      after_answers = holds.after_answers;
      after_authority = m ++ s;
      questions = holds.questions;
      answers = holds.answers;
      authority = composed_and (RecordMay c) holds.after_answers m s it.authority r (subst (λ o. Composed (RecordMay c) holds.after_answers it.authority o) (sym whole) holds.authority) may;
      additional = composed_none (RecordMay c) (m ++ s) it.additional no_additional;
      answers_begin = holds.answers_begin;
      authority_begin = holds.authority_begin;
      additional_begin = refl;
      question_count = counted.0 ∙ holds.question_count;
      answer_count = counted.1 ∙ holds.answer_count;
      authority_count = omega (arith, counted.2, holds.authority_count, one_more it.authority r);
      additional_count = counted.3 ∙ holds.additional_count;
    }
record_holds Additional c r old counts s it none counted may holds = record {
  after_questions = holds.after_questions;
  after_answers = holds.after_answers;
  after_authority = holds.after_authority;
  questions = holds.questions;
  answers = holds.answers;
  authority = holds.authority;
  additional = composed_and (RecordMay c) holds.after_authority old.octets s it.additional r holds.additional may;
  answers_begin = holds.answers_begin;
  authority_begin = holds.authority_begin;
  additional_begin = holds.additional_begin;
  question_count = counted.0 ∙ holds.question_count;
  answer_count = counted.1 ∙ holds.answer_count;
  authority_count = counted.2 ∙ holds.authority_count;
  additional_count = omega (arith, counted.3, holds.additional_count, one_more it.additional r);
}

-- A record was pushed.
pub pushes_record : (section : Section) (c : Bool) (head : RecordHead) (May : List ℕ → List ℕ → Type 0) (old : State) (counts : HeaderCounts) (starts : SectionStarts) (made : List ℕ) (end : ℕ) → head.rtype < 2 ^ 16 → head.class < 2 ^ 16 → head.ttl < 2 ^ 32 → (0 < later_count section old.counts → ⊥) → CountsRecord section old.counts counts → starts ≡ starts_after section end old.starts → end ≡ length made → length made + old.reserved ≤ old.limit
    → Appended (RecordsIn c head May old.octets) old.octets made → PushesRecord c section head May old (record old { counts = counts; starts = starts; octets = made })
pushes_record section c head May old counts starts made end small_type small_class small_ttl none counted at ends within added =
    let done = added.allowed in
    let r : PushedRecord = record { head = head; rdata = done.rdata } in
    let no_record : later_count section old.counts ≡ 0 = omega (arith, none) in
    let offset : length (old.octets ++ added.octets) ≡ end = sym (ends ∙ ap length added.all) in
    let may : RecordMay c r old.octets added.octets = record {
      small_type = small_type;
      small_class = small_class;
      small_ttl = small_ttl;
      octets = record { named = done.named; name_allowed = done.name_allowed; rdata = done.rdata; few = done.few; data_allowed = refl; all = done.all };
    } in
    record {
      in_order = no_record;
      octets = added;
      counts = counted;
      within = within;
      settings = record { header = refl; limit = refl; reserved = refl };
      holds = λ it holds. subst (λ p. Holds c (record old { counts = counts; starts = p; octets = made }) (record_added section it r)) (sym at)
          (subst (λ o. Holds c (record old { counts = counts; starts = starts_after section end old.starts; octets = o }) (record_added section it r)) (sym added.all)
          (subst (λ n. Holds c (record old { counts = counts; starts = starts_after section n old.starts; octets = old.octets ++ added.octets }) (record_added section it r)) offset
          (record_holds section c r old counts added.octets it no_record counted may holds)));
    }
