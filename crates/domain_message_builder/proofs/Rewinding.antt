-- What a builder holds after a step back.
use Rattle.std.proofs.Common.{◌≡◌, ℕ, ◌+◌, ◌≤◌, Bool, List, ◌++◌, length, take, refl, sym, ap, subst, arith, ◌∙◌, append_assoc}
use Rattle.std.proofs.Math.Seq.{take-append_seam}
use Rattle.std.proofs.lemmas.List.{take-take, length-take-le}
use Rattle.domain_header.specs.declared.counts.HeaderCounts.{HeaderCounts}
use Rattle.domain_message.specs.declared.section.Section.{Section}
use Rattle.domain_message.specs.declared.section.Section.TheVariants.{Answer, Authority, Additional}
use Rattle.domain_message_builder.specs.Contents.{blank_header, Content, RecordMay, Holds}
use Rattle.domain_message_builder.specs.SectionStarts.{IsInOrder, start_of, starts_after}
use Rattle.domain_message_builder.specs.Pushes.{emptied, CountsNone, Rewinds}
use Rattle.domain_message_builder.specs.State.{State}
use Rattle.domain_message_builder.specs.declared.section_starts.SectionStarts.{SectionStarts}
use Rattle.domain_message_builder.proofs.Composing.{composed_after}
use Rattle.domain_message_builder.proofs.Ordering.{start_inside, ordered_before}

-- The octets before are those that were there.
cut_at : (m u s : List ℕ) (n : ℕ) → n ≡ length u → m ≡ u ++ s → take n m ≡ u
cut_at m u s n at all = ap (λ k. take k m) at ∙ (ap (take (length u)) all ∙ take-append_seam u s)

-- what was composed for the sections, one after the other
after_authority : (c : Bool) (s : State) (it : Content) (h : Holds c s it) → (r : List ℕ) × (s.octets ≡ h.after_authority ++ r)
after_authority c s it h = composed_after (RecordMay c) h.after_authority s.octets it.additional h.additional

after_answers : (c : Bool) (s : State) (it : Content) (h : Holds c s it) → (r : List ℕ) × (s.octets ≡ h.after_answers ++ r)
after_answers c s it h =
    let last = after_authority c s it h in
    let this = composed_after (RecordMay c) h.after_answers h.after_authority it.authority h.authority in
    (this.0 ++ last.0, last.1 ∙ (ap (λ o. o ++ last.0) this.1 ∙ append_assoc h.after_answers this.0 last.0))

after_questions : (c : Bool) (s : State) (it : Content) (h : Holds c s it) → (r : List ℕ) × (s.octets ≡ h.after_questions ++ r)
after_questions c s it h =
    let last = after_answers c s it h in
    let this = composed_after (RecordMay c) h.after_questions h.after_answers it.answers h.answers in
    (this.0 ++ last.0, last.1 ∙ (ap (λ o. o ++ last.0) this.1 ∙ append_assoc h.after_questions this.0 last.0))

emptied_holds : (section : Section) (c : Bool) (old : State) (counts : HeaderCounts) (it : Content) → CountsNone section old.counts counts → Holds c old it
    → Holds c (record old { counts = counts; starts = starts_after section (start_of section old.starts) old.starts; octets = take (start_of section old.starts) old.octets }) (emptied section it)
emptied_holds Answer c old counts it counted h =
    let rest = after_questions c old it h in
    let cut : take old.starts.answer old.octets ≡ h.after_questions = cut_at old.octets h.after_questions rest.0 old.starts.answer h.answers_begin rest.1 in
    record {
      after_questions = h.after_questions;
      after_answers = h.after_questions;
      after_authority = h.after_questions;
      questions = h.questions;
      answers = refl;
      authority = refl;
      additional = cut;
      answers_begin = h.answers_begin;
      authority_begin = h.answers_begin;
      additional_begin = h.answers_begin;
      question_count = counted.0 ∙ h.question_count;
      answer_count = counted.1;
      authority_count = counted.2;
      additional_count = counted.3;
    }
emptied_holds Authority c old counts it counted h =
    let rest = after_answers c old it h in
    let cut : take old.starts.authority old.octets ≡ h.after_answers = cut_at old.octets h.after_answers rest.0 old.starts.authority h.authority_begin rest.1 in
    record {
      after_questions = h.after_questions;
      after_answers = h.after_answers;
      after_authority = h.after_answers;
      questions = h.questions;
      answers = h.answers;
      authority = refl;
      additional = cut;
      answers_begin = h.answers_begin;
      authority_begin = h.authority_begin;
      additional_begin = h.authority_begin;
      question_count = counted.0 ∙ h.question_count;
      answer_count = counted.1 ∙ h.answer_count;
      authority_count = counted.2;
      additional_count = counted.3;
    }
emptied_holds Additional c old counts it counted h =
    let rest = after_authority c old it h in
    let cut : take old.starts.additional old.octets ≡ h.after_authority = cut_at old.octets h.after_authority rest.0 old.starts.additional h.additional_begin rest.1 in
    record {
      after_questions = h.after_questions;
      after_answers = h.after_answers;
      after_authority = h.after_authority;
      questions = h.questions;
      answers = h.answers;
      authority = h.authority;
      additional = cut;
      answers_begin = h.answers_begin;
      authority_begin = h.authority_begin;
      additional_begin = h.additional_begin;
      question_count = counted.0 ∙ h.question_count;
      answer_count = counted.1 ∙ h.answer_count;
      authority_count = counted.2 ∙ h.authority_count;
      additional_count = counted.3;
    }

-- Records were taken away again.
pub rewinds : (section : Section) (c : Bool) (old : State) (counts : HeaderCounts) (starts : SectionStarts) (start : ℕ) (made : List ℕ) → CountsNone section old.counts counts → starts ≡ starts_after section start old.starts → start ≡ start_of section old.starts → made ≡ take start old.octets
    → Rewinds c section old (record old { counts = counts; starts = starts; octets = made })
rewinds section c old counts starts start made counted at begins cut =
    let back : made ≡ take (start_of section old.starts) old.octets = cut ∙ ap (λ n. take n old.octets) begins in
    let moved : starts ≡ starts_after section (start_of section old.starts) old.starts = at ∙ ap (λ n. starts_after section n old.starts) begins in
    record {
      octets = back;
      counts = counted;
      settings = record { header = refl; limit = refl; reserved = refl };
      holds = λ it h. subst (λ p. Holds c (record old { counts = counts; starts = p; octets = made }) (emptied section it)) (sym moved)
          (subst (λ o. Holds c (record old { counts = counts; starts = starts_after section (start_of section old.starts) old.starts; octets = o }) (emptied section it)) (sym back) (emptied_holds section c old counts it counted h));
    }

-- What the ghost fields say then.
pub rewound : (section : Section) (p : SectionStarts) (m : List ℕ) (reserved limit : ℕ) (starts : SectionStarts) (start : ℕ) (made : List ℕ) → take 12 m ≡ blank_header → length m + reserved ≤ limit → IsInOrder p (length m)
    → starts ≡ starts_after section start p → start ≡ start_of section p → made ≡ take start m → (take 12 made ≡ blank_header) × (length made + reserved ≤ limit) × IsInOrder starts (length made)
rewound section p m reserved limit starts start made begun within ordered at begins cut =
    let inside = start_inside section p (length m) ordered in
    let low : 12 ≤ start = omega (arith, begins, inside.0) in
    let high : start ≤ length m = omega (arith, begins, inside.1) in
    let size : length made ≡ start = ap length cut ∙ length-take-le start m high in
    let moved : starts ≡ starts_after section (start_of section p) p = at ∙ ap (λ n. starts_after section n p) begins in
    let whole : start_of section p ≡ length made = sym begins ∙ sym size in (
      ap (take 12) cut ∙ (take-take 12 start m low ∙ begun),
      omega (arith, within, size, high),
      subst (λ x. IsInOrder x (length made)) (sym moved) (subst (λ n. IsInOrder (starts_after section (start_of section p) p) n) whole (ordered_before section p (length m) ordered)),
    )
