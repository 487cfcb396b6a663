-- Looking for a CNAME record in a section, and following a chain of them.
use Rattle.std.proofs.Common.{◌≡◌, ℕ, ◌+◌, ◌<◌, List, [], ◌∷◌, refl, sym, ap, subst, inl, inr, ◌∙◌, arith}
use Rattle.std.specs.Prelude.{Option, Some, None, Ok, Err, ◌-◌, ◌⊎◌}
use Rattle.domain_wire.specs.declared.error.ParseError.{ParseError}
use Rattle.domain_message.specs.Aliases.{IsAlias, FirstAlias, Leads, ChainEndWithin, OfFirstQuestion, IsCanonicalWithin}
use Rattle.domain_message.specs.Aliases.FirstAlias.{nowhere, here, later}
use Rattle.domain_message.specs.Aliases.Leads.{stays, goes}
use Rattle.domain_message.specs.Aliases.ChainEndWithin.{ends_within, leads_on}
use Rattle.domain_message.specs.AliasParts.{GivenBy, GivesAlias, EndsBefore, LeadsOn, Asked}
use Rattle.domain_message.specs.Entries.{QuestionAt, NoQuestion, RecordFields, RecordAt}
use Rattle.domain_message.specs.Readings.{record_reading, record_once, record_decided}
use Rattle.domain_message.specs.RecordModel.{record_fields}
use Rattle.domain_message.specs.Runs.{Given, given_first, given_nothing, given_some}
use Rattle.domain_message.specs.Sections.{GivesRecord, GivesQuestion, records_message, records_offset, records_left, questions_message, questions_offset, questions_left, entries_left, Begins, QuestionsTo, NoQuestions}
use Rattle.octseq.specs.declared.octets.Octets.{Ghosts}
use Rattle.domain_parsed.specs.declared.parsed.ParsedName.{ParsedName}
use Rattle.domain_parsed.specs.ParsedNames.{parsed_labels}
use Rattle.domain_message.specs.Models.{question_fields}
use Rattle.domain_message.specs.declared.question.Question.{Question}
use Rattle.domain_message.specs.Sections.Misses.{now}
use Rattle.domain_header.specs.Numbers.{number16}
use Rattle.domain_message.specs.declared.section.Section.TheVariants.{Answer}
use Rattle.domain_message.specs.declared.section.QuestionSection.{QuestionSection}
use Rattle.domain_message.specs.declared.record.ParsedRecord.{ParsedRecord}
use Rattle.domain_message.specs.declared.section.RecordSection.{RecordSection}

-- what is found in what is left is found in all
abbrev pub Looked : List (List ℕ) → RecordSection → RecordSection → Type 0
Looked name s t = (rs : List RecordFields) → GivenBy s rs → (ss : List RecordFields) × GivenBy t ss × ((found : Option (List (List ℕ))) → FirstAlias name ss found → FirstAlias name rs found)

pub looked_none : (name : List (List ℕ)) (s : RecordSection) → Looked name s s
looked_none name s = λ rs given. (rs, given, λ found first. first)

-- a record that is given is the first of the remaining ones
pub first_given : (s t : RecordSection) (it : ParsedRecord) (ss : List RecordFields) → GivesRecord s (Some (Ok it)) t → GivenBy s ss → (rest : List RecordFields) × (ss ≡ record_fields it ∷ rest) × GivenBy t rest
first_given s t it ss (same, section, (n, before, after, at)) given =
    let left = subst (λ k. Given RecordAt (records_message s) (records_offset s) k ss) (ap (λ c. entries_left c) before) given in
    let rest = given_first record_once (records_message s) (records_offset s) n (records_offset t) (record_fields it) ss at left in
    (rest.0, rest.1, subst (λ o. Given RecordAt o (records_offset t) (entries_left (records_left t)) rest.0) (sym same) (subst (λ k. Given RecordAt (records_message s) (records_offset t) k rest.0) (sym (ap (λ c. entries_left c) after)) rest.2))

pub looked_more : (name : List (List ℕ)) (first s t : RecordSection) (it : ParsedRecord) → Looked name first s → GivesRecord s (Some (Ok it)) t → ((target : List (List ℕ)) → IsAlias (record_fields it) name target → ⊥) → Looked name first t
looked_more name first s t it looked gives other rs given =
    let before = looked rs given in
    let next = first_given s t it before.0 gives before.1 in
    (next.0, next.2, λ found at. before.2 found (subst (λ ss. FirstAlias name ss found) (sym next.1) (later other at)))

pub found_here : (name target : List (List ℕ)) (first s t : RecordSection) (it : ParsedRecord) → Looked name first s → GivesRecord s (Some (Ok it)) t → IsAlias (record_fields it) name target → GivesAlias first name (Some target)
found_here name target first s t it looked gives is rs given =
    let before = looked rs given in
    let next = first_given s t it before.0 gives before.1 in
    before.2 (Some target) (subst (λ ss. FirstAlias name ss (Some target)) (sym next.1) (here is))

found_nowhere : (name : List (List ℕ)) (first s : RecordSection) → Looked name first s → ((ss : List RecordFields) → GivenBy s ss → ss ≡ []) → GivesAlias first name None
found_nowhere name first s looked empty rs given =
    let before = looked rs given in
    before.2 None (subst (λ ss. FirstAlias name ss None) (sym (empty before.0 before.1)) nowhere)

pub nothing_left : (name : List (List ℕ)) (first s t : RecordSection) → Looked name first s → GivesRecord s None t → GivesAlias first name None
nothing_left name first s t looked (same, section, (none, offset, left)) = found_nowhere name first s looked (λ ss given. given_nothing (records_message s) (records_offset s) (entries_left (records_left s)) ss (inl none) given)

pub one_missing : (name : List (List ℕ)) (first s t : RecordSection) (why : ParseError) → Looked name first s → GivesRecord s (Some (Err why)) t → GivesAlias first name None
one_missing name first s t why looked (same, section, (n, before, after, offset, missing)) = found_nowhere name first s looked (λ ss given. given_nothing (records_message s) (records_offset s) (entries_left (records_left s)) ss (inr (λ x e at. record_reading.not_both (records_message s) (records_offset s) x e why at missing)) given)

-- the CNAME records that were followed
abbrev pub Followed : RecordSection → ℕ → List (List ℕ) → List (List ℕ) → Type 0
Followed answers step from name = (rs : List RecordFields) → GivenBy answers rs → Leads rs from step name

pub followed_none : (answers : RecordSection) (name : List (List ℕ)) → Followed answers 0 name name
followed_none answers name = λ rs given. stays

pub followed_more : (answers : RecordSection) (step : ℕ) (from name target : List (List ℕ)) → Followed answers step from name → GivesAlias answers name (Some target) → Followed answers (step + 1) from target
followed_more answers step from name target before alias rs given = goes (before rs given) (alias rs given)

pub followed_end : (answers : RecordSection) (step looks : ℕ) (from name : List (List ℕ)) → Followed answers step from name → step < looks → GivesAlias answers name None → EndsBefore answers looks from name
followed_end answers step looks from name before few alias = λ rs given. (step, few, before rs given, alias rs given)

pub followed_on : (answers : RecordSection) (step looks : ℕ) (from name : List (List ℕ)) → Followed answers step from name → step ≡ looks → LeadsOn answers looks from
followed_on answers step looks from name before all = λ rs given. (name, subst (λ n. Leads rs from n name) all (before rs given))

-- what is said of the answers that are given is said of the message
given_by : (m : List ℕ) (start : ℕ) (answers : RecordSection) (rs : List RecordFields) → Begins m Answer start answers → Given RecordAt m start (number16 m 6) rs → GivenBy answers rs
given_by m start answers rs begins given =
    subst (λ o. Given RecordAt o (records_offset answers) (entries_left (records_left answers)) rs) (sym begins.message)
    (subst (λ p. Given RecordAt m p (entries_left (records_left answers)) rs) (sym begins.offset)
    (subst (λ k. Given RecordAt m start k rs) (sym (ap (λ c. entries_left c) begins.left)) given))

of_first : (m : List ℕ) (answers : RecordSection) (name : List (List ℕ)) (Says : List RecordFields → List (List ℕ) → Type 0) → Asked m answers name → ((rs : List RecordFields) → GivenBy answers rs → Says rs name) → OfFirstQuestion m Says
of_first m answers name Says it says =
    let some : (rs : List RecordFields) × Given RecordAt m it.start (number16 m 6) rs = given_some record_decided (number16 m 6) m it.start in
    record {
      asked = it.asked;
      question_end = it.question_end;
      question = it.question;
      start = it.start;
      questions = it.questions;
      answers = some.0;
      given = some.1;
      says = subst (λ n. Says some.0 n) (sym it.is) (says some.0 (given_by m it.start answers some.0 it.begins some.1));
    }

pub within_end : (m : List ℕ) (answers : RecordSection) (name end : List (List ℕ)) (limit looks : ℕ) → Asked m answers name → looks ≡ limit + 1 → EndsBefore answers looks name end → IsCanonicalWithin m limit (Some end)
within_end m answers name end limit looks it many leads = of_first m answers name (λ rs from. ChainEndWithin limit rs from (Some end)) it (λ rs given.
    let rest = leads rs given in
    let few = rest.1 in
    ends_within rest.2 (omega (arith, few, many)) rest.3)

pub within_on : (m : List ℕ) (answers : RecordSection) (name : List (List ℕ)) (limit looks : ℕ) → Asked m answers name → looks ≡ limit + 1 → LeadsOn answers looks name → IsCanonicalWithin m limit None
within_on m answers name limit looks it many leads = of_first m answers name (λ rs from. ChainEndWithin limit rs from None) it (λ rs given.
    let rest = leads rs given in
    leads_on (subst (λ n. Leads rs name n rest.0) many rest.1))

-- the first question is missing
pub no_first : (m : List ℕ) (k : ℕ) (why : ParseError) → number16 m 4 ≡ k + 1 → NoQuestion m 12 why → NoQuestions m why
no_first m k why some missing = now (number16 m 4) refl (record { before = []; few = omega (arith, some); offset = 12; run = refl; missing = missing })

pub no_first_of : (m : List ℕ) (s t : QuestionSection) (why : ParseError) → questions_message s ≡ m → questions_offset s ≡ 12 → questions_left s ≡ Ok (number16 m 4) → (questions_message t ≡ questions_message s) × ((n : ℕ) × (questions_left s ≡ Ok (n + 1)) × (questions_left t ≡ Err why) × (questions_offset t ≡ questions_offset s) × NoQuestion (questions_message s) (questions_offset s) why) → NoQuestions m why
no_first_of m s t why octets offset left (same, (n, before, after, unmoved, missing)) =
    no_first m n why (ap (λ c. entries_left c) (sym left ∙ before)) (subst (λ o. NoQuestion o 12 why) octets (subst (λ p. NoQuestion (questions_message s) p why) offset missing))

pub asked_of : {O : Type 0} {g : Ghosts O} (m : List ℕ) (s t : QuestionSection) (q : Question (ParsedName O g)) (answers : RecordSection) → questions_message s ≡ m → questions_offset s ≡ 12 → GivesQuestion {O = O} {g = g} s (Some (Ok q)) t → ((e : ℕ) × QuestionsTo m e × Begins m Answer e answers) → Asked m answers (parsed_labels q.qname)
asked_of m s t q answers octets offset (same, (n, before, after, at)) (start, questions, begins) = record {
  asked = question_fields q;
  is = refl;
  question_end = questions_offset t;
  question = subst (λ o. QuestionAt o 12 (question_fields q) (questions_offset t)) octets (subst (λ p. QuestionAt (questions_message s) p (question_fields q) (questions_offset t)) offset at);
  start = start;
  questions = questions;
  begins = begins;
}

-- where nothing was asked
pub or_more : {A B C : Type 0} → A ⊎ B → A ⊎ (B ⊎ C)
or_more (inl a) = inl a
or_more (inr b) = inr (inl b)
