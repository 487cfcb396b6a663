-- Questions and records of words, and what is reported where they are none or aren't pushed.
use Rattle.std.proofs.Common.{◌≡◌, ℕ, zero, suc, ◌-◌, ◌<◌, ◌≤◌, Bool, true, false, List, [], ◌∷◌, length, get_or, take, drop, refl, sym, ap, subst, ◌∙◌, arith, inl, inr}
use Rattle.std.proofs.lemmas.List.{length-map}
use Rattle.domain_message.specs.Entries.{QuestionFields}
use Rattle.domain_message.specs.declared.section.Section.{Section}
use Rattle.domain_message_builder.specs.Contents.{RecordHead}
use Rattle.domain_message_builder.specs.Pushes.{PushesRecord}
use Rattle.domain_message_builder.specs.Refusals.{QuestionRefused, RecordRefused}
use Rattle.domain_message_builder.specs.State.{State}
use Rattle.domain_message_builder.specs.declared.error.PushError.{PushError}
use Rattle.domain_message_builder.specs.declared.error.PushError.TheVariants.{Append, Long, Count, Limit, Order}
use Rattle.domain_make.specs.Data.{IsData}
use Rattle.domain_make.specs.Entries.{IsClassWord, IsTypeWord, begins_with_digit, AreStated, first_column, IsQuestionWords, IsRecordWords}
use Rattle.domain_make.specs.Stops.{IfFault, NoName, NoNumber32, NoData}
use Rattle.domain_make.specs.Faults.{NoClass, NoType, NoQuestionWords, NoStated, NoFittingRecord, BeginsRecord}
use Rattle.domain_make.specs.Faults.NoStated.{no_ttl, ttl_alone, no_class, class_alone}
use Rattle.domain_make.specs.Faults.NoQuestionWords.{name as question_lacks_name, class as question_lacks_class, rtype as question_lacks_type}
use Rattle.domain_make.specs.Faults.NoRecordWords.{owner as record_lacks_owner, stated as record_lacks_stated, rtype as record_lacks_type, rdata as record_lacks_data}
use Rattle.domain_make.specs.Parts.{IsNameWord, IsNumber32}
use Rattle.domain_make.specs.Refusals.{TellsPush, QuestionStops, RecordStops, NoPushedQuestion, NoPushedRecord}
use Rattle.domain_make.specs.Refusals.NotPushed.{long, order, many, limit}
use Rattle.domain_make.specs.Refusals.NoPushedQuestion.{no_question, stopped as question_stopped_by}
use Rattle.domain_make.specs.Refusals.NoPushedRecord.{no_record, stopped as record_stopped_by}
use Rattle.domain_make.specs.Words.{WordAt, word_at, words_at}
use Rattle.domain_make.specs.declared.error.Fault.{Fault}
use Rattle.domain_make.specs.declared.error.Fault.TheVariants as fault
use Rattle.domain_make.specs.declared.error.Stop.{Stop}
use Rattle.domain_make.specs.declared.words.Word.{Word}
use Rattle.domain_make.proofs.Telling.{if_refused}

-- what a slice of words has past its end
abbrev pub no_word : Word
no_word = record { octets = record { ref_ptr = (0, 0); now = [] }; column = 0 }

take_all : (words : List Word) (n : ℕ) → length words ≤ n → take n words ≡ words
take_all [] zero few = refl
take_all [] (suc n) few = refl
take_all (w ∷ ws) zero few = absurd (omega arith)
take_all (w ∷ ws) (suc n) few = ap (λ z. w ∷ z) (take_all ws n (omega arith))

-- Three words, and four before others.
pub three : (words : List Word) → length words ≡ 3 → words ≡ get_or words 0 no_word ∷ get_or words 1 no_word ∷ get_or words 2 no_word ∷ []
three [] is = absurd (omega (arith, is))
three (a ∷ []) is = absurd (omega (arith, is))
three (a ∷ b ∷ []) is = absurd (omega (arith, is))
three (a ∷ b ∷ x ∷ []) is = refl
three (a ∷ b ∷ x ∷ y ∷ ws) is = absurd (omega (arith, is))

pub four : (words : List Word) → 4 ≤ length words → words ≡ get_or words 0 no_word ∷ get_or words 1 no_word ∷ get_or words 2 no_word ∷ get_or words 3 no_word ∷ take (length words - 4) (drop 4 words)
four [] is = absurd (omega (arith, is))
four (a ∷ []) is = absurd (omega (arith, is))
four (a ∷ b ∷ []) is = absurd (omega (arith, is))
four (a ∷ b ∷ x ∷ []) is = absurd (omega (arith, is))
four (a ∷ b ∷ x ∷ y ∷ ws) is = ap (λ z. a ∷ b ∷ x ∷ y ∷ z) (sym (take_all ws (length (a ∷ b ∷ x ∷ y ∷ ws) - 4) (omega arith)))

pub some_words : (words : List Word) → 0 < length words → 0 < length (words_at words)
some_words words some = omega (arith, length-map words word_at, some)

-- ---- questions

pub question_is : (words : List Word) (n k t : Word) (q : QuestionFields) → words ≡ n ∷ k ∷ t ∷ [] → IsNameWord n.octets.now q.name → IsClassWord k.octets.now q.class → IsTypeWord t.octets.now q.rtype → IsQuestionWords (words_at words) q
question_is words n k t q is name_is class_is type_is = record {
  name = word_at n;
  class = word_at k;
  rtype = word_at t;
  parts = ap words_at is;
  name_is = name_is;
  class_is = class_is;
  type_is = type_is;
}

pub question_no_name : (words : List Word) (n k t : Word) (e : Stop) → words ≡ n ∷ k ∷ t ∷ [] → IfFault e (NoName (word_at n)) → IfFault e (NoQuestionWords (words_at words))
question_no_name words n k t e is h = if_refused (NoName (word_at n)) (NoQuestionWords (words_at words)) e (λ f c lack. question_lacks_name (word_at n) (word_at k) (word_at t) (ap words_at is) lack) h

pub question_no_class : (words : List Word) (n k t : Word) (ls : List (List ℕ)) (e : Stop) → words ≡ n ∷ k ∷ t ∷ [] → IsNameWord n.octets.now ls → IfFault e (NoClass (word_at k)) → IfFault e (NoQuestionWords (words_at words))
question_no_class words n k t ls e is name_is h =
    if_refused (NoClass (word_at k)) (NoQuestionWords (words_at words)) e (λ f c lack. question_lacks_class (word_at n) (word_at k) (word_at t) ls (ap words_at is) name_is lack) h

pub question_no_type : (words : List Word) (n k t : Word) (ls : List (List ℕ)) (number : ℕ) (e : Stop) → words ≡ n ∷ k ∷ t ∷ [] → IsNameWord n.octets.now ls → IsClassWord k.octets.now number → IfFault e (NoType (word_at t)) → IfFault e (NoQuestionWords (words_at words))
question_no_type words n k t ls number e is name_is class_is h =
    if_refused (NoType (word_at t)) (NoQuestionWords (words_at words)) e (λ f c lack. question_lacks_type (word_at n) (word_at k) (word_at t) ls number (ap words_at is) name_is class_is lack) h

-- ---- a TTL and a class

pub stated_no_ttl : (a b : WordAt) (e : Stop) → begins_with_digit a.octets ≡ true → IfFault e (NoNumber32 a) → IfFault e (NoStated a b)
stated_no_ttl a b e digit h = if_refused (NoNumber32 a) (NoStated a b) e (λ f c lack. no_ttl digit lack) h

pub stated_ttl_alone : (a b : WordAt) (n : ℕ) (e : Stop) → begins_with_digit a.octets ≡ true → IsNumber32 a.octets n → IfFault e (NoClass b) → IfFault e (NoStated a b)
stated_ttl_alone a b n e digit ttl h = if_refused (NoClass b) (NoStated a b) e (λ f c lack. ttl_alone n digit ttl lack) h

pub stated_no_class : (a b : WordAt) (e : Stop) → begins_with_digit a.octets ≡ false → IfFault e (NoClass a) → IfFault e (NoStated a b)
stated_no_class a b e other h = if_refused (NoClass a) (NoStated a b) e (λ f c lack. no_class other lack) h

pub stated_class_alone : (a b : WordAt) (n : ℕ) (e : Stop) → begins_with_digit a.octets ≡ false → IsClassWord a.octets n → IfFault e (NoNumber32 b) → IfFault e (NoStated a b)
stated_class_alone a b n e other named h = if_refused (NoNumber32 b) (NoStated a b) e (λ f c lack. class_alone n other named lack) h

-- ---- records

pub record_no_owner : (l : List ℕ) (words : List Word) (o a b t : Word) (rest : List Word) (e : Stop) → words ≡ o ∷ a ∷ b ∷ t ∷ rest → IfFault e (NoName (word_at o)) → IfFault e (NoFittingRecord l (words_at words))
record_no_owner l words o a b t rest e is h =
    if_refused (NoName (word_at o)) (NoFittingRecord l (words_at words)) e (λ f c lack. inl (record_lacks_owner (word_at o) (word_at a) (word_at b) (word_at t) (words_at rest) (ap words_at is) lack)) h

pub record_no_stated : (l : List ℕ) (words : List Word) (o a b t : Word) (rest : List Word) (ls : List (List ℕ)) (e : Stop) → words ≡ o ∷ a ∷ b ∷ t ∷ rest → IsNameWord o.octets.now ls → IfFault e (NoStated (word_at a) (word_at b))
    → IfFault e (NoFittingRecord l (words_at words))
record_no_stated l words o a b t rest ls e is name_is h =
    if_refused (NoStated (word_at a) (word_at b)) (NoFittingRecord l (words_at words)) e
    (λ f c lack. inl (record_lacks_stated (word_at o) (word_at a) (word_at b) (word_at t) (words_at rest) ls (ap words_at is) name_is lack)) h

pub record_no_type : (l : List ℕ) (words : List Word) (o a b t : Word) (rest : List Word) (ls : List (List ℕ)) (seconds class : ℕ) (e : Stop) → words ≡ o ∷ a ∷ b ∷ t ∷ rest → IsNameWord o.octets.now ls
    → AreStated (word_at a) (word_at b) seconds class → IfFault e (NoType (word_at t)) → IfFault e (NoFittingRecord l (words_at words))
record_no_type l words o a b t rest ls seconds class e is name_is stated h =
    if_refused (NoType (word_at t)) (NoFittingRecord l (words_at words)) e
    (λ f c lack. inl (record_lacks_type (word_at o) (word_at a) (word_at b) (word_at t) (words_at rest) ls seconds class (ap words_at is) name_is stated lack)) h

-- The words begin as a record.
pub begins_record : (words : List Word) (o a b t : Word) (rest : List Word) (ls : List (List ℕ)) (seconds class rtype : ℕ) → words ≡ o ∷ a ∷ b ∷ t ∷ rest → IsNameWord o.octets.now ls → AreStated (word_at a) (word_at b) seconds class
    → IsTypeWord t.octets.now rtype → BeginsRecord (words_at words) rtype class (word_at t) (words_at rest)
begins_record words o a b t rest ls seconds class rtype is name_is stated type_is = record {
  owner = word_at o;
  first = word_at a;
  second = word_at b;
  labels = ls;
  seconds = seconds;
  parts = ap words_at is;
  owner_is = name_is;
  stated_are = stated;
  type_is = type_is;
}

pub record_no_data : (l : List ℕ) (words : List WordAt) (rtype class : ℕ) (t : WordAt) (rest : List WordAt) (e : Stop) → BeginsRecord words rtype class t rest → IfFault e (NoData rtype class l rest) → IfFault e (NoFittingRecord l words)
record_no_data l words rtype class t rest e begins h =
    if_refused (NoData rtype class l rest) (NoFittingRecord l words) e (λ f c lack. inl (record_lacks_data rtype class t rest begins lack)) h

pub record_is : (l : List ℕ) (words : List WordAt) (head : RecordHead) (t : WordAt) (rest : List WordAt) (begins : BeginsRecord words head.rtype head.class t rest) (octets : List ℕ) → begins.labels ≡ head.owner → begins.seconds ≡ head.ttl
    → IsData head.rtype head.class l rest octets → IsRecordWords l words head octets
record_is l words head t rest begins octets same_owner same_ttl data_is = record {
  owner = begins.owner;
  first = begins.first;
  second = begins.second;
  rtype = t;
  rest = rest;
  parts = begins.parts;
  owner_is = subst (λ ls. IsNameWord begins.owner.octets ls) same_owner begins.owner_is;
  stated_are = subst (λ n. AreStated begins.first begins.second n head.class) same_ttl begins.stated_are;
  type_is = begins.type_is;
  data_is = data_is;
}

-- A record whose data has more octets than its length tells.
pub long_data : (l : List ℕ) (words : List WordAt) (ls : List (List ℕ)) (seconds class rtype to_class to_type : ℕ) (t : WordAt) (rest : List WordAt) (octets : List ℕ) (column : ℕ) → (begins : BeginsRecord words rtype class t rest) → begins.labels ≡ ls
    → begins.seconds ≡ seconds → to_type ≡ rtype → to_class ≡ class → IsData to_type to_class l rest octets → 65535 < length octets → column ≡ first_column words → NoFittingRecord l words fault.Octets column
long_data l words ls seconds class rtype to_class to_type t rest octets column begins same_owner same_ttl type_is class_is data_is big first =
    let head : RecordHead = record { owner = ls; rtype = rtype; class = class; ttl = seconds } in
    let its_data : IsData rtype class l rest octets = subst (λ n. IsData n class l rest octets) type_is (subst (λ n. IsData to_type n l rest octets) class_is data_is) in
    inr (record { head = head; octets = octets; record_is = record_is l words head t rest begins octets same_owner same_ttl its_data; long = big; told = (refl, first) })

-- ---- pushes

why_question : {E : Type 0} (comp : Bool) (q : QuestionFields) (s : State) (capacity : ℕ) (e : PushError E) (f : Fault) → QuestionRefused comp q s capacity e → TellsPush e f → QuestionStops comp q s f
why_question comp q s capacity (Append x) f why told = absurd told
why_question comp q s capacity (Long x) f why told = absurd why
why_question comp q s capacity Count f why told = many why told
why_question comp q s capacity Limit f why told = limit why told
why_question comp q s capacity Order f why told = order why told

why_record : {E : Type 0} (comp : Bool) (section : Section) (head : RecordHead) (octets : List ℕ) (s : State) (capacity : ℕ) (e : PushError E) (f : Fault) → RecordRefused comp section head (λ _ t. t ≡ octets) s capacity e → TellsPush e f
    → RecordStops comp section head octets s f
why_record comp section head octets s capacity (Append x) f why told = absurd told
why_record comp section head octets s capacity (Long x) f why told = long (omega (arith, why.2.many, ap length why.2.allowed)) told
why_record comp section head octets s capacity Count f why told = many why told
why_record comp section head octets s capacity Limit f why told = limit why told
why_record comp section head octets s capacity Order f why told = order why told

pub question_refused : (comp : Bool) (words : List WordAt) (s : State) (e : Stop) → IfFault e (NoQuestionWords words) → IfFault e (NoPushedQuestion comp words s)
question_refused comp words s e h = if_refused (NoQuestionWords words) (NoPushedQuestion comp words s) e (λ f c lack. no_question lack) h

pub question_stopped : {E : Type 0} (comp : Bool) (words : List WordAt) (q : QuestionFields) (s : State) (capacity column : ℕ) (e : PushError E) (stop : Stop) → IsQuestionWords words q → QuestionRefused comp q s capacity e → column ≡ first_column words
    → IfFault stop (λ f c. TellsPush e f × (c ≡ column)) → IfFault stop (NoPushedQuestion comp words s)
question_stopped comp words q s capacity column e stop is why first h =
    if_refused (λ f c. TellsPush e f × (c ≡ column)) (NoPushedQuestion comp words s) stop (λ f c told. question_stopped_by q is (why_question comp q s capacity e f why told.0) (told.1 ∙ first)) h

long_record : (comp : Bool) (section : Section) (l : List ℕ) (words : List WordAt) (s : State) (f : Fault) (c : ℕ) → NoFittingRecord l words f c → NoPushedRecord comp section l words s f c
long_record comp section l words s f c (inl lack) = no_record lack
long_record comp section l words s f c (inr big) = record_stopped_by big.head big.octets big.record_is (long big.long big.told.0) big.told.1

-- An OPT record that was pushed.
pub opt_added : (comp : Bool) (section : Section) (h head : RecordHead) (os octets : List ℕ) (a b : State) → h ≡ head → os ≡ octets → PushesRecord comp section h (λ _ t. t ≡ os) a b → PushesRecord comp section head (λ _ t. t ≡ octets) a b
opt_added comp section h head os octets a b same also pushed =
    subst (λ x. PushesRecord comp section x (λ _ t. t ≡ octets) a b) same (subst (λ o. PushesRecord comp section h (λ _ t. t ≡ o) a b) also pushed)

-- What is read of two values that are the same.
pub along : {A B : Type 0} {x y : A} → x ≡ y → (f : A → B) → f x ≡ f y
along e f = ap f e

-- An OPT record that wasn't pushed, of this head and these options.
pub opt_refused : {E : Type 0} (comp : Bool) (section : Section) (h head : RecordHead) (os octets : List ℕ) (s : State) (capacity : ℕ) (e : PushError E) → h ≡ head → os ≡ octets → RecordRefused comp section h (λ _ t. t ≡ os) s capacity e
    → RecordRefused comp section head (λ _ t. t ≡ octets) s capacity e
opt_refused comp section h head os octets s capacity e same also why =
    subst (λ x. RecordRefused comp section x (λ _ t. t ≡ octets) s capacity e) same (subst (λ o. RecordRefused comp section h (λ _ t. t ≡ o) s capacity e) also why)

-- Why none was pushed.
pub opt_stopped : {E : Type 0} (comp : Bool) (section : Section) (head : RecordHead) (octets : List ℕ) (s : State) (capacity : ℕ) (e : PushError E) (stop : Stop) → RecordRefused comp section head (λ _ t. t ≡ octets) s capacity e
    → IfFault stop (λ f c. TellsPush e f × (c ≡ 1)) → IfFault stop (λ f c. RecordStops comp section head octets s f × (c ≡ 1))
opt_stopped comp section head octets s capacity e stop why h =
    if_refused (λ f c. TellsPush e f × (c ≡ 1)) (λ f c. RecordStops comp section head octets s f × (c ≡ 1)) stop (λ f c told. (why_record comp section head octets s capacity e f why told.0, told.1)) h

pub record_refused : (comp : Bool) (section : Section) (l : List ℕ) (words : List WordAt) (s : State) (e : Stop) → IfFault e (NoFittingRecord l words) → IfFault e (NoPushedRecord comp section l words s)
record_refused comp section l words s e h = if_refused (NoFittingRecord l words) (NoPushedRecord comp section l words s) e (λ f c lack. long_record comp section l words s f c lack) h

pub record_stopped : {E : Type 0} (comp : Bool) (section : Section) (l : List ℕ) (words : List WordAt) (head : RecordHead) (octets : List ℕ) (s : State) (capacity column : ℕ) (e : PushError E) (stop : Stop) → IsRecordWords l words head octets
    → RecordRefused comp section head (λ _ t. t ≡ octets) s capacity e → column ≡ first_column words → IfFault stop (λ f c. TellsPush e f × (c ≡ column)) → IfFault stop (NoPushedRecord comp section l words s)
record_stopped comp section l words head octets s capacity column e stop is why first h =
    if_refused (λ f c. TellsPush e f × (c ≡ column)) (NoPushedRecord comp section l words s) stop (λ f c told. record_stopped_by head octets is (why_record comp section head octets s capacity e f why told.0) (told.1 ∙ first)) h
