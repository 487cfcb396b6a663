-- The header of an answer, and its question.
use Rattle.std.proofs.Common.{◌≡◌, ℕ, ◌-◌, ◌<◌, inl, inr, Bool, List, slice_index, refl, sym, ap, subst, arith, ◌∙◌}
use Rattle.std.specs.Prelude.{true, false, IsTrue, ◌↔◌}
use Rattle.std.proofs.lemmas.Bool.{false≢true}
use Rattle.domain_header.specs.Bits.{bit, bits, bit_of, SetsBits}
use Rattle.domain_message.specs.Composing.{type_and_class}
use Rattle.domain_message.specs.Entries.{QuestionFields}
use Rattle.domain_message.specs.LeftToTarget.{NameThen}
use Rattle.domain_message.specs.MayCompose.{IsNameThen}
use Rattle.domain_message.specs.Readings.{question_reading}
use Rattle.domain_rdata.specs.ReadBack.{Exceeds}
use Rattle.domain_header.specs.Numbers.{number16}
use Rattle.domain_header.specs.declared.flags.Header.{Header}
use Rattle.domain_message_builder.specs.Answers.{IsAnswerHeader, AnswersHeaderOf, HasQuestion, HasNoQuestion, DoesNotFit, BeginsWithQuestion, RepeatsQuestion, StartsAnswer, NotStarted, CannotAsk, StartsError}
use Rattle.domain_message_builder.specs.Answers.StartsAnswer.{repeats, nothing}
use Rattle.domain_message_builder.specs.Answers.RepeatsQuestion.{repeats as given}
use Rattle.domain_message_builder.specs.Answers.StartsError.{bare}
use Rattle.domain_message_builder.specs.Pushes.{with_header, PushesQuestion}
use Rattle.domain_message_builder.specs.Refusals.{QuestionRefused}
use Rattle.domain_message_builder.specs.State.{State}
use Rattle.domain_message_builder.specs.Tight.{Surpasses, RefusedAsWritten}
use Rattle.domain_message_builder.specs.declared.error.PushError.{PushError}
use Rattle.domain_message_builder.specs.declared.error.PushError.TheVariants.{Append, Long, Count, Limit, Order}

-- the bit that was read is the bit that is set
pub bit_back : (b : Bool) (v : ℕ) → v < 2 → IsTrue b ↔ (v ≡ 1) → bit_of b ≡ v
bit_back true v small said = sym (said.0 refl)
bit_back false v small said = let not : v ≡ 1 → ⊥ = λ h. false≢true (said.1 h) in omega (arith, small, not)

-- the octet with QR set, an opcode, and RD
pub record HighBits (op rd d : ℕ) : Type 0 where
  pub qr : bit 128 d ≡ 1
  pub opcode : bits 8 16 d ≡ op
  pub aa : bit 4 d ≡ 0
  pub tc : bit 2 d ≡ 0
  pub rd_is : bit 1 d ≡ rd

pub high_bits : (a b c d op rd : ℕ) → a ≡ 0 → SetsBits 128 2 1 a b → SetsBits 8 16 op b c → SetsBits 1 2 rd c d → HighBits op rd d
high_bits a b c d op rd zero x y z = record {
  qr = omega (arith, zero, x.set, x.below, x.above, y.set, y.below, y.above, z.set, z.below, z.above);
  opcode = omega (arith, zero, x.set, x.below, x.above, y.set, y.below, y.above, z.set, z.below, z.above);
  aa = omega (arith, zero, x.set, x.below, x.above, y.set, y.below, y.above, z.set, z.below, z.above);
  tc = omega (arith, zero, x.set, x.below, x.above, y.set, y.below, y.above, z.set, z.below, z.above);
  rd_is = z.set;
}

-- the octet with CD and a response code
pub record LowBits (cd rcode d : ℕ) : Type 0 where
  pub ra : bit 128 d ≡ 0
  pub z : bit 64 d ≡ 0
  pub ad : bit 32 d ≡ 0
  pub cd_is : bit 16 d ≡ cd
  pub rcode_is : bits 1 16 d ≡ rcode

pub low_bits : (a b c cd rcode : ℕ) → a ≡ 0 → SetsBits 16 2 cd a b → SetsBits 1 16 rcode b c → LowBits cd rcode c
low_bits a b c cd rcode zero x y = record {
  ra = omega (arith, zero, x.set, x.below, x.above, y.set, y.below, y.above);
  z = omega (arith, zero, x.set, x.below, x.above, y.set, y.below, y.above);
  ad = omega (arith, zero, x.set, x.below, x.above, y.set, y.below, y.above);
  cd_is = omega (arith, zero, x.set, x.below, x.above, y.set, y.below, y.above);
  rcode_is = y.set;
}

-- each error of a question has its reason
pub cannot_ask : {E : Type 0} (c : Bool) (q : QuestionFields) (s : State) (capacity : ℕ) (e : PushError E) → QuestionRefused c q s capacity e → CannotAsk c q s capacity
cannot_ask c q s capacity (Append e) why = inl why
cannot_ask c q s capacity (Long e) why = absurd why
cannot_ask c q s capacity Count why = inr (inl why)
cannot_ask c q s capacity Limit why = inr (inr (inl why))
cannot_ask c q s capacity Order why = inr (inr (inr why))

-- a bit is 0 or 1
pub small_low : (n : ℕ) → bit 1 n < 2
small_low n = omega arith

pub small_cd : (n : ℕ) → bit 16 n < 2
small_cd n = omega arith

-- the header is that of an answer to the message where it is that of one to a query with the message's header
pub answers_header : (m : List ℕ) (i n l : ℕ) (h : Header) (rcode : ℕ) → i ≡ number16 m 0 → n ≡ slice_index m 2 → l ≡ slice_index m 3 → IsAnswerHeader i n l rcode h → AnswersHeaderOf m rcode h
answers_header m i n l h rcode id high low is = record {
  id_is = is.id_is ∙ id;
  qr = is.qr;
  opcode = is.opcode ∙ ap (λ k. bits 8 16 k) high;
  aa = is.aa;
  tc = is.tc;
  rd = is.rd ∙ ap (λ k. bit 1 k) high;
  ra = is.ra;
  z = is.z;
  ad = is.ad;
  cd = is.cd ∙ ap (λ k. bit 16 k) low;
  rcode_is = is.rcode_is;
}

-- the question was pushed after the header was set
pub repeats_after : (c : Bool) (m : List ℕ) (rcode : ℕ) (old mid new : State) (h : Header) → AnswersHeaderOf m rcode h → mid ≡ with_header h old → (q : QuestionFields) → BeginsWithQuestion m q → PushesQuestion c q mid new → StartsAnswer c m rcode old new
repeats_after c m rcode old mid new h is set q begins pushed =
    let same : new.header ≡ h = pushed.settings.header ∙ ap (λ s. s.header) set in
    repeats (subst (AnswersHeaderOf m rcode) (sym same) is) q begins (subst (λ x. PushesQuestion c q x new) (set ∙ ap (λ k. with_header k old) (sym same)) pushed)

-- there was none
pub nothing_after : (c : Bool) (m : List ℕ) (rcode : ℕ) (old new : State) (h : Header) → AnswersHeaderOf m rcode h → new ≡ with_header h old → HasNoQuestion m → StartsAnswer c m rcode old new
nothing_after c m rcode old new h is set none =
    let same : new.header ≡ h = ap (λ s. s.header) set in
    nothing (subst (AnswersHeaderOf m rcode) (sym same) is) none (set ∙ ap (λ k. with_header k old) (sym same))

-- the header was set back
pub put_back : (old mid new last : State) (h b : Header) → mid ≡ with_header h old → new ≡ mid → last ≡ with_header b new → b ≡ old.header → last ≡ old
put_back old mid new last h b set same back was = back ∙ (ap (λ s. with_header b s) (same ∙ set) ∙ ap (λ k. with_header k (with_header h old)) was)

-- why it wasn't pushed, whatever the header
pub not_started : {E : Type 0} (c : Bool) (m : List ℕ) (old mid : State) (h : Header) (capacity room : ℕ) (e : PushError E) → mid ≡ with_header h old → room ≡ capacity → (q : QuestionFields) → BeginsWithQuestion m q → QuestionRefused c q mid room e → NotStarted c m old capacity e
not_started c m old mid h capacity room e set same q begins why = (q, begins, subst (λ n. QuestionRefused c q (with_header h old) n e) same (subst (λ s. QuestionRefused c q s room e) set why))

-- the header was set, and the question refused
pub bare_after : {E : Type 0} (c : Bool) (m : List ℕ) (rcode : ℕ) (old mid new : State) (h : Header) (capacity room : ℕ) (e : PushError E) → AnswersHeaderOf m rcode h → mid ≡ with_header h old → new ≡ mid → room ≡ capacity → (q : QuestionFields) → BeginsWithQuestion m q → QuestionRefused c q mid room e → StartsError c m rcode capacity old new
bare_after c m rcode old mid new h capacity room e is set stays same q begins why =
    let all : new ≡ with_header h old = stays ∙ set in
    let head : new.header ≡ h = ap (λ s. s.header) all in
    let told = subst (λ n. QuestionRefused c q (with_header h old) n e) same (subst (λ s. QuestionRefused c q s room e) set why) in
    bare (subst (AnswersHeaderOf m rcode) (sym head) is) q begins (cannot_ask c q old capacity e told) (all ∙ ap (λ k. with_header k old) (sym head))

-- the target was given the question, whose header was set before
pub given_after : {T : Type 0} (extends : T → List ℕ → T → Type 0) (appends : T → List (List ℕ) → T → Type 0) (m : List ℕ) (old mid new : T) (q : QuestionFields) → BeginsWithQuestion m q → mid ≡ old → NameThen extends (λ c d. appends c q.name d) (type_and_class q.rtype q.class) mid new → RepeatsQuestion extends appends m old new
given_after extends appends m old mid new q begins same writes = given q begins (subst (λ t. NameThen extends (λ c d. appends c q.name d) (type_and_class q.rtype q.class) t new) same writes)

-- a message has a first question, or none
pub asks_or_not : (m : List ℕ) → HasQuestion m → HasNoQuestion m → ⊥
asks_or_not m (q, begins) (inl none) = omega (arith, begins.counted, none)
asks_or_not m (q, begins) (inr (why, missing)) = question_reading.not_both m 12 q begins.end why begins.at missing

-- the question has no room, whatever the header
pub does_not_fit : {T E : Type 0} (octets : T → List ℕ) (capacity : T → ℕ) (may : T → List (List ℕ) → List ℕ → Type 0) (extends : T → List ℕ → T → Type 0) (appends : T → List (List ℕ) → T → Type 0) (m : List ℕ) (h : Header) (old : T) (mid : T) (before after : State) (q : QuestionFields) (e : PushError E)
    → mid ≡ old → after ≡ with_header h before → BeginsWithQuestion m q
    → RefusedAsWritten (λ _. Exceeds (IsNameThen (may mid q.name) (type_and_class q.rtype q.class)) (octets mid) (capacity mid)) (Surpasses octets (NameThen extends (λ c d. appends c q.name d) (type_and_class q.rtype q.class)) mid (after.limit - after.reserved)) e
    → DoesNotFit octets capacity may extends appends m (before.limit - before.reserved) old e
does_not_fit {T = T} octets capacity may extends appends m h old mid before after q e same set begins refused =
    let At : T → ℕ → Type 0 = λ t n. RefusedAsWritten (λ _. Exceeds (IsNameThen (may t q.name) (type_and_class q.rtype q.class)) (octets t) (capacity t)) (Surpasses octets (NameThen extends (λ c d. appends c q.name d) (type_and_class q.rtype q.class)) t n) e in
    (q, begins, subst (λ n. At old n) (ap (λ s. s.limit - s.reserved) set) (subst (λ t. At t (after.limit - after.reserved)) same refused))
