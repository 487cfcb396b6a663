-- What is held from one call to the next, and why a call was refused.
use Rattle.std.proofs.Common.{◌≡◌, ℕ, ◌+◌, ◌-◌, ◌≤◌, inl, inr, Bool, List, ◌++◌, length, drop, sym, ap, subst, arith, ◌∙◌}
use Rattle.std.specs.Prelude.{Some}
use Rattle.domain_header.specs.Headers.{question_count, answer_count, authority_count, additional_count}
use Rattle.domain_header.specs.declared.flags.Header.{Header}
use Rattle.domain_message.specs.Entries.{QuestionFields}
use Rattle.domain_message.specs.Composing.RecordExceeds.{no_name, no_numbers, no_data}
use Rattle.domain_message.specs.declared.section.Section.{Section}
use Rattle.domain_message.specs.declared.section.Section.TheVariants.{Answer, Additional}
use Rattle.domain_rdata.specs.ReadBack.{Appended, Exceeds}
use Rattle.domain_message_builder.specs.Answers.{CannotAsk}
use Rattle.domain_message_builder.specs.Contents.{blank_header, Content, RecordHead, no_content, question_added, AsksIn, RecordsIn, Holds}
use Rattle.domain_message_builder.specs.Cuts.{PushesOpt, CannotAddOpt, HasNoRoomFor, with_opt}
use Rattle.domain_message_builder.specs.Finished.{finished_octets}
use Rattle.domain_message_builder.specs.Opt.{Opt, opt_head}
use Rattle.domain_message_builder.specs.Pushes.{with_header, record_added, record_count, IsBegun, PushesQuestion, PushesRecord}
use Rattle.domain_message_builder.specs.Reading.{IsMessageOf}
use Rattle.domain_message_builder.specs.Refusals.{NotBegun, QuestionRefused, RecordRefused, RecordTooBig, DataTooLong}
use Rattle.domain_message_builder.specs.State.{State}
use Rattle.domain_message_builder.specs.declared.error.PushError.{PushError}
use Rattle.domain_message_builder.specs.declared.error.PushError.TheVariants.{Append, Long, Count, Limit, Order}
use Rattle.domain_message_builder.specs.declared.error.StartError.{StartError}
use Rattle.domain_message_builder.specs.declared.error.StartError.TheVariants.{Append as NoRoom, ShortLimit, NotEmpty}
use Rattle.examples.specs.Built.{IsQuery, IsSizedQuery, IsAnswer, NotAsked, NotSized, NotAnswered, sized_opt}
use Rattle.examples.specs.Built.NotAsked.{not_empty, no_header, no_room, over_limit}
use Rattle.examples.specs.Built.NotSized.{no_opt}
use Rattle.examples.specs.Built.NotAnswered.{too_big, too_long, too_much}

-- A message was begun, its header was set, and a question was pushed.
pub record Asks (c : Bool) (h : Header) (q : QuestionFields) (limit : ℕ) (s : State) : Type 0 where
  pub header : s.header ≡ h
  pub limit_is : s.limit ≡ limit
  pub reserved : s.reserved ≡ 0
  pub octets : Appended (AsksIn c q blank_header) blank_header s.octets
  pub holds : Holds c s (question_added no_content q)

pub asks : (c : Bool) (h : Header) (q : QuestionFields) (limit : ℕ) (begun set s : State) → IsBegun c limit begun → set ≡ with_header h begun → PushesQuestion c q set s → Asks c h q limit s
asks c h q limit begun set s is same pushed = record {
  header = pushed.settings.header ∙ ap (λ x. x.header) same;
  limit_is = pushed.settings.limit ∙ (ap (λ x. x.limit) same ∙ is.limit_is);
  reserved = pushed.settings.reserved ∙ (ap (λ x. x.reserved) same ∙ is.reserved);
  octets = subst (λ t. Appended (AsksIn c q t) t s.octets) (ap (λ x. x.octets) same ∙ is.octets) pushed.octets;
  holds = pushed.holds no_content (subst (λ x. Holds c x no_content) (sym same) is.holds);
}

pub is_query : (c : Bool) (h : Header) (q : QuestionFields) (limit : ℕ) (s : State) (m : List ℕ) → Asks c h q limit s → ((it : Content) → Holds c s it → IsMessageOf s.header it m) → IsQuery h q m
is_query c h q limit s m asked made = subst (λ k. IsMessageOf k (question_added no_content q) m) asked.header (made (question_added no_content q) asked.holds)

-- A record was pushed after the octets o.
pub record PushedAfter (c : Bool) (section : Section) (head : RecordHead) (May : List ℕ → List ℕ → Type 0) (o : List ℕ) (s t : State) : Type 0 where
  pub octets : List ℕ
  pub allowed : RecordsIn c head May o octets
  pub all : t.octets ≡ o ++ octets
  pub holds : (it : Content) → Holds c s it → Holds c t (record_added section it (record { head = head; rdata = allowed.rdata }))

pub pushed_after : (c : Bool) (section : Section) (head : RecordHead) (May : List ℕ → List ℕ → Type 0) (o : List ℕ) (s t : State) → s.octets ≡ o → PushesRecord c section head May s t → PushedAfter c section head May o s t
pushed_after c section head May o s t same pushed =
    subst (λ x. PushedAfter c section head May x s t) same (record { octets = pushed.octets.octets; allowed = pushed.octets.allowed; all = pushed.octets.all; holds = pushed.holds })

-- what follows the header of a message that was finished
pub body_is : (u : State) (m b : List ℕ) → m ≡ finished_octets u → u.octets ≡ blank_header ++ b → drop 12 m ≡ b
body_is u m b made octets = ap (drop 12) made ∙ ap (drop 12) octets

pub is_answer : (c : Bool) (h : Header) (q : QuestionFields) (head : RecordHead) (May : List ℕ → List ℕ → Type 0) (s t : State) (m : List ℕ) → Asks c h q 512 s → PushesRecord c Answer head May s t → ((it : Content) → Holds c t it → IsMessageOf t.header it m) → m ≡ finished_octets t → length m ≤ t.limit → IsAnswer c h q head May m
is_answer c h q head May s t m asked pushed made octets within =
    let one = pushed_after c Answer head May (blank_header ++ asked.octets.octets) s t asked.octets.all pushed in
    let it = record_added Answer (question_added no_content q) (record { head = head; rdata = one.allowed.rdata }) in
    record {
      question = asked.octets.octets;
      is_question = asked.octets.allowed;
      answer = one.octets;
      is_answer = one.allowed;
      message = subst (λ k. IsMessageOf k it m) (pushed.settings.header ∙ asked.header) (made it (one.holds (question_added no_content q) asked.holds));
      octets = body_is t m (asked.octets.octets ++ one.octets) octets one.all;
      short = omega (arith, within, pushed.settings.limit, asked.limit_is);
    }

-- the OPT record is held after it was pushed
pub opt_held : (c : Bool) (o : Opt) (s t : State) (it : Content) → PushesOpt c o s t → Holds c s it → Holds c t (with_opt (Some o) it)
opt_held c o s t it pushed holds = subst (λ d. Holds c t (record_added Additional it (record { head = opt_head o; rdata = d }))) pushed.octets.allowed.data_allowed (pushed.holds it holds)

pub is_sized : (c : Bool) (h : Header) (q : QuestionFields) (size limit : ℕ) (o : Opt) (s t : State) (m : List ℕ) → o ≡ sized_opt size → Asks c h q limit s → PushesOpt c o s t → ((it : Content) → Holds c t it → IsMessageOf t.header it m) → IsSizedQuery h q size m
is_sized c h q size limit o s t m same asked pushed made =
    let it = question_added no_content q in
    subst (λ x. IsMessageOf h (with_opt (Some x) it) m) same (subst (λ k. IsMessageOf k (with_opt (Some o) it) m) (pushed.settings.header ∙ asked.header) (made (with_opt (Some o) it) (opt_held c o s t it pushed asked.holds)))

-- ---- and why a call was refused

pub exceeds_less : (May : List ℕ → Type 0) (t : List ℕ) (small big : ℕ) → small ≤ big → Exceeds May t big → Exceeds May t small
exceeds_less May t small big less x = record { octets = x.octets; allowed = x.allowed; full = omega (arith, less, x.full) }

pub too_big_less : (c : Bool) (head : RecordHead) (May : List ℕ → List ℕ → Type 0) (t : List ℕ) (small big : ℕ) → small ≤ big → RecordTooBig c head May t big → RecordTooBig c head May t small
too_big_less c head May t small big less (no_name x) = no_name (exceeds_less _ t small big less x)
too_big_less c head May t small big less (no_numbers named allowed x) = no_numbers named allowed (omega (arith, less, x))
too_big_less c head May t small big less (no_data named room allowed under x) = no_data named room allowed (omega (arith, less, under)) x

no_records : (c : Bool) (s : State) → Holds c s no_content → record_count s.counts ≡ 0
no_records c s holds =
    let answers : answer_count s.counts ≡ 0 = holds.answer_count in
    let authority : authority_count s.counts ≡ 0 = holds.authority_count in
    let additional : additional_count s.counts ≡ 0 = holds.additional_count in
    omega (arith, answers, authority, additional)

-- also after the header was set
pub none_set : (c : Bool) (h : Header) (limit : ℕ) (begun set : State) → IsBegun c limit begun → set ≡ with_header h begun → record_count set.counts ≡ 0
none_set c h limit begun set is same = ap (λ x. record_count x.counts) same ∙ no_records c begun is.holds

pub not_begun : {E : Type 0} (c : Bool) (q : QuestionFields) (octets : List ℕ) (capacity limit : ℕ) (e : StartError E) → 12 ≤ limit → NotBegun octets capacity limit e → NotAsked c q octets capacity limit
not_begun c q octets capacity limit (NoRoom e) wide why = no_header why
not_begun c q octets capacity limit ShortLimit wide why = absurd (omega (arith, wide, why))
not_begun c q octets capacity limit NotEmpty wide why = not_empty why

pub not_asked_of : {E : Type 0} (c : Bool) (h : Header) (q : QuestionFields) (octets : List ℕ) (capacity room limit : ℕ) (begun set : State) (e : PushError E) → IsBegun c limit begun → set ≡ with_header h begun → capacity ≤ room → QuestionRefused c q set room e → NotAsked c q octets capacity limit
not_asked_of c h q octets capacity room limit begun set (Append e) is same less why =
    no_room (exceeds_less _ _ capacity room less (subst (λ t. Exceeds (AsksIn c q t) t room) (ap (λ x. x.octets) same ∙ is.octets) why))
not_asked_of c h q octets capacity room limit begun set (Long e) is same less why = absurd why
not_asked_of c h q octets capacity room limit begun set Count is same less why =
    let stays : question_count set.counts ≡ question_count begun.counts = ap (λ x. question_count x.counts) same in
    let none : question_count begun.counts ≡ 0 = is.holds.question_count in
    absurd (omega (arith, why, stays, none))
not_asked_of c h q octets capacity room limit begun set Limit is same less why =
    let under : set.limit ≡ limit = ap (λ x. x.limit) same ∙ is.limit_is in
    let kept : set.reserved ≡ 0 = ap (λ x. x.reserved) same ∙ is.reserved in
    over_limit (exceeds_less _ _ limit _ (omega (arith, under, kept)) (subst (λ t. Exceeds (AsksIn c q t) t (set.limit - set.reserved)) (ap (λ x. x.octets) same ∙ is.octets) why))
not_asked_of c h q octets capacity room limit begun set Order is same less why =
    let stays : record_count set.counts ≡ record_count begun.counts = ap (λ x. record_count x.counts) same in
    absurd (omega (arith, why, stays, no_records c begun is.holds))

pub not_answered : {E : Type 0} (c : Bool) (h : Header) (q : QuestionFields) (head : RecordHead) (May : List ℕ → List ℕ → Type 0) (octets : List ℕ) (capacity room limit : ℕ) (s : State) (e : PushError E) → Asks c h q limit s → capacity ≤ room → RecordRefused c Answer head May s room e → NotAnswered c q head May octets capacity limit
not_answered c h q head May octets capacity room limit s (Append e) asked less why =
    too_big asked.octets.octets asked.octets.allowed (too_big_less c head May _ capacity room less (subst (λ t. RecordTooBig c head May t room) asked.octets.all why))
not_answered c h q head May octets capacity room limit s (Long e) asked less why =
    too_long asked.octets.octets asked.octets.allowed (subst (λ t. DataTooLong c head May t) asked.octets.all why)
not_answered c h q head May octets capacity room limit s Count asked less why =
    let none : answer_count s.counts ≡ 0 = asked.holds.answer_count in
    absurd (omega (arith, why, none))
not_answered c h q head May octets capacity room limit s Limit asked less why =
    too_much asked.octets.octets asked.octets.allowed (exceeds_less _ _ limit _ (omega (arith, asked.limit_is, asked.reserved)) (subst (λ t. Exceeds (RecordsIn c head May t) t (s.limit - s.reserved)) asked.octets.all why))
not_answered c h q head May octets capacity room limit s Order asked less why =
    let authority : authority_count s.counts ≡ 0 = asked.holds.authority_count in
    let additional : additional_count s.counts ≡ 0 = asked.holds.additional_count in
    absurd (omega (arith, why, authority, additional))

pub no_room_less : (o : Opt) (n small big limit : ℕ) → small ≤ big → HasNoRoomFor o n big limit → HasNoRoomFor o n small limit
no_room_less o n small big limit less (inl x) = inl (omega (arith, less, x))
no_room_less o n small big limit less (inr x) = inr x

pub not_sized : (c : Bool) (h : Header) (q : QuestionFields) (size : ℕ) (o : Opt) (octets : List ℕ) (capacity room limit : ℕ) (s : State) → o ≡ sized_opt size → Asks c h q limit s → capacity ≤ room → CannotAddOpt o room s → NotSized c q size octets capacity limit
not_sized c h q size o octets capacity room limit s same asked less (inl x) =
    let there = subst (λ k. HasNoRoomFor o (length s.octets) room k) asked.limit_is x in
    let after = subst (λ t. HasNoRoomFor o (length t) room limit) asked.octets.all there in
    no_opt asked.octets.octets asked.octets.allowed (no_room_less (sized_opt size) (length (blank_header ++ asked.octets.octets)) capacity room limit less (subst (λ k. HasNoRoomFor k (length (blank_header ++ asked.octets.octets)) room limit) same after))
not_sized c h q size o octets capacity room limit s same asked less (inr x) =
    let none : additional_count s.counts ≡ 0 = asked.holds.additional_count in
    absurd (omega (arith, x, none))

-- the same where an error is returned all the same
pub cannot_ask_so : (c : Bool) (q : QuestionFields) (octets : List ℕ) (capacity room limit : ℕ) (begun : State) → IsBegun c limit begun → capacity ≤ room → CannotAsk c q begun room → NotAsked c q octets capacity limit
cannot_ask_so c q octets capacity room limit begun is less (inl why) =
    no_room (exceeds_less _ _ capacity room less (subst (λ t. Exceeds (AsksIn c q t) t room) is.octets why))
cannot_ask_so c q octets capacity room limit begun is less (inr (inl why)) =
    let none : question_count begun.counts ≡ 0 = is.holds.question_count in
    absurd (omega (arith, why, none))
cannot_ask_so c q octets capacity room limit begun is less (inr (inr (inl why))) =
    over_limit (exceeds_less _ _ limit _ (omega (arith, is.limit_is, is.reserved)) (subst (λ t. Exceeds (AsksIn c q t) t (begun.limit - begun.reserved)) is.octets why))
cannot_ask_so c q octets capacity room limit begun is less (inr (inr (inr why))) =
    absurd (omega (arith, why, no_records c begun is.holds))
