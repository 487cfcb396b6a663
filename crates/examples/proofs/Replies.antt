-- What is held of an answer to a query, and why there is none.
use Rattle.std.proofs.Common.{◌≡◌, ℕ, ◌+◌, ◌-◌, ◌≤◌, inl, inr, Bool, true, false, List, [], ◌∷◌, ◌++◌, length, refl, sym, ap, subst, arith, ◌∙◌, is_ok, true≢false}
use Rattle.std.specs.Prelude.{Result, Ok, Err, Option, Some, OnOk, OnErr, IfErr}
use Rattle.std.proofs.lemmas.Option.{same_Some}
use Rattle.domain_header.specs.Bits.{bit}
use Rattle.domain_header.specs.Headers.{SetsHigh, answer_count, authority_count, additional_count}
use Rattle.domain_header.specs.declared.flags.Header.{Header}
use Rattle.domain_message.specs.Entries.{QuestionFields}
use Rattle.domain_message.specs.declared.section.Section.{Section}
use Rattle.domain_message.specs.declared.section.Section.TheVariants.{Answer, Authority, Additional}
use Rattle.domain_rdata.specs.ReadBack.{Appended, Exceeds}
use Rattle.domain_message_builder.specs.Answers.{AnswersHeaderOf, StartsAnswer, StartsError, NotStarted}
use Rattle.domain_message_builder.specs.Answers.StartsAnswer.{repeats, nothing}
use Rattle.domain_message_builder.specs.Answers.StartsError.{started, bare}
use Rattle.domain_message_builder.specs.Contents.{blank_header, Content, RecordHead, PushedRecord, no_content, AsksIn, RecordsIn, QuestionMay, Composed, Holds}
use Rattle.domain_message_builder.specs.Cuts.{EndsAnswer, EndsHeader, NotEnded, HasNoRoomFor, CannotAddOpt, is_cut, opt_record, with_opt}
use Rattle.domain_message_builder.specs.Cuts.EndsAnswer.{whole as ends_whole, bare as ends_bare}
use Rattle.domain_message_builder.specs.Cuts.NotEnded.{refused, no_room}
use Rattle.domain_message_builder.specs.Errors.{is_for_room}
use Rattle.domain_message_builder.specs.Finished.{finished_octets}
use Rattle.domain_message_builder.specs.Opt.{Opt}
use Rattle.domain_message_builder.specs.Pushes.{with_header, section_count, later_count, IsBegun, PushesRecord}
use Rattle.domain_message_builder.specs.Reading.{IsMessageOf}
use Rattle.domain_message_builder.specs.Refusals.{NotBegun, RecordTooBig, DataTooLong, RecordRefused}
use Rattle.domain_message_builder.specs.SectionStarts.{start_of}
use Rattle.domain_message_builder.specs.State.{State}
use Rattle.domain_message_builder.specs.declared.error.PushError.{PushError}
use Rattle.domain_message_builder.specs.declared.error.PushError.TheVariants.{Append, Long, Count, Limit, Order}
use Rattle.domain_message_builder.specs.declared.error.StartError.{StartError}
use Rattle.domain_message_builder.specs.declared.error.StartError.TheVariants.{Append as NoRoom, ShortLimit, NotEmpty}
use Rattle.examples.specs.Served.{RepeatsFirstQuestion, RepeatsIn, HasAa, IsReferral, IsAuthoritative, IsErrorAnswer, HasNoRoom, NotAppended, CannotAnswer, LacksRecord, IsWholeOrCut, NotEvenCut, with_sections}
use Rattle.examples.specs.Served.CannotAnswer.{not_empty, no_header, no_question}
use Rattle.examples.specs.Served.LacksRecord.{no_first, no_second}
use Rattle.examples.specs.Served.MustBeCut.{no_record, no_opt}
use Rattle.examples.specs.Served.IsWholeOrCut.{whole, cut}
use Rattle.examples.specs.Served.NotEvenCut.{too_long, no_opt as not_even_opt}
use Rattle.examples.specs.Served.RepeatsIfRoom.{all as as_asked, bare as without}
use Rattle.examples.proofs.Built.{PushedAfter, pushed_after, body_is, cannot_ask_so, exceeds_less, too_big_less, no_room_less, not_asked_of}

-- An answer to a query was begun, with this header at first.
pub record BegunAnswer (c : Bool) (query : List ℕ) (rcode limit : ℕ) (answered : Header) (s : State) : Type 0 where
  pub header : AnswersHeaderOf query rcode answered
  pub questions : List QuestionFields
  pub asked : List ℕ
  pub repeated : RepeatsIn c query questions asked
  pub octets : s.octets ≡ blank_header ++ asked
  pub limit_is : s.limit ≡ limit
  pub reserved : s.reserved ≡ 0
  pub holds : Holds c s (with_sections questions [] [] [])

pub begun_answer : (c : Bool) (query : List ℕ) (rcode code limit : ℕ) (begun s : State) → code ≡ rcode → IsBegun c limit begun → StartsAnswer c query code begun s → BegunAnswer c query rcode limit s.header s
begun_answer c query rcode code limit begun s same is (repeats header q first pushed) =
    let after = subst (λ t. Appended (AsksIn c q t) t s.octets) is.octets pushed.octets in
    record {
      header = subst (λ n. AnswersHeaderOf query n s.header) same header;
      questions = q ∷ [];
      asked = after.octets;
      repeated = (first, after.allowed);
      octets = after.all;
      limit_is = pushed.settings.limit ∙ is.limit_is;
      reserved = pushed.settings.reserved ∙ is.reserved;
      holds = pushed.holds no_content is.holds;
    }
begun_answer c query rcode code limit begun s same is (nothing header none stays) = record {
  header = subst (λ n. AnswersHeaderOf query n s.header) same header;
  questions = [];
  asked = [];
  repeated = (none, refl);
  octets = ap (λ x. x.octets) stays ∙ is.octets;
  limit_is = ap (λ x. x.limit) stays ∙ is.limit_is;
  reserved = ap (λ x. x.reserved) stays ∙ is.reserved;
  holds = subst (λ x. Holds c x no_content) (sym stays) is.holds;
}

repeats_first : (c : Bool) (query : List ℕ) (qs : List QuestionFields) (s : List ℕ) → RepeatsIn c query qs s → RepeatsFirstQuestion query qs
repeats_first c query [] s is = is.0
repeats_first c query (q ∷ []) s is = is.0
repeats_first c query (q ∷ r ∷ qs) s is = is

pub is_referral : (c : Bool) (query : List ℕ) (head : RecordHead) (May : List ℕ → List ℕ → Type 0) (glue : RecordHead) (Glue : List ℕ → List ℕ → Type 0) (limit : ℕ) (s t u : State) (m : List ℕ) → BegunAnswer c query 0 limit s.header s → PushesRecord c Authority head May s t → PushesRecord c Additional glue Glue t u
    → ((it : Content) → Holds c u it → IsMessageOf u.header it m) → m ≡ finished_octets u → IsReferral c query head May glue Glue m
is_referral c query head May glue Glue limit s t u m begun server address made octets =
    let one = pushed_after c Authority head May (blank_header ++ begun.asked) s t begun.octets server in
    let two = pushed_after c Additional glue Glue ((blank_header ++ begun.asked) ++ one.octets) t u one.all address in
    let first : PushedRecord = record { head = head; rdata = one.allowed.rdata } in
    let second : PushedRecord = record { head = glue; rdata = two.allowed.rdata } in
    let same : u.header ≡ s.header = address.settings.header ∙ server.settings.header in
    record {
      header = s.header;
      answers = begun.header;
      questions = begun.questions;
      asked = begun.asked;
      repeats = begun.repeated;
      server = one.octets;
      is_server = one.allowed;
      address = two.octets;
      is_glue = two.allowed;
      message = subst (λ h. IsMessageOf h (with_sections begun.questions [] (first ∷ []) (second ∷ [])) m) same
          (made (with_sections begun.questions [] (first ∷ []) (second ∷ [])) (two.holds (with_sections begun.questions [] (first ∷ []) []) (one.holds (with_sections begun.questions [] [] []) begun.holds)));
      octets = body_is u m ((begun.asked ++ one.octets) ++ two.octets) octets two.all;
    }

pub is_error_answer : (c : Bool) (query octets : List ℕ) (capacity room rcode : ℕ) (begun s : State) (m : List ℕ) → capacity ≤ room → IsBegun c 65535 begun → StartsError c query rcode room begun s → ((it : Content) → Holds c s it → IsMessageOf s.header it m) → IsErrorAnswer c query octets capacity rcode m
is_error_answer c query octets capacity room rcode begun s m less is (started start) made =
    let begins = begun_answer c query rcode rcode 65535 begun s refl is start in
    record {
      header = s.header;
      answers = begins.header;
      questions = begins.questions;
      repeats = as_asked (repeats_first c query begins.questions begins.asked begins.repeated);
      message = made (with_sections begins.questions [] [] []) begins.holds;
    }
is_error_answer c query octets capacity room rcode begun s m less is (bare header q first cannot stays) made =
    record {
      header = s.header;
      answers = header;
      questions = [];
      repeats = without q first (cannot_ask_so c q octets capacity room 65535 begun is less cannot) refl;
      message = made no_content (subst (λ x. Holds c x no_content) (sym stays) is.holds);
    }

-- ---- why there is no answer

pub cannot_begin : {E : Type 0} (c : Bool) (query octets : List ℕ) (capacity limit : ℕ) (e : StartError E) → 12 ≤ limit → NotBegun octets capacity limit e → CannotAnswer c query octets capacity limit
cannot_begin c query octets capacity limit (NoRoom e) wide why = no_header why
cannot_begin c query octets capacity limit ShortLimit wide why = absurd (omega (arith, wide, why))
cannot_begin c query octets capacity limit NotEmpty wide why = not_empty why

pub cannot_repeat : {E : Type 0} (c : Bool) (query octets : List ℕ) (capacity room limit : ℕ) (begun : State) (e : PushError E) → IsBegun c limit begun → capacity ≤ room → NotStarted c query begun room e → CannotAnswer c query octets capacity limit
cannot_repeat c query octets capacity room limit begun e is less why =
    no_question why.0 why.1 (not_asked_of c begun.header why.0 octets capacity room limit begun begun e is refl less why.2)

-- a record was refused after the octets o
pub not_appended : {E : Type 0} (c : Bool) (section : Section) (head : RecordHead) (May : List ℕ → List ℕ → Type 0) (o : List ℕ) (capacity room limit : ℕ) (s : State) (e : PushError E) → s.octets ≡ o → s.limit ≡ limit → s.reserved ≡ 0 → capacity ≤ room
    → section_count section s.counts ≡ 0 → later_count section s.counts ≡ 0 → RecordRefused c section head May s room e → NotAppended c head May o capacity limit
not_appended c section head May o capacity room limit s (Append e) same under kept less none later why =
    inl (inl (too_big_less c head May o capacity room less (subst (λ t. RecordTooBig c head May t room) same why)))
not_appended c section head May o capacity room limit s (Long e) same under kept less none later why =
    inr (subst (λ t. DataTooLong c head May t) same why)
not_appended c section head May o capacity room limit s Count same under kept less none later why =
    absurd (omega (arith, why, none))
not_appended c section head May o capacity room limit s Limit same under kept less none later why =
    inl (inr (exceeds_less (RecordsIn c head May o) o limit (s.limit - s.reserved) (omega (arith, under, kept)) (subst (λ t. Exceeds (RecordsIn c head May t) t (s.limit - s.reserved)) same why)))
not_appended c section head May o capacity room limit s Order same under kept less none later why =
    absurd (omega (arith, why, later))

-- the server wasn't pushed
pub lacks_server : {E : Type 0} (c : Bool) (query : List ℕ) (head : RecordHead) (May : List ℕ → List ℕ → Type 0) (glue : RecordHead) (Glue : List ℕ → List ℕ → Type 0) (octets : List ℕ) (capacity room limit : ℕ) (s : State) (e : PushError E) → BegunAnswer c query 0 limit s.header s → capacity ≤ room
    → RecordRefused c Authority head May s room e → LacksRecord c query head May glue Glue octets capacity limit
lacks_server c query head May glue Glue octets capacity room limit s e begun less why =
    let authority : authority_count s.counts ≡ 0 = begun.holds.authority_count in
    let additional : additional_count s.counts ≡ 0 = begun.holds.additional_count in
    no_first begun.questions begun.asked begun.repeated (not_appended c Authority head May (blank_header ++ begun.asked) capacity room limit s e begun.octets begun.limit_is begun.reserved less authority additional why)

-- the address wasn't
pub lacks_glue : {E : Type 0} (c : Bool) (query : List ℕ) (head : RecordHead) (May : List ℕ → List ℕ → Type 0) (glue : RecordHead) (Glue : List ℕ → List ℕ → Type 0) (octets : List ℕ) (capacity room limit : ℕ) (s t : State) (e : PushError E) → BegunAnswer c query 0 limit s.header s → PushesRecord c Authority head May s t → capacity ≤ room
    → RecordRefused c Additional glue Glue t room e → LacksRecord c query head May glue Glue octets capacity limit
lacks_glue c query head May glue Glue octets capacity room limit s t e begun server less why =
    let one = pushed_after c Authority head May (blank_header ++ begun.asked) s t begun.octets server in
    let held = one.holds (with_sections begun.questions [] [] []) begun.holds in
    let additional : additional_count t.counts ≡ 0 = held.additional_count in
    no_second begun.questions begun.asked one.octets begun.repeated one.allowed
    (not_appended c Additional glue Glue ((blank_header ++ begun.asked) ++ one.octets) capacity room limit t e one.all (server.settings.limit ∙ begun.limit_is) (server.settings.reserved ∙ begun.reserved) less additional refl why)

-- ---- answers that may be cut

-- a refusal because the room doesn't suffice
for_room : {E : Type 0} (c : Bool) (head : RecordHead) (May : List ℕ → List ℕ → Type 0) (o : List ℕ) (capacity limit : ℕ) (s : State) (room : ℕ) (e : PushError E) → s.octets ≡ o → s.limit ≡ limit → s.reserved ≡ 0 → capacity ≤ room → (is_for_room e ≡ false → ⊥) → RecordRefused c Answer head May s room e → HasNoRoom c head May o capacity limit
for_room c head May o capacity limit s room (Append e) same under kept less not why =
    inl (too_big_less c head May o capacity room less (subst (λ t. RecordTooBig c head May t room) same why))
for_room c head May o capacity limit s room (Long e) same under kept less not why = absurd (not refl)
for_room c head May o capacity limit s room Count same under kept less not why = absurd (not refl)
for_room c head May o capacity limit s room Limit same under kept less not why =
    inr (exceeds_less (RecordsIn c head May o) o limit (s.limit - s.reserved) (omega (arith, under, kept)) (subst (λ t. Exceeds (RecordsIn c head May t) t (s.limit - s.reserved)) same why))
for_room c head May o capacity limit s room Order same under kept less not why = absurd (not refl)

-- the answer was finished, so no other refusal was passed to it
ok_not_err : {A E : Type 0} (x : A) (e : E) → ◌≡◌ {A = Result A E} (Ok x) (Err e) → ⊥
ok_not_err x e same = true≢false (ap is_ok same)

-- What a push of the record came to: it is there, or has no room.
pub data Pushed {A E : Type 0} (r : Result A (PushError E)) (c : Bool) (head : RecordHead) (May : List ℕ → List ℕ → Type 0) (o : List ℕ) (capacity limit : ℕ) (s t : State) : Type 0 where
  done : is_cut r ≡ false → PushedAfter c Answer head May o s t → t.header ≡ s.header → t.limit ≡ limit → Pushed r c head May o capacity limit s t
  not_done : is_cut r ≡ true → HasNoRoom c head May o capacity limit → t ≡ s → Pushed r c head May o capacity limit s t

pub pushed_or_not : {A E T : Type 0} (r : Result A (PushError E)) (c : Bool) (query : List ℕ) (head : RecordHead) (May : List ℕ → List ℕ → Type 0) (capacity room limit : ℕ) (s t : State) (made : T) (begun : BegunAnswer c query 0 limit s.header s) → capacity ≤ room → OnOk r (PushesRecord c Answer head May s t) → OnErr r (t ≡ s)
    → IfErr r (λ e. RecordRefused c Answer head May s room e) → IfErr r (λ e. is_for_room e ≡ false → ◌≡◌ {A = Result T (PushError E)} (Ok made) (Err e)) → Pushed r c head May (blank_header ++ begun.asked) capacity limit s t
pushed_or_not (Ok x) c query head May capacity room limit s t made begun less pushed stays why passed =
    done refl (pushed_after c Answer head May (blank_header ++ begun.asked) s t begun.octets pushed) pushed.settings.header (pushed.settings.limit ∙ begun.limit_is)
pushed_or_not (Err e) c query head May capacity room limit s t made begun less pushed stays why passed =
    not_done refl (for_room c head May (blank_header ++ begun.asked) capacity limit s room e begun.octets begun.limit_is begun.reserved less (λ other. ok_not_err made e (passed other)) why) stays

opt_has_no_room : (o opt : Opt) (octets : List ℕ) (capacity room limit : ℕ) (t : State) → opt ≡ o → t.octets ≡ octets → t.limit ≡ limit → capacity ≤ room → additional_count t.counts ≡ 0 → CannotAddOpt opt room t → HasNoRoomFor o (length octets) capacity limit
opt_has_no_room o opt octets capacity room limit t same there under less none (inl x) =
    let of_this = subst (λ k. HasNoRoomFor k (length t.octets) room t.limit) same x in
    let after = subst (λ n. HasNoRoomFor o (length n) room t.limit) there of_this in
    no_room_less o (length octets) capacity room limit less (subst (λ k. HasNoRoomFor o (length octets) room k) under after)
opt_has_no_room o opt octets capacity room limit t same there under less none (inr x) = absurd (omega (arith, x, none))

pub is_whole_or_cut : {A E : Type 0} (r : Result A (PushError E)) (c : Bool) (query : List ℕ) (head : RecordHead) (May : List ℕ → List ℕ → Type 0) (o : Opt) (given : Option Opt) (capacity room limit : ℕ) (s t : State) (m : List ℕ) → given ≡ Some o → (begun : BegunAnswer c query 0 limit s.header s) → capacity ≤ room
    → Pushed r c head May (blank_header ++ begun.asked) capacity limit s t → EndsAnswer c (is_cut r) given room t m → IsWholeOrCut c query head May o capacity limit m
is_whole_or_cut r c query head May o given capacity room limit s t m same begun less (done is pushed header under) (ends_whole h sets made) =
    let one : PushedRecord = record { head = head; rdata = pushed.allowed.rdata } in
    let it = with_sections begun.questions (one ∷ []) [] [] in
    let stays : h ≡ t.header = subst (λ b. EndsHeader b t.header h) is sets in
    whole s.header begun.header begun.questions begun.asked pushed.octets begun.repeated pushed.allowed
    (subst (λ k. IsMessageOf k (with_sections begun.questions (one ∷ []) [] (opt_record o ∷ [])) m) (stays ∙ header)
    (subst (λ g. IsMessageOf h (with_opt g it) m) same (made it (pushed.holds (with_sections begun.questions [] [] []) begun.holds))))
is_whole_or_cut r c query head May o given capacity room limit s t m same begun less (done is pushed header under) (ends_bare opt is_opt cannot h sets made) =
    let one : PushedRecord = record { head = head; rdata = pushed.allowed.rdata } in
    let it = with_sections begun.questions (one ∷ []) [] [] in
    let held = pushed.holds (with_sections begun.questions [] [] []) begun.holds in
    cut s.header h begun.header (subst (λ k. SetsHigh 2 2 1 k h) header sets) begun.questions begun.asked begun.repeated
    (no_opt pushed.octets pushed.allowed (opt_has_no_room o opt ((blank_header ++ begun.asked) ++ pushed.octets) capacity room limit t (same_Some opt o (sym is_opt ∙ same)) pushed.all under less held.additional_count cannot))
    (subst (λ g. IsMessageOf h (with_opt g (with_sections begun.questions [] [] [])) m) same (made it held))
is_whole_or_cut r c query head May o given capacity room limit s t m same begun less (not_done is why stays) (ends_whole h sets made) =
    let it = with_sections begun.questions [] [] [] in
    let marks : SetsHigh 2 2 1 t.header h = subst (λ b. EndsHeader b t.header h) is sets in
    cut s.header h begun.header (subst (λ x. SetsHigh 2 2 1 x.header h) stays marks) begun.questions begun.asked begun.repeated (no_record why)
    (subst (λ g. IsMessageOf h (with_opt g it) m) same (made it (subst (λ x. Holds c x it) (sym stays) begun.holds)))
is_whole_or_cut r c query head May o given capacity room limit s t m same begun less (not_done is why stays) (ends_bare opt is_opt cannot h sets made) =
    let it = with_sections begun.questions [] [] [] in
    cut s.header h begun.header (subst (λ x. SetsHigh 2 2 1 x.header h) stays sets) begun.questions begun.asked begun.repeated (no_record why)
    (subst (λ g. IsMessageOf h (with_opt g it) m) same (made it (subst (λ x. Holds c x it) (sym stays) begun.holds)))

-- a refusal for any reason except room is for the length of the data
long_alone : {E : Type 0} (c : Bool) (head : RecordHead) (May : List ℕ → List ℕ → Type 0) (o : List ℕ) (s : State) (room : ℕ) (e : PushError E) → s.octets ≡ o → section_count Answer s.counts ≡ 0 → later_count Answer s.counts ≡ 0 → is_for_room e ≡ false → RecordRefused c Answer head May s room e → DataTooLong c head May o
long_alone c head May o s room (Append e) same none later other why = absurd (true≢false other)
long_alone c head May o s room (Long e) same none later other why = subst (λ t. DataTooLong c head May t) same why
long_alone c head May o s room Count same none later other why = absurd (omega (arith, why, none))
long_alone c head May o s room Limit same none later other why = absurd (true≢false other)
long_alone c head May o s room Order same none later other why = absurd (omega (arith, why, later))

-- where the records begin
records_begin : (c : Bool) (query : List ℕ) (qs : List QuestionFields) (asked after : List ℕ) → RepeatsIn c query qs asked → Composed (QuestionMay c) blank_header qs after → (s : List ℕ) × RepeatsIn c query qs s × (after ≡ blank_header ++ s)
records_begin c query [] asked after is held = ([], (is.0, refl), held)
records_begin c query (q ∷ []) asked after is held = (held.0, (is.0, held.1.octets), held.2)
records_begin c query (q ∷ r ∷ qs) asked after is held = absurd is

-- also after a push
still_begin : {A E : Type 0} (r : Result A E) (c : Bool) (query : List ℕ) (head : RecordHead) (May : List ℕ → List ℕ → Type 0) (limit : ℕ) (s t : State) (begun : BegunAnswer c query 0 limit s.header s) → OnOk r (PushesRecord c Answer head May s t) → OnErr r (t ≡ s)
    → (after : List ℕ) × Composed (QuestionMay c) blank_header begun.questions after × (start_of Answer t.starts ≡ length after)
still_begin (Ok x) c query head May limit s t begun pushed stays =
    let held = pushed.holds (with_sections begun.questions [] [] []) begun.holds in
    (held.after_questions, held.questions, held.answers_begin)
still_begin (Err e) c query head May limit s t begun pushed stays =
    (begun.holds.after_questions, begun.holds.questions, ap (λ x. start_of Answer x.starts) stays ∙ begun.holds.answers_begin)

-- A message that was begun, and to which a record was pushed or not, has the limit that it was begun with.
pub limit_stays : {A E : Type 0} (r : Result A E) (c : Bool) (query : List ℕ) (head : RecordHead) (May : List ℕ → List ℕ → Type 0) (limit : ℕ) (s t : State) → BegunAnswer c query 0 limit s.header s → OnOk r (PushesRecord c Answer head May s t) → OnErr r (t ≡ s) → t.limit ≡ limit
limit_stays (Ok x) c query head May limit s t begun pushed stays = pushed.settings.limit ∙ begun.limit_is
limit_stays (Err e) c query head May limit s t begun pushed stays = ap (λ x. x.limit) stays ∙ begun.limit_is

pub not_even_cut : {A E : Type 0} (r : Result A (PushError E)) (c : Bool) (query : List ℕ) (head : RecordHead) (May : List ℕ → List ℕ → Type 0) (o : Opt) (given : Option Opt) (octets : List ℕ) (capacity room at_end limit : ℕ) (s t : State) (e : PushError E) → given ≡ Some o → BegunAnswer c query 0 limit s.header s → capacity ≤ at_end
    → OnOk r (PushesRecord c Answer head May s t) → OnErr r (t ≡ s) → IfErr r (λ x. RecordRefused c Answer head May s room x) → NotEnded r given at_end t e → NotEvenCut c query head May o octets capacity limit
not_even_cut r c query head May o given octets capacity room at_end limit s t e same begun less pushed stays why (refused is other) =
    let told = subst (λ x. IfErr x (λ y. RecordRefused c Answer head May s room y)) is why in
    let answers : answer_count s.counts ≡ 0 = begun.holds.answer_count in
    let authority : authority_count s.counts ≡ 0 = begun.holds.authority_count in
    let additional : additional_count s.counts ≡ 0 = begun.holds.additional_count in
    too_long begun.questions begun.asked begun.repeated (long_alone c head May (blank_header ++ begun.asked) s room e begun.octets answers (omega (arith, authority, additional)) other told)
not_even_cut r c query head May o given octets capacity room at_end limit s t e same begun less pushed stays why (no_room opt is of_room lacks) =
    let start = still_begin r c query head May limit s t begun pushed stays in
    let first = records_begin c query begun.questions begun.asked start.0 begun.repeated start.1 in
    let of_this = subst (λ k. HasNoRoomFor k (start_of Answer t.starts) at_end t.limit) (same_Some opt o (sym is ∙ same)) lacks in
    let there = subst (λ n. HasNoRoomFor o n at_end t.limit) (start.2 ∙ ap length first.2) of_this in
    let under = subst (λ k. HasNoRoomFor o (length (blank_header ++ first.0)) at_end k) (limit_stays r c query head May limit s t begun pushed stays) there in
    not_even_opt begun.questions first.0 first.1 (no_room_less o (length (blank_header ++ first.0)) capacity at_end limit less under)

-- ---- answers from the zone itself

-- The header was set after the answer was begun.
pub marked_answer : (c : Bool) (query : List ℕ) (rcode limit : ℕ) (h : Header) (s marked : State) → BegunAnswer c query rcode limit s.header s → marked ≡ with_header h s → BegunAnswer c query rcode limit s.header marked
marked_answer c query rcode limit h s marked begun same =
    subst (BegunAnswer c query rcode limit s.header) (sym same) (record { header = begun.header; questions = begun.questions; asked = begun.asked; repeated = begun.repeated; octets = begun.octets; limit_is = begun.limit_is; reserved = begun.reserved; holds = begun.holds })

pub is_authoritative : (c : Bool) (query : List ℕ) (head : RecordHead) (May : List ℕ → List ℕ → Type 0) (servers : RecordHead) (Servers : List ℕ → List ℕ → Type 0) (limit : ℕ) (plain h : Header) (s t u : State) (m : List ℕ) → BegunAnswer c query 0 limit plain s → SetsHigh 4 2 1 plain h → s.header ≡ h
    → PushesRecord c Answer head May s t → PushesRecord c Authority servers Servers t u → ((it : Content) → Holds c u it → IsMessageOf u.header it m) → m ≡ finished_octets u → IsAuthoritative c query head May servers Servers m
is_authoritative c query head May servers Servers limit plain h s t u m begun sets is answer server made octets =
    let one = pushed_after c Answer head May (blank_header ++ begun.asked) s t begun.octets answer in
    let two = pushed_after c Authority servers Servers ((blank_header ++ begun.asked) ++ one.octets) t u one.all server in
    let first : PushedRecord = record { head = head; rdata = one.allowed.rdata } in
    let second : PushedRecord = record { head = servers; rdata = two.allowed.rdata } in
    let same : u.header ≡ h = server.settings.header ∙ (answer.settings.header ∙ is) in
    record {
      plain = plain;
      answers = begun.header;
      header = h;
      authoritative = sets;
      questions = begun.questions;
      asked = begun.asked;
      repeats = begun.repeated;
      answer = one.octets;
      is_answer = one.allowed;
      server = two.octets;
      is_server = two.allowed;
      message = subst (λ k. IsMessageOf k (with_sections begun.questions (first ∷ []) (second ∷ []) []) m) same
          (made (with_sections begun.questions (first ∷ []) (second ∷ []) []) (two.holds (with_sections begun.questions (first ∷ []) [] []) (one.holds (with_sections begun.questions [] [] []) begun.holds)));
      octets = body_is u m ((begun.asked ++ one.octets) ++ two.octets) octets two.all;
    }

-- its bit AA is set
pub has_aa : (c : Bool) (query : List ℕ) (head : RecordHead) (May : List ℕ → List ℕ → Type 0) (servers : RecordHead) (Servers : List ℕ → List ℕ → Type 0) (m : List ℕ) → IsAuthoritative c query head May servers Servers m → HasAa m
has_aa c query head May servers Servers m is = ap (λ n. bit 4 n) is.message.high ∙ is.authoritative.high.set

-- the record wasn't pushed
pub lacks_answer : {E : Type 0} (c : Bool) (query : List ℕ) (head : RecordHead) (May : List ℕ → List ℕ → Type 0) (servers : RecordHead) (Servers : List ℕ → List ℕ → Type 0) (octets : List ℕ) (capacity room limit : ℕ) (plain : Header) (s : State) (e : PushError E) → BegunAnswer c query 0 limit plain s → capacity ≤ room
    → RecordRefused c Answer head May s room e → LacksRecord c query head May servers Servers octets capacity limit
lacks_answer c query head May servers Servers octets capacity room limit plain s e begun less why =
    let answers : answer_count s.counts ≡ 0 = begun.holds.answer_count in
    let authority : authority_count s.counts ≡ 0 = begun.holds.authority_count in
    let additional : additional_count s.counts ≡ 0 = begun.holds.additional_count in
    no_first begun.questions begun.asked begun.repeated (not_appended c Answer head May (blank_header ++ begun.asked) capacity room limit s e begun.octets begun.limit_is begun.reserved less answers (omega (arith, authority, additional)) why)

-- the server wasn't
pub lacks_ns : {E : Type 0} (c : Bool) (query : List ℕ) (head : RecordHead) (May : List ℕ → List ℕ → Type 0) (servers : RecordHead) (Servers : List ℕ → List ℕ → Type 0) (octets : List ℕ) (capacity room limit : ℕ) (plain : Header) (s t : State) (e : PushError E) → BegunAnswer c query 0 limit plain s → PushesRecord c Answer head May s t → capacity ≤ room
    → RecordRefused c Authority servers Servers t room e → LacksRecord c query head May servers Servers octets capacity limit
lacks_ns c query head May servers Servers octets capacity room limit plain s t e begun answer less why =
    let one = pushed_after c Answer head May (blank_header ++ begun.asked) s t begun.octets answer in
    let held = one.holds (with_sections begun.questions [] [] []) begun.holds in
    let authority : authority_count t.counts ≡ 0 = held.authority_count in
    let additional : additional_count t.counts ≡ 0 = held.additional_count in
    no_second begun.questions begun.asked one.octets begun.repeated one.allowed
    (not_appended c Authority servers Servers ((blank_header ++ begun.asked) ++ one.octets) capacity room limit t e one.all (answer.settings.limit ∙ begun.limit_is) (answer.settings.reserved ∙ begun.reserved) less authority additional why)
