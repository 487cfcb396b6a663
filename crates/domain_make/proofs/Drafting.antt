-- What a builder holds after each line.
use Rattle.std.proofs.Common.{◌≡◌, ℕ, ◌+◌, ◌<◌, ◌≤◌, Bool, true, List, [], ◌∷◌, length, drop, refl, sym, ap, subst, ◌∙◌, arith, add-one, inl, inr}
use Rattle.std.specs.Prelude.{◌≢◌, slice_index, slice_range, Result, Ok, Err, OnOk, IfOk, Option, Some, None, IfSome}
use Rattle.domain_header.specs.Bits.{bits}
use Rattle.domain_header.specs.Headers.{header_low}
use Rattle.domain_header.specs.declared.flags.Header.{Header}
use Rattle.domain_message.specs.Entries.{QuestionFields}
use Rattle.domain_message.specs.declared.section.Section.{Section}
use Rattle.domain_message.specs.declared.section.Section.TheVariants.{Additional}
use Rattle.domain_message_builder.specs.Contents.{Content, RecordHead, no_content, question_added, Holds}
use Rattle.domain_message_builder.specs.Pushes.{with_header, record_added, IsBegun, PushesQuestion, PushesRecord}
use Rattle.domain_message_builder.specs.Reading.{IsMessageOf}
use Rattle.domain_message_builder.specs.State.{State}
use Rattle.domain_make.specs.Drafts.{Draft, IsBlankDraft, IsAsked, IsRemark, IsLine, LinesSay, TextSays, IsDraft, DraftsLine, DraftsThere, DraftsLines, settled_draft}
use Rattle.domain_make.specs.Drafts.LineSays.{empty, remark, asked, question, entry, option as says_option, cut as says_cut}
use Rattle.domain_make.specs.Drafts.LinesSay.{none, line}
use Rattle.domain_make.specs.Entries.{IsQuestionWords, IsRecordWords}
use Rattle.domain_make.specs.Opts.{AreOptionsAhead, IsEdnsLine, IsOtherStatus, edns_head}
use Rattle.domain_make.specs.Stops.{IfFault}
use Rattle.domain_make.specs.Made.{IsMade, IfLine}
use Rattle.domain_make.specs.Refusals.{RefusesLine, StopsAtLine, StopsFrom, EntriesHaveRoom}
use Rattle.domain_make.specs.Remarks.{IsTrimmed, Remarks, settled}
use Rattle.domain_make.specs.Taking.{LeadsBelow}
use Rattle.domain_make.specs.Taking.LeadsBelow.{option as leads_option, cut as leads_cut}
use Rattle.domain_make.specs.Words.{WordAt, words_at, AreWords}
use Rattle.domain_make.specs.declared.words.Word.{Word}
use Rattle.domain_make.specs.declared.error.LineError.{LineError}
use Rattle.domain_make.specs.declared.error.MakeError.{MakeError}
use Rattle.domain_make.specs.declared.error.MakeError.TheVariants.{Line, Read, Write, Memory}
use Rattle.domain_make.specs.declared.remark.Stage.{Stage}
use Rattle.domain_make.specs.declared.opt.EdnsTold.{EdnsTold}
use Rattle.domain_make.specs.declared.remark.Stage.TheVariants.{Start, Questions, Records, Options}
use Rattle.domain_make.specs.declared.error.Stop.{Stop}
use Rattle.domain_make.specs.declared.error.Stop.TheVariants.{Refused}
use Rattle.domain_make.proofs.Refusing.{accepted}

-- What follows where a call succeeds.
pub on_ok : {E : Type 0} (P Q : Type 0) (r : Result (Unit {0}) E) → (P → Q) → OnOk r P → OnOk r Q
on_ok P Q (Ok x) follows h = follows h
on_ok P Q (Err e) follows h = tt

-- What was said is held at the stage of records, too.
settled_held : (c : Bool) (stage : Stage) (s : State) (d : Draft) → IsDraft c stage s d → IsDraft c (settled stage) s (settled_draft d)
settled_held c stage s d is = record { stage_is = ap settled is.stage_is; header_is = is.header_is; limit_is = is.limit_is; reserved_is = is.reserved_is; holds = is.holds }

-- A line says nothing.
pub takes_nothing : (c : Bool) (l : List ℕ) (stage : Stage) (s : State) (words : List Word) → slice_index l 0 ≢ 59 → length words ≡ 0 → AreWords l 0 (words_at words) → DraftsLine c l stage s (settled stage) s
takes_nothing c l stage s [] plain no_words are = λ d is. (settled_draft d, empty plain are refl, settled_held c stage s d is)
takes_nothing c l stage s (w ∷ words) plain no_words are = absurd (omega arith)

-- A remark leads to another stage or header.
pub takes_remark : (c : Bool) (l text : List ℕ) (stage next : Stage) (old new : State) (h : Header) → IsRemark l stage → IsTrimmed l text → Remarks text stage old.header next h → new ≡ with_header h old → DraftsLine c l stage old next new
takes_remark c l text stage next old new h marked trimmed says same = λ d is.
    let at_place : Remarks text d.stage old.header next h = subst (λ p. Remarks text p old.header next h) (sym is.stage_is) says in
    let at_header : Remarks text d.stage d.header next h = subst (λ k. Remarks text d.stage k next h) (sym is.header_is) at_place in (
      record { stage = next; header = h; content = d.content },
      remark text (subst (λ p. IsRemark l p) (sym is.stage_is) marked) trimmed at_header refl,
      record {
        stage_is = refl;
        header_is = sym (ap (λ s. s.header) same);
        limit_is = ap (λ (s : State). s.limit) same ∙ is.limit_is;
        reserved_is = ap (λ (s : State). s.reserved) same ∙ is.reserved_is;
        holds = subst (λ s. Holds c s d.content) (sym same) is.holds;
      },
    )

-- A question was pushed.
after_question : (c : Bool) (q : QuestionFields) (old new : State) (d : Draft) → PushesQuestion c q old new → IsDraft c Questions old d → IsDraft c Questions new (record d { content = question_added d.content q })
after_question c q old new d pushed is = record {
  stage_is = is.stage_is;
  header_is = is.header_is ∙ sym pushed.settings.header;
  limit_is = pushed.settings.limit ∙ is.limit_is;
  reserved_is = pushed.settings.reserved ∙ is.reserved_is;
  holds = pushed.holds d.content is.holds;
}

pub takes_question : (c : Bool) (l : List ℕ) (old new : State) (words : List WordAt) (q : QuestionFields) → slice_index l 0 ≢ 59 → AreWords l 0 words → IsQuestionWords words q → PushesQuestion c q old new → DraftsLine c l Questions old Questions new
takes_question c l old new words q plain are says pushed = λ d is. (record d { content = question_added d.content q }, question words q is.stage_is plain are says refl, after_question c q old new d pushed is)

pub takes_asked : (c : Bool) (l : List ℕ) (old new : State) (words : List WordAt) (q : QuestionFields) → IsAsked l → AreWords l 1 words → IsQuestionWords words q → PushesQuestion c q old new → DraftsLine c l Questions old Questions new
takes_asked c l old new words q begins are says pushed = λ d is. (record d { content = question_added d.content q }, asked words q is.stage_is begins are says refl, after_question c q old new d pushed is)

-- A record was pushed.
record_held : (c : Bool) (stage next : Stage) (section : Section) (old new : State) (head : RecordHead) (octets : List ℕ) (d : Draft) → PushesRecord c section head (λ _ s. s ≡ octets) old new → IsDraft c stage old d
    → IsDraft c next new (record d { stage = next; content = record_added section d.content (record { head = head; rdata = octets }) })
record_held c stage next section old new head octets d pushed is = record {
  stage_is = refl;
  header_is = is.header_is ∙ sym pushed.settings.header;
  limit_is = pushed.settings.limit ∙ is.limit_is;
  reserved_is = pushed.settings.reserved ∙ is.reserved_is;
  holds = subst (λ o. Holds c new (record_added section d.content (record { head = head; rdata = o }))) pushed.octets.allowed.data_allowed (pushed.holds d.content is.holds);
}

pub takes_record : (c : Bool) (l : List ℕ) (stage : Stage) (section : Section) (old new : State) (words : List WordAt) (head : RecordHead) (octets : List ℕ) → settled stage ≡ Records section → slice_index l 0 ≢ 59 → AreWords l 0 words
    → IsRecordWords l words head octets → PushesRecord c section head (λ _ s. s ≡ octets) old new → DraftsLine c l stage old (Records section) new
takes_record c l stage section old new words head octets place plain are says pushed = λ d is. (
  record d { stage = Records section; content = record_added section d.content (record { head = head; rdata = octets }) },
  entry section words head octets (ap settled is.stage_is ∙ place) plain are says refl,
  record_held c stage (Records section) section old new head octets d pushed is,
)

-- The same at each stage where records of the section are, if it was pushed.
pub record_ok : {E : Type 0} (c : Bool) (l : List ℕ) (section : Section) (old new : State) (words : List WordAt) (r : Result (Unit {0}) E) → slice_index l 0 ≢ 59 → AreWords l 0 words
    → OnOk r ((head : RecordHead) × (octets : List ℕ) × IsRecordWords l words head octets × PushesRecord c section head (λ _ s. s ≡ octets) old new)
    → OnOk r ((stage : Stage) → settled stage ≡ Records section → DraftsLine c l stage old (Records section) new)
record_ok c l section old new words (Ok x) plain are h = λ stage place. takes_record c l stage section old new words h.0 h.1 place plain are h.2 h.3
record_ok c l section old new words (Err e) plain are h = tt

-- What is taken at any stage of the section is at this one.
pub section_ok : {E : Type 0} (c : Bool) (l : List ℕ) (stage : Stage) (section : Section) (old new : State) (r : Result (Unit {0}) E) → Records section ≡ settled stage
    → OnOk r ((t : Stage) → settled t ≡ Records section → DraftsLine c l t old (Records section) new) → OnOk r (DraftsLine c l stage old (settled stage) new)
section_ok c l stage section old new (Ok x) at takes = subst (λ next. DraftsLine c l stage old next new) at (takes stage (sym at))
section_ok c l stage section old new (Err e) at takes = tt

-- An OPT record was pushed.
pub takes_opt : (c : Bool) (l ahead text : List ℕ) (stage : Stage) (old new : State) (told : EdnsTold) (octets : List ℕ) → settled stage ≡ Records Additional → IsTrimmed l text → IsEdnsLine text told
    → (IsOtherStatus told (bits 1 16 (header_low old.header)) → ⊥) → AreOptionsAhead ahead octets → PushesRecord c Additional (edns_head told) (λ _ s. s ≡ octets) old new → DraftsThere c l ahead stage old Options new
takes_opt c l ahead text stage old new told octets place trimmed edns code options pushed = λ d is. (
  record d { stage = Options; content = record_added Additional d.content (record { head = edns_head told; rdata = octets }) },
  inr (record {
    text = text;
    told = told;
    octets = octets;
    place = ap settled is.stage_is ∙ place;
    cut = trimmed;
    is = edns;
    code = subst (λ h. IsOtherStatus told (bits 1 16 (header_low h)) → ⊥) (sym is.header_is) code;
    options = options;
    new_is = refl;
  }),
  record_held c stage Options Additional old new (edns_head told) octets d pushed is,
)

-- A line of the options of an OPT record.
pub takes_below : (c : Bool) (l : List ℕ) (s : State) (next : Stage) → LeadsBelow l next → DraftsLine c l Options s next s
takes_below c l s next (leads_option text octets trimmed is_option) = λ d is. (d, says_option text octets is.stage_is trimmed is_option refl, is)
takes_below c l s next (leads_cut text octets trimmed is_cut) = λ d is. (settled_draft d, says_cut text octets is.stage_is trimmed is_cut refl, settled_held c Options s d is)

-- A line that says no OPT record, whatever is below it.
pub takes_there : (c : Bool) (l ahead : List ℕ) (stage next : Stage) (old new : State) → DraftsLine c l stage old next new → DraftsThere c l ahead stage old next new
takes_there c l ahead stage next old new takes = λ d is. let more = takes d is in (more.0, inl more.1, more.2)

-- The same where both stages are known.
pub there_at : (c : Bool) (l ahead : List ℕ) (stage place next to : Stage) (old new : State) → stage ≡ place → next ≡ to → DraftsLine c l place old to new → DraftsThere c l ahead stage old next new
there_at c l ahead stage place next to old new at leads takes = takes_there c l ahead stage next old new (subst (λ s. DraftsLine c l s old next new) (sym at) (subst (λ n. DraftsLine c l place old n new) (sym leads) takes))

-- The same of a stage that is known, if the line is taken.
pub there_ok : (c : Bool) (l ahead : List ℕ) (stage place : Stage) (old new : State) (r : Result Stage Stop) → stage ≡ place → IfOk r (λ next. DraftsLine c l place old next new) → IfOk r (λ next. DraftsThere c l ahead stage old next new)
there_ok c l ahead stage place old new (Ok next) at takes = there_at c l ahead stage place next next old new at refl takes
there_ok c l ahead stage place old new (Err stop) at takes = tt

-- An OPT record, if it is taken.
pub opt_ok : (c : Bool) (l ahead text : List ℕ) (stage : Stage) (old new : State) (told : EdnsTold) (r : Result Stage Stop) → settled stage ≡ Records Additional → IsTrimmed l text → IsEdnsLine text told
    → IfOk r (λ _. IsOtherStatus told (bits 1 16 (header_low old.header)) → ⊥) → IfOk r (λ next. next ≡ Options)
    → IfOk r (λ _. (octets : List ℕ) × AreOptionsAhead ahead octets × PushesRecord c Additional (edns_head told) (λ _ s. s ≡ octets) old new) → IfOk r (λ next. DraftsThere c l ahead stage old next new)
opt_ok c l ahead text stage old new told (Ok next) place trimmed edns code at adds =
    subst (λ n. DraftsThere c l ahead stage old n new) (sym at) (takes_opt c l ahead text stage old new told adds.0 place trimmed edns code adds.1 adds.2)
opt_ok c l ahead text stage old new told (Err stop) place trimmed edns code at adds = tt

-- The lines before an offset were taken.
abbrev pub Taken : Bool → List ℕ → ℕ → ℕ → Stage → State → State → Type 0
Taken c text n at stage old now = (d : Draft) → IsBlankDraft d → IsDraft c Start old d → (e : Draft) × LinesSay text n at e × IsDraft c stage now e

pub taken_none : (c : Bool) (text : List ℕ) (s : State) → Taken c text 0 0 Start s s
taken_none c text s = λ d fresh is. (d, none fresh, is)

pub taken_more : (c : Bool) (text ahead : List ℕ) (n at end : ℕ) (stage next : Stage) (old now new : State) → Taken c text n at stage old now → IsLine text at end → ahead ≡ drop (end + 1) text
    → DraftsThere c (slice_range text at end) ahead stage now next new → Taken c text (n + 1) (end + 1) next old new
taken_more c text ahead n at end stage next old now new before is_line below takes = λ d fresh is.
    let there : DraftsThere c (slice_range text at end) (drop (end + 1) text) stage now next new = subst (λ x. DraftsThere c (slice_range text at end) x stage now next new) below takes in
    let said = before d fresh is in
    let more = there said.0 said.2 in
    (more.0, subst (λ k. LinesSay text k (end + 1) more.0) (sym (add-one n)) (line more.0 said.1 is_line more.1), more.2)

pub taken_all : (c : Bool) (text : List ℕ) (n at : ℕ) (stage : Stage) (old now : State) → Taken c text n at stage old now → length text ≤ at → DraftsLines c text old now
taken_all c text n at stage old now before whole = λ d fresh is.
    let said = before d fresh is in
    (said.0, record { lines = n; at = at; to = said.1; whole = whole }, record { stage_is = refl; header_is = said.2.header_is; limit_is = said.2.limit_is; reserved_is = said.2.reserved_is; holds = said.2.holds })

-- What a builder that was begun holds: nothing.
abbrev blank : State → Draft
blank s = record { stage = Start; header = s.header; content = no_content }

blank_is : (c : Bool) (s : State) → IsBegun c 65535 s → IsBlankDraft (blank s)
blank_is c s is = record { stage = refl; id = is.id; high = is.high; low = is.low; content = refl }

blank_held : (c : Bool) (s : State) → IsBegun c 65535 s → IsDraft c Start s (blank s)
blank_held c s is = record { stage_is = refl; header_is = refl; limit_is = is.limit_is; reserved_is = is.reserved; holds = is.holds }

-- The message was made.
pub made : (c : Bool) (text m : List ℕ) (begun s : State) → IsBegun c 65535 begun → DraftsLines c text begun s → ((it : Content) → Holds c s it → IsMessageOf s.header it m) → IsMade text m
made c text m begun s is takes message =
    let said = takes (blank begun) (blank_is c begun is) (blank_held c begun is) in
    record { said = said.0; says = said.1; message = subst (λ h. IsMessageOf h said.0.content m) (sym said.2.header_is) (message said.0.content said.2.holds) }

-- The line after those that were taken wasn't.
pub line_refused : (c : Bool) (text ahead : List ℕ) (n at end : ℕ) (stage : Stage) (old now : State) (stop : Stop) (e : MakeError) → Taken c text n at stage old now → at < length text → IsLine text at end → ahead ≡ drop (end + 1) text
    → IfFault stop (RefusesLine c (slice_range text at end) ahead stage now) → IfLine e (λ told. (told.line ≡ n + 1) × (stop ≡ Refused told.fault told.column)) → IfLine e (StopsFrom c text old)
line_refused c text ahead n at end stage old now stop (Line e) before more is_line below lack is = λ d fresh drafted.
    let said = before d fresh drafted in
    let l : List ℕ = slice_range text at end in
    let why : RefusesLine c l ahead stage now e.fault e.column = subst (λ s. IfFault s (RefusesLine c l ahead stage now)) is.1 lack in
    let there : RefusesLine c l (drop (end + 1) text) stage now e.fault e.column = subst (λ x. RefusesLine c l x stage now e.fault e.column) below why in
    record { lines = n; at = at; end = end; said = said.0; before = said.1; more = more; next = is.0; is_line = is_line; refused = there said.0 said.2 }
line_refused c text ahead n at end stage old now stop Read before more is_line below lack is = tt
line_refused c text ahead n at end stage old now stop Write before more is_line below lack is = tt
line_refused c text ahead n at end stage old now stop Memory before more is_line below lack is = tt

-- The error of a text for a message that was begun.
pub refused : (c : Bool) (text : List ℕ) (begun : State) (e : MakeError) → IsBegun c 65535 begun → IfLine e (StopsFrom c text begun) → IfLine e (StopsAtLine c text)
refused c text begun (Line e) is stops = stops (blank begun) (blank_is c begun is) (blank_held c begun is)
refused c text begun Read is stops = tt
refused c text begun Write is stops = tt
refused c text begun Memory is stops = tt

-- A text whose entries have room is taken.
pub taken : (c : Bool) (text : List ℕ) (e : MakeError) → IfLine e (StopsAtLine c text) → IfLine e (λ _. (said : Draft) → TextSays text said → EntriesHaveRoom c text → ⊥)
taken c text (Line e) stops = λ said all fits. accepted c text said e all fits stops
taken c text Read stops = tt
taken c text Write stops = tt
taken c text Memory stops = tt

some_map : {A : Type 0} (P Q : A → Type 0) (o : Option A) → ((x : A) → P x → Q x) → IfSome o P → IfSome o Q
some_map P Q (Some x) follows h = follows x h
some_map P Q None follows h = tt

-- What holds of the text that was read holds of the input.
pub of_input : (P : List ℕ → Type 0) (e : MakeError) (o : Option (List ℕ)) (text items : List ℕ) → text ≡ items → IfSome o (λ m. items ≡ m) → IfLine e (λ _. P text) → IfLine e (λ _. IfSome o P)
of_input P (Line e) o text items is read h = some_map (λ m. items ≡ m) P o (λ m same. subst P (is ∙ same) h) read
of_input P Read o text items is read h = tt
of_input P Write o text items is read h = tt
of_input P Memory o text items is read h = tt

-- What is reported of a line that isn't taken.
pub line_told : (e : MakeError) (told : LineError) (o : Option (List ℕ)) → e ≡ Line told → IfLine e (λ k. IfSome o (λ text. StopsAtLine true text k)) → IfSome o (λ text. (k : LineError) × StopsAtLine true text k)
line_told e told o is h = some_map (λ text. StopsAtLine true text told) (λ text. (k : LineError) × StopsAtLine true text k) o (λ text stops. (told, stops)) (subst (λ x. IfLine x (λ k. IfSome o (λ text. StopsAtLine true text k))) is h)

pub line_never : (e : MakeError) (told : LineError) (P : Type 0) → e ≡ Line told → IfLine e (λ _. P) → P
line_never e told P is h = subst (λ x. IfLine x (λ _. P)) is h
