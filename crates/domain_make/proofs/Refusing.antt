-- Lines that aren't taken say nothing, and a text whose lines all say something has none.
use Rattle.std.proofs.Common.{◌≡◌, ℕ, suc, ◌+◌, ◌<◌, ◌≤◌, Bool, List, [], ◌∷◌, length, get_or, take, drop, ◌++◌, zero, refl, sym, ap, subst, ◌∙◌, arith, inl, inr}
use Rattle.std.specs.Prelude.{◌≢◌, ◌⊎◌, slice_index, slice_range, codes, Result, Ok, Err, IfErr}
use Rattle.std.proofs.lemmas.Bool.{cases_lt, cases_order}
use Rattle.domain_message.specs.Entries.{QuestionFields}
use Rattle.domain_message.specs.declared.section.Section.{Section}
use Rattle.domain_message.specs.declared.section.Section.TheVariants.{Answer, Authority, Additional}
use Rattle.domain_message_builder.specs.Contents.{RecordHead, AsksIn, RecordsIn}
use Rattle.domain_message_builder.specs.State.{State}
use Rattle.domain_rdata.specs.ReadBack.{Exceeds}
use Rattle.domain_make.specs.Drafts.{Draft, IsAsked, IsRemark, LineSays, OptSays, SaysThere, IsLine, LinesSay, TextSays, IsDraft}
use Rattle.domain_make.specs.Drafts.LineSays.{asked as says_asked, cut as says_cut, empty as says_empty, entry as says_entry, option as says_option, question as says_question, remark as says_remark}
use Rattle.domain_make.specs.Drafts.LinesSay.{none, line}
use Rattle.domain_make.specs.Entries.{IsQuestionWords, IsRecordWords}
use Rattle.domain_make.specs.Stops.{IfFault, NoWords}
use Rattle.domain_make.specs.Faults.{NoQuestionWords, NoRecordWords}
use Rattle.domain_make.specs.Refusals.{NoRemark, IsOutside, IsFaulty, QuestionStops, RecordStops, QuestionNotPushed, RecordNotPushed, NoPushedQuestion, NoPushedRecord, IsRefused, RefusesLine, StopsAtLine, EntriesHaveRoom, IsNoOpt}
use Rattle.domain_make.specs.Refusals.IsFaulty.{asked as faulty_asked, asked_words as faulty_asked_words, entry as faulty_entry, no_words as faulty_no_words, outside as faulty_outside, question as faulty_question, remark as faulty_remark}
use Rattle.domain_make.specs.Refusals.NotPushed.{long, order, many, limit}
use Rattle.domain_make.specs.Refusals.NoPushedQuestion.{no_question as lack_question_no_question, stopped as lack_question_stopped}
use Rattle.domain_make.specs.Refusals.NoPushedRecord.{no_record as lack_record_no_record, stopped as lack_record_stopped}
use Rattle.domain_make.specs.Refusals.EntryNotPushed.{asked as room_asked, entry as room_entry, opt as room_opt, question as room_question, status as room_status}
use Rattle.domain_make.specs.Refusals.IsRefused.{says_nothing, no_room}
use Rattle.domain_header.specs.Bits.{bits}
use Rattle.domain_header.specs.Headers.{header_low}
use Rattle.domain_header.specs.declared.flags.Header.{Header}
use Rattle.domain_make.specs.Opts.{AreOptionsAhead, IsCutLine, IsEdnsLine, IsOptionLine, IsOtherStatus, edns_head}
use Rattle.domain_make.specs.Remarks.{BeginsAsOpt, IsTrimmed, Remarks, settled}
use Rattle.domain_make.specs.Taking.{IsNoEdnsLine, IsNoOptionLine}
use Rattle.domain_make.specs.Words.{WordAt, word_at, words_at, AreWords}
use Rattle.domain_make.specs.declared.error.Fault.{Fault}
use Rattle.domain_make.specs.declared.error.Fault.TheVariants as fault
use Rattle.domain_make.specs.declared.error.LineError.{LineError}
use Rattle.domain_make.specs.declared.error.Stop.{Stop}
use Rattle.domain_make.specs.declared.error.Stop.TheVariants.{Refused, Memory}
use Rattle.domain_make.specs.declared.remark.Stage.{Stage}
use Rattle.domain_make.specs.declared.opt.EdnsTold.{EdnsTold}
use Rattle.domain_make.specs.declared.remark.Stage.TheVariants.{Start, Codes, Told, Questions, Records, Options}
use Rattle.domain_make.specs.declared.words.Word.{Word}
use Rattle.domain_make.proofs.Marking.{trimmed_once, no_remark, no_opt_remark, remark_once, two_kinds}
use Rattle.domain_make.proofs.Once.{no_question, no_record, words_once, no_words}

records_questions : (section : Section) → Questions ≡ Records section → ⊥
records_questions section e = cc

two_stages : (s : Stage) (section : Section) → s ≡ Questions → settled s ≡ Records section → ⊥
two_stages s section e f = records_questions section (subst (λ x. settled x ≡ Records section) e f)

questions_options : (s : Stage) → s ≡ Questions → s ≡ Options → ⊥
questions_options s e f = cc

outside_records : (s : Stage) (section : Section) → IsOutside s → settled s ≡ Records section → ⊥
outside_records Start section out e = cc
outside_records Codes section out e = cc
outside_records Told section out e = cc
outside_records Questions section out e = out
outside_records (Records other) section out e = out
outside_records Options section out e = out

tail_of : (x y : ℕ) (a b : List ℕ) → x ∷ a ≡ y ∷ b → a ≡ b
tail_of x y a b e = cc

first_kept : (end : ℕ) (l : List ℕ) (x : ℕ) (rest : List ℕ) → take end l ≡ x ∷ rest → slice_index l 0 ≡ x
first_kept zero l x rest e = cc
first_kept (suc n) [] x rest e = cc
first_kept (suc n) (y ∷ l) x rest e = cc

-- A line begins as its text does.
begins_so : (l text : List ℕ) (x : ℕ) (rest : List ℕ) → IsTrimmed l text → text ≡ x ∷ rest → slice_index l 0 ≡ x
begins_so l text x rest cut e = first_kept cut.end l x rest (sym cut.text_is ∙ e)

edns_marked : (l text : List ℕ) (told : EdnsTold) → IsTrimmed l text → IsEdnsLine text told → slice_index l 0 ≡ 59
edns_marked l text told cut is = begins_so l text 59 _ cut is.text_is

option_marked : (l text octets : List ℕ) → IsTrimmed l text → IsOptionLine text octets → slice_index l 0 ≡ 59
option_marked l text octets cut is = begins_so l text 59 _ cut is.text_is

cut_marked : (l text octets : List ℕ) → IsTrimmed l text → IsCutLine text octets → slice_index l 0 ≡ 59
cut_marked l text octets cut is = begins_so l text 59 _ cut is.text_is

empty_other : (l : List ℕ) (words : List WordAt) → AreWords l 0 words → 0 < length words → AreWords l 0 [] → ⊥
empty_other l words are some none_are = absurd (omega (arith, some, ap length (words_once l 0 words [] are none_are)))

same_question : (l : List ℕ) (start : ℕ) (words also : List WordAt) (f : Fault) (c : ℕ) (q : QuestionFields) → AreWords l start words → AreWords l start also → NoQuestionWords words f c → IsQuestionWords also q → ⊥
same_question l start words also f c q are they lack is = no_question words f c q lack (subst (λ ws. IsQuestionWords ws q) (words_once l start also words they are) is)

same_record : (l : List ℕ) (words also : List WordAt) (f : Fault) (c : ℕ) (head : RecordHead) (octets : List ℕ) → AreWords l 0 words → AreWords l 0 also → NoRecordWords l words f c → IsRecordWords l also head octets → ⊥
same_record l words also f c head octets are they lack is = no_record l words f c head octets lack (subst (λ ws. IsRecordWords l ws head octets) (words_once l 0 also words they are) is)

-- A line of which a fault is reported says nothing.
faulty_is : (l : List ℕ) (old new : Draft) (f : Fault) (c : ℕ) → IsFaulty l old f c → LineSays l old new → ⊥
faulty_is l old new f c (faulty_remark text is trimmed no_opt lack at_one) (says_empty plain are same) = plain is.begins
faulty_is l old new f c (faulty_remark text is trimmed no_opt lack at_one) (says_remark other also cut told same) =
    no_remark text old.stage new.stage f old.header new.header lack (subst (λ t. Remarks t old.stage old.header new.stage new.header) (trimmed_once l other text cut trimmed) told)
faulty_is l old new f c (faulty_remark text is trimmed no_opt lack at_one) (says_asked words q at begins are told same) = is.other at begins
faulty_is l old new f c (faulty_remark text is trimmed no_opt lack at_one) (says_question words q at plain are told same) = plain is.begins
faulty_is l old new f c (faulty_remark text is trimmed no_opt lack at_one) (says_entry section words head octets at plain are told same) = plain is.begins
faulty_is l old new f c (faulty_remark text is trimmed no_opt lack at_one) (says_option other octets place cut is_option same) = no_opt.no_option place octets (subst (λ t. IsOptionLine t octets) (trimmed_once l other text cut trimmed) is_option)
faulty_is l old new f c (faulty_remark text is trimmed no_opt lack at_one) (says_cut other octets place cut is_cut same) = no_opt.no_cut place octets (subst (λ t. IsCutLine t octets) (trimmed_once l other text cut trimmed) is_cut)
faulty_is l old new f c (faulty_asked_words at begins lack) (says_empty plain are same) = plain begins.begins
faulty_is l old new f c (faulty_asked_words at begins lack) (says_remark other also cut told same) = also.other at begins
faulty_is l old new f c (faulty_asked_words at begins lack) (says_asked words q at_too also are told same) = no_words l 1 f c words lack are
faulty_is l old new f c (faulty_asked_words at begins lack) (says_question words q at_too plain are told same) = plain begins.begins
faulty_is l old new f c (faulty_asked_words at begins lack) (says_entry section words head octets at_too plain are told same) = plain begins.begins
faulty_is l old new f c (faulty_asked_words at begins lack) (says_option also octets place cut is_option same) = questions_options old.stage at place
faulty_is l old new f c (faulty_asked_words at begins lack) (says_cut also octets place cut is_cut same) = questions_options old.stage at place
faulty_is l old new f c (faulty_asked ws at begins they lack) (says_empty plain are same) = plain begins.begins
faulty_is l old new f c (faulty_asked ws at begins they lack) (says_remark other also cut told same) = also.other at begins
faulty_is l old new f c (faulty_asked ws at begins they lack) (says_asked words q at_too also are told same) = same_question l 1 ws words f c q they are lack told
faulty_is l old new f c (faulty_asked ws at begins they lack) (says_question words q at_too plain are told same) = plain begins.begins
faulty_is l old new f c (faulty_asked ws at begins they lack) (says_entry section words head octets at_too plain are told same) = plain begins.begins
faulty_is l old new f c (faulty_asked ws at begins they lack) (says_option also octets place cut is_option same) = questions_options old.stage at place
faulty_is l old new f c (faulty_asked ws at begins they lack) (says_cut also octets place cut is_cut same) = questions_options old.stage at place
faulty_is l old new f c (faulty_no_words clear lack) (says_empty plain are same) = no_words l 0 f c [] lack are
faulty_is l old new f c (faulty_no_words clear lack) (says_remark other also cut told same) = clear also.begins
faulty_is l old new f c (faulty_no_words clear lack) (says_asked words q at also are told same) = clear also.begins
faulty_is l old new f c (faulty_no_words clear lack) (says_question words q at plain are told same) = no_words l 0 f c words lack are
faulty_is l old new f c (faulty_no_words clear lack) (says_entry section words head octets at plain are told same) = no_words l 0 f c words lack are
faulty_is l old new f c (faulty_no_words clear lack) (says_option also octets place cut is_option same) = clear (option_marked l also octets cut is_option)
faulty_is l old new f c (faulty_no_words clear lack) (says_cut also octets place cut is_cut same) = clear (cut_marked l also octets cut is_cut)
faulty_is l old new f c (faulty_outside w ws out clear they it) (says_empty plain are same) = empty_other l (w ∷ ws) they (omega arith) are
faulty_is l old new f c (faulty_outside w ws out clear they it) (says_remark other also cut told same) = clear also.begins
faulty_is l old new f c (faulty_outside w ws out clear they it) (says_asked words q at also are told same) = clear also.begins
faulty_is l old new f c (faulty_outside w ws out clear they it) (says_question words q at plain are told same) = subst IsOutside at out
faulty_is l old new f c (faulty_outside w ws out clear they it) (says_entry section words head octets at plain are told same) = outside_records old.stage section out at
faulty_is l old new f c (faulty_outside w ws out clear they it) (says_option also octets place cut is_option same) = clear (option_marked l also octets cut is_option)
faulty_is l old new f c (faulty_outside w ws out clear they it) (says_cut also octets place cut is_cut same) = clear (cut_marked l also octets cut is_cut)
faulty_is l old new f c (faulty_question ws at clear they some lack) (says_empty plain are same) = empty_other l ws they some are
faulty_is l old new f c (faulty_question ws at clear they some lack) (says_remark other also cut told same) = clear also.begins
faulty_is l old new f c (faulty_question ws at clear they some lack) (says_asked words q at_too also are told same) = clear also.begins
faulty_is l old new f c (faulty_question ws at clear they some lack) (says_question words q at_too plain are told same) = same_question l 0 ws words f c q they are lack told
faulty_is l old new f c (faulty_question ws at clear they some lack) (says_entry section words head octets at_too plain are told same) = two_stages old.stage section at at_too
faulty_is l old new f c (faulty_question ws at clear they some lack) (says_option also octets place cut is_option same) = clear (option_marked l also octets cut is_option)
faulty_is l old new f c (faulty_question ws at clear they some lack) (says_cut also octets place cut is_cut same) = clear (cut_marked l also octets cut is_cut)
faulty_is l old new f c (faulty_entry s ws at clear they some lack) (says_empty plain are same) = empty_other l ws they some are
faulty_is l old new f c (faulty_entry s ws at clear they some lack) (says_remark other also cut told same) = clear also.begins
faulty_is l old new f c (faulty_entry s ws at clear they some lack) (says_asked words q at_too also are told same) = clear also.begins
faulty_is l old new f c (faulty_entry s ws at clear they some lack) (says_question words q at_too plain are told same) = two_stages old.stage s at_too at
faulty_is l old new f c (faulty_entry s ws at clear they some lack) (says_entry section words head octets at_too plain are told same) = same_record l ws words f c head octets they are lack told
faulty_is l old new f c (faulty_entry s ws at clear they some lack) (says_option also octets place cut is_option same) = clear (option_marked l also octets cut is_option)
faulty_is l old new f c (faulty_entry s ws at clear they some lack) (says_cut also octets place cut is_cut same) = clear (cut_marked l also octets cut is_cut)

faulty_opt : (l ahead : List ℕ) (old new : Draft) (f : Fault) (c : ℕ) → IsFaulty l old f c → OptSays l ahead old new → ⊥
faulty_opt l ahead old new f c (faulty_remark text is trimmed no_opt lack at_one) says = no_opt.no_edns says.place says.told (subst (λ t. IsEdnsLine t says.told) (trimmed_once l says.text text says.cut trimmed) says.is)
faulty_opt l ahead old new f c (faulty_asked_words at begins lack) says = two_stages old.stage Additional at says.place
faulty_opt l ahead old new f c (faulty_asked ws at begins they lack) says = two_stages old.stage Additional at says.place
faulty_opt l ahead old new f c (faulty_no_words clear lack) says = clear (edns_marked l says.text says.told says.cut says.is)
faulty_opt l ahead old new f c (faulty_outside w ws out clear they it) says = clear (edns_marked l says.text says.told says.cut says.is)
faulty_opt l ahead old new f c (faulty_question ws at clear they some lack) says = clear (edns_marked l says.text says.told says.cut says.is)
faulty_opt l ahead old new f c (faulty_entry s ws at clear they some lack) says = clear (edns_marked l says.text says.told says.cut says.is)

pub faulty_there : (l ahead : List ℕ) (old new : Draft) (f : Fault) (c : ℕ) → IsFaulty l old f c → SaysThere l ahead old new → ⊥
faulty_there l ahead old new f c is (inl says) = faulty_is l old new f c is says
faulty_there l ahead old new f c is (inr says) = faulty_opt l ahead old new f c is says

refused : (comp : Bool) (l ahead : List ℕ) (d : Draft) (f : Fault) (c : ℕ) → IsFaulty l d f c → IsRefused comp l ahead d f c
refused comp l ahead d f c is = says_nothing is (λ new. faulty_there l ahead d new f c is)

-- ---- what is reported where a builder holds what was said

pub refuses_remark : (comp : Bool) (l text : List ℕ) (stage : Stage) (s : State) (f : Fault) (c : ℕ) → IsRemark l stage → IsTrimmed l text → IsNoOpt text stage → NoRemark text stage f × (c ≡ 1) → (ahead : List ℕ) → RefusesLine comp l ahead stage s f c
refuses_remark comp l text stage s f c marked trimmed no_opt lack = λ ahead d is.
    refused comp l ahead d f c (faulty_remark text (subst (λ p. IsRemark l p) (sym is.stage_is) marked) trimmed (subst (λ p. IsNoOpt text p) (sym is.stage_is) no_opt) (subst (λ p. NoRemark text p f) (sym is.stage_is) lack.0) lack.1)

question_stops : (comp : Bool) (stage : Stage) (s : State) (d : Draft) (q : QuestionFields) (f : Fault) → IsDraft comp stage s d → QuestionStops comp q s f → QuestionNotPushed comp q d.content f
question_stops comp stage s d q f is (long big told) = absurd (omega (arith, big))
question_stops comp stage s d q f is (order later told) = order (omega (arith, later, is.holds.answer_count, is.holds.authority_count, is.holds.additional_count)) told
question_stops comp stage s d q f is (many full told) = many (sym is.holds.question_count ∙ full) told
question_stops comp stage s d q f is (limit over told) = limit (s, is.holds, subst (λ n. Exceeds (AsksIn comp q s.octets) s.octets n) (omega (arith, is.limit_is, is.reserved_is)) over) told

record_stops : (comp : Bool) (stage : Stage) (section : Section) (s : State) (d : Draft) (head : RecordHead) (octets : List ℕ) (f : Fault) → IsDraft comp stage s d → RecordStops comp section head octets s f → RecordNotPushed comp section head octets d.content f
record_stops comp stage section s d head octets f is (long big told) = long big told
record_stops comp stage Answer s d head octets f is (order later told) = order (omega (arith, later, is.holds.authority_count, is.holds.additional_count)) told
record_stops comp stage Authority s d head octets f is (order later told) = order (omega (arith, later, is.holds.additional_count)) told
record_stops comp stage Additional s d head octets f is (order later told) = absurd (omega (arith, later))
record_stops comp stage Answer s d head octets f is (many full told) = many (sym is.holds.answer_count ∙ full) told
record_stops comp stage Authority s d head octets f is (many full told) = many (sym is.holds.authority_count ∙ full) told
record_stops comp stage Additional s d head octets f is (many full told) = many (sym is.holds.additional_count ∙ full) told
record_stops comp stage section s d head octets f is (limit over told) =
    limit (s, is.holds, subst (λ n. Exceeds (RecordsIn comp head (λ _ t. t ≡ octets) s.octets) s.octets n) (omega (arith, is.limit_is, is.reserved_is)) over) told

pub refuses_asked_words : (comp : Bool) (l : List ℕ) (s : State) (f : Fault) (c : ℕ) → IsAsked l → NoWords l 1 f c → (ahead : List ℕ) → RefusesLine comp l ahead Questions s f c
refuses_asked_words comp l s f c begins lack = λ ahead d is. refused comp l ahead d f c (faulty_asked_words is.stage_is begins lack)

pub refuses_asked : (comp : Bool) (l : List ℕ) (words : List WordAt) (s : State) (f : Fault) (c : ℕ) → IsAsked l → AreWords l 1 words → NoPushedQuestion comp words s f c → (ahead : List ℕ) → RefusesLine comp l ahead Questions s f c
refuses_asked comp l words s f c begins are (lack_question_no_question lack) = λ ahead d is. refused comp l ahead d f c (faulty_asked words is.stage_is begins are lack)
refuses_asked comp l words s f c begins are (lack_question_stopped q says stops at_first) = λ ahead d is. no_room (room_asked words q is.stage_is begins are says (question_stops comp Questions s d q f is stops) at_first)

pub refuses_words : (comp : Bool) (l : List ℕ) (stage : Stage) (s : State) (f : Fault) (c : ℕ) → slice_index l 0 ≢ 59 → NoWords l 0 f c → (ahead : List ℕ) → RefusesLine comp l ahead stage s f c
refuses_words comp l stage s f c plain lack = λ ahead d is. refused comp l ahead d f c (faulty_no_words plain lack)

pub refuses_outside : (comp : Bool) (l : List ℕ) (stage : Stage) (s : State) (w : WordAt) (ws : List WordAt) → IsOutside stage → slice_index l 0 ≢ 59 → AreWords l 0 (w ∷ ws) → (ahead : List ℕ) → RefusesLine comp l ahead stage s fault.Outside w.column
refuses_outside comp l stage s w ws out plain are = λ ahead d is. refused comp l ahead d fault.Outside w.column (faulty_outside w ws (subst IsOutside (sym is.stage_is) out) plain are (refl, refl))

-- Where entries are said, and no records, questions are.
pub only_questions : (s : Stage) → (IsOutside s → ⊥) → ((section : Section) → settled s ≡ Records section → ⊥) → s ≡ Questions
only_questions Start out never = absurd (out tt)
only_questions Codes out never = absurd (out tt)
only_questions Told out never = absurd (out tt)
only_questions Questions out never = refl
only_questions (Records section) out never = absurd (never section refl)
only_questions Options out never = absurd (never Additional refl)

-- The first word is an entry before all headings.
pub refuses_outside_first : (comp : Bool) (l : List ℕ) (stage : Stage) (s : State) (words : List Word) (d : Word) → IsOutside stage → slice_index l 0 ≢ 59 → AreWords l 0 (words_at words) → 0 < length words → (ahead : List ℕ) → RefusesLine comp l ahead stage s fault.Outside (get_or words 0 d).column
refuses_outside_first comp l stage s [] d out plain are some = absurd (omega (arith, some))
refuses_outside_first comp l stage s (w ∷ ws) d out plain are some = refuses_outside comp l stage s (word_at w) (words_at ws) out plain are

pub refuses_question : (comp : Bool) (l : List ℕ) (words : List WordAt) (s : State) (f : Fault) (c : ℕ) → slice_index l 0 ≢ 59 → AreWords l 0 words → 0 < length words → NoPushedQuestion comp words s f c → (ahead : List ℕ) → RefusesLine comp l ahead Questions s f c
refuses_question comp l words s f c plain are some (lack_question_no_question lack) = λ ahead d is. refused comp l ahead d f c (faulty_question words is.stage_is plain are some lack)
refuses_question comp l words s f c plain are some (lack_question_stopped q says stops at_first) =
    λ ahead d is. no_room (room_question words q is.stage_is plain are says (question_stops comp Questions s d q f is stops) at_first)

pub refuses_record : (comp : Bool) (l : List ℕ) (stage : Stage) (section : Section) (words : List WordAt) (s : State) (f : Fault) (c : ℕ) → settled stage ≡ Records section → slice_index l 0 ≢ 59 → AreWords l 0 words → 0 < length words
    → NoPushedRecord comp section l words s f c → (ahead : List ℕ) → RefusesLine comp l ahead stage s f c
refuses_record comp l stage section words s f c place plain are some (lack_record_no_record lack) = λ ahead d is. refused comp l ahead d f c (faulty_entry section words (ap settled is.stage_is ∙ place) plain are some lack)
refuses_record comp l stage section words s f c place plain are some (lack_record_stopped head octets says stops at_first) =
    λ ahead d is. no_room (room_entry section words head octets (ap settled is.stage_is ∙ place) plain are says (record_stops comp stage section s d head octets f is stops) at_first)

-- The same at each stage where records of the section are.
pub record_err : {A : Type 0} (comp : Bool) (l : List ℕ) (section : Section) (words : List WordAt) (s : State) (r : Result A Stop) → slice_index l 0 ≢ 59 → AreWords l 0 words → 0 < length words
    → IfErr r (λ e. IfFault e (NoPushedRecord comp section l words s))
    → IfErr r (λ e. (stage : Stage) → settled stage ≡ Records section → IfFault e (λ f c. (ahead : List ℕ) → RefusesLine comp l ahead stage s f c))
record_err comp l section words s (Ok x) plain are some lack = tt
record_err comp l section words s (Err (Refused f c)) plain are some lack = λ stage place. refuses_record comp l stage section words s f c place plain are some lack
record_err comp l section words s (Err Memory) plain are some lack = λ stage place. tt

-- An OPT record whose response code is another one than the header's, or that isn't pushed.
pub refuses_opt : (comp : Bool) (l ahead text : List ℕ) (stage : Stage) (s : State) (told : EdnsTold) (f : Fault) (c : ℕ) → settled stage ≡ Records Additional → IsTrimmed l text → IsEdnsLine text told
    → (c ≡ 1) × ((IsOtherStatus told (bits 1 16 (header_low s.header)) × (f ≡ fault.Status))
    ⊎ ((octets : List ℕ) × (IsOtherStatus told (bits 1 16 (header_low s.header)) → ⊥) × AreOptionsAhead ahead octets × RecordStops comp Additional (edns_head told) octets s f))
    → RefusesLine comp l ahead stage s f c
refuses_opt comp l ahead text stage s told f c place cut edns (at_one, inl other) = λ d is.
    no_room (room_status text told (ap settled is.stage_is ∙ place) cut edns (subst (λ (h : Header). IsOtherStatus told (bits 1 16 (header_low h))) (sym is.header_is) other.0) other.1 at_one)
refuses_opt comp l ahead text stage s told f c place cut edns (at_one, inr stops) = λ d is.
    no_room (room_opt text told stops.0 (ap settled is.stage_is ∙ place) cut edns (subst (λ (h : Header). IsOtherStatus told (bits 1 16 (header_low h)) → ⊥) (sym is.header_is) stops.1) stops.2 (record_stops comp stage Additional s d (edns_head told) stops.0 f is stops.3) at_one)

-- What isn't taken at a stage, whatever is below it.
pub refused_at : (comp : Bool) (l ahead : List ℕ) (stage place : Stage) (s : State) (e : Stop) → stage ≡ place → IfFault e (λ f c. (more : List ℕ) → RefusesLine comp l more place s f c) → IfFault e (RefusesLine comp l ahead stage s)
refused_at comp l ahead stage place s (Refused f c) at lack = subst (λ t. RefusesLine comp l ahead t s f c) (sym at) (lack ahead)
refused_at comp l ahead stage place s Memory at lack = tt

pub there_err : {A : Type 0} (comp : Bool) (l ahead : List ℕ) (stage place : Stage) (s : State) (r : Result A Stop) → stage ≡ place → IfErr r (λ e. IfFault e (λ f c. (more : List ℕ) → RefusesLine comp l more place s f c))
    → IfErr r (λ e. IfFault e (RefusesLine comp l ahead stage s))
there_err comp l ahead stage place s (Ok x) at lack = tt
there_err comp l ahead stage place s (Err e) at lack = refused_at comp l ahead stage place s e at lack

-- What isn't taken at any stage of the section isn't at this one.
pub section_err : {A : Type 0} (comp : Bool) (l : List ℕ) (stage : Stage) (section : Section) (s : State) (r : Result A Stop) → Records section ≡ settled stage
    → IfErr r (λ e. (t : Stage) → settled t ≡ Records section → IfFault e (λ f c. (ahead : List ℕ) → RefusesLine comp l ahead t s f c)) → IfErr r (λ e. IfFault e (λ f c. (ahead : List ℕ) → RefusesLine comp l ahead stage s f c))
section_err comp l stage section s (Ok x) at lack = tt
section_err comp l stage section s (Err e) at lack = lack stage (sym at)

-- ---- what a line isn't, at its stage

second_kept : (end : ℕ) (l : List ℕ) (x y : ℕ) (rest : List ℕ) → take end l ≡ x ∷ y ∷ rest → slice_index l 1 ≡ y
second_kept zero l x y rest e = cc
second_kept (suc n) [] x y rest e = cc
second_kept (suc n) (z ∷ l) x y rest e = first_kept n l y rest (tail_of z x (take n l) (y ∷ rest) e)

spaced : (l text rest : List ℕ) → IsAsked l → IsTrimmed l text → text ≡ 59 ∷ 32 ∷ rest → ⊥
spaced l text rest asked cut e = asked.no_space (second_kept cut.end l 59 32 rest (sym cut.text_is ∙ e))

-- A question is no line of an OPT record.
pub asked_no_opt : (l text : List ℕ) (stage : Stage) → IsAsked l → IsTrimmed l text → IsNoOpt text stage
asked_no_opt l text stage asked cut = record {
  no_edns = λ at told is. spaced l text _ asked cut is.text_is;
  no_option = λ at octets is. spaced l text _ asked cut is.text_is;
  no_cut = λ at octets is. spaced l text _ asked cut is.text_is;
}

-- Elsewhere than in the additional section there is none.
pub elsewhere_no_opt : (text : List ℕ) (stage : Stage) → (settled stage ≡ Records Additional → ⊥) → IsNoOpt text stage
elsewhere_no_opt text stage never = record {
  no_edns = λ at told is. never at;
  no_option = λ at octets is. never (ap settled at);
  no_cut = λ at octets is. never (ap settled at);
}

-- There is none right below one, where this is neither a first line nor one of options.
pub below_no_opt : (l text : List ℕ) → IsNoEdnsLine l → IsNoOptionLine l → IsTrimmed l text → IsNoOpt text Options
below_no_opt l text no_first no_line cut = record {
  no_edns = λ at. no_first text cut;
  no_option = λ at octets is. no_line text octets cut (inl is);
  no_cut = λ at octets is. no_line text octets cut (inr is);
}

-- Nor among records of the section, where this is no first line.
pub among_no_opt : (l text : List ℕ) (stage : Stage) → IsNoEdnsLine l → (stage ≡ Options → ⊥) → IsTrimmed l text → IsNoOpt text stage
among_no_opt l text stage no_first never cut = record {
  no_edns = λ at. no_first text cut;
  no_option = λ at octets is. never at;
  no_cut = λ at octets is. never at;
}

-- What a text isn't, no text of its line is.
pub no_first_line : (l text : List ℕ) → IsTrimmed l text → ((told : EdnsTold) → IsEdnsLine text told → ⊥) → IsNoEdnsLine l
no_first_line l text cut never other also told is = never told (subst (λ t. IsEdnsLine t told) (trimmed_once l other text also cut) is)

pub no_option_line : (l text : List ℕ) → IsTrimmed l text → ((octets : List ℕ) → IsOptionLine text octets ⊎ IsCutLine text octets → ⊥) → IsNoOptionLine l
no_option_line l text cut never other octets also is = never octets (subst (λ t. IsOptionLine t octets ⊎ IsCutLine t octets) (trimmed_once l other text also cut) is)

-- A line that begins with a semicolon is a remark where no questions are, or where it is none.
pub remark_there : (l : List ℕ) (stage : Stage) (section : Section) → slice_index l 0 ≡ 59 → settled stage ≡ Records section → IsRemark l stage
remark_there l stage section begins place = record { begins = begins; other = λ at _. two_stages stage section at place }

-- ---- a text whose lines all say something

-- A line of an OPT record leads from a stage to another.
data Marked (text : List ℕ) (stage next : Stage) : Type 0 where
  below : (octets : List ℕ) → stage ≡ Options → IsOptionLine text octets → next ≡ Options → Marked text stage next
  ended : (octets : List ℕ) → stage ≡ Options → IsCutLine text octets → next ≡ Records Additional → Marked text stage next
  begun : (told : EdnsTold) → settled stage ≡ Records Additional → IsEdnsLine text told → next ≡ Options → Marked text stage next

marked_once : (text : List ℕ) (stage p q : Stage) → Marked text stage p → Marked text stage q → p ≡ q
marked_once text stage p q (below o at is e) (below u too also f) = e ∙ sym f
marked_once text stage p q (below o at is e) (ended u too also f) = absurd (two_kinds (codes "; OPT=") (codes "; \\# ") text _ _ refl is.text_is also.text_is)
marked_once text stage p q (below o at is e) (begun told too also f) = e ∙ sym f
marked_once text stage p q (ended o at is e) (below u too also f) = absurd (two_kinds (codes "; \\# ") (codes "; OPT=") text _ _ refl is.text_is also.text_is)
marked_once text stage p q (ended o at is e) (ended u too also f) = e ∙ sym f
marked_once text stage p q (ended o at is e) (begun told too also f) = absurd (two_kinds (codes "; \\# ") (codes "; EDNS: version: ") text _ _ refl is.text_is also.text_is)
marked_once text stage p q (begun told at is e) (below u too also f) = e ∙ sym f
marked_once text stage p q (begun told at is e) (ended u too also f) = absurd (two_kinds (codes "; EDNS: version: ") (codes "; \\# ") text _ _ refl is.text_is also.text_is)
marked_once text stage p q (begun told at is e) (begun other too also f) = e ∙ sym f

-- It begins as one, and with a semicolon.
marked_begins : (text : List ℕ) (stage next : Stage) → Marked text stage next → BeginsAsOpt text
marked_begins text stage next (below o at is e) = (_, inr (inl is.text_is))
marked_begins text stage next (ended o at is e) = (_, inr (inr is.text_is))
marked_begins text stage next (begun told at is e) = (_, inl is.text_is)

marked_remark : (l text : List ℕ) (stage next : Stage) → IsTrimmed l text → Marked text stage next → IsRemark l stage
marked_remark l text stage next cut (below o at is e) = record { begins = option_marked l text o cut is; other = λ asked _. absurd (questions_options stage asked at) }
marked_remark l text stage next cut (ended o at is e) = record { begins = cut_marked l text o cut is; other = λ asked _. absurd (questions_options stage asked at) }
marked_remark l text stage next cut (begun told at is e) = record { begins = edns_marked l text told cut is; other = λ asked _. absurd (two_stages stage Additional asked at) }

-- A line leads from a stage to another: as a remark, as one of an OPT record, or as another, which leaves the stage.
data Leads (l : List ℕ) (stage next : Stage) : Type 0 where
  remarked : (text : List ℕ) (old new : Header) → IsRemark l stage → IsTrimmed l text → Remarks text stage old next new → Leads l stage next
  marked : (text : List ℕ) → IsTrimmed l text → Marked text stage next → Leads l stage next
  unmarked : (IsRemark l stage → ⊥) → next ≡ settled stage → Leads l stage next

leads : (l ahead : List ℕ) (a x : Draft) → SaysThere l ahead a x → Leads l a.stage x.stage
leads l ahead a x (inl (says_empty plain are same)) = unmarked (λ is. plain is.begins) (ap (λ (d : Draft). d.stage) same)
leads l ahead a x (inl (says_remark text is cut told same)) = remarked text a.header x.header is cut told
leads l ahead a x (inl (says_asked words q at begins are told same)) = unmarked (λ is. is.other at begins) (ap (λ (d : Draft). d.stage) same ∙ (at ∙ sym (ap settled at)))
leads l ahead a x (inl (says_question words q at plain are told same)) = unmarked (λ is. plain is.begins) (ap (λ (d : Draft). d.stage) same ∙ (at ∙ sym (ap settled at)))
leads l ahead a x (inl (says_entry section words head octets at plain are told same)) = unmarked (λ is. plain is.begins) (ap (λ (d : Draft). d.stage) same ∙ sym at)
leads l ahead a x (inl (says_option text octets at cut is same)) = marked text cut (below octets at is (ap (λ (d : Draft). d.stage) same ∙ at))
leads l ahead a x (inl (says_cut text octets at cut is same)) = marked text cut (ended octets at is (ap (λ (d : Draft). d.stage) same ∙ ap settled at))
leads l ahead a x (inr says) = marked says.text says.cut (begun says.told says.place says.is (ap (λ (d : Draft). d.stage) says.new_is))

leads_once : (l : List ℕ) (stage p q : Stage) → Leads l stage p → Leads l stage q → p ≡ q
leads_once l stage p q (remarked text h k is cut told) (remarked more i j also trimmed says) = remark_once text stage p q h k i j told (subst (λ t. Remarks t stage i q j) (trimmed_once l more text trimmed cut) says)
leads_once l stage p q (remarked text h k is cut told) (marked more trimmed of_opt) = absurd (no_opt_remark text stage p h k (subst BeginsAsOpt (trimmed_once l more text trimmed cut) (marked_begins more stage q of_opt)) told)
leads_once l stage p q (remarked text h k is cut told) (unmarked never e) = absurd (never is)
leads_once l stage p q (marked text cut of_opt) (remarked more i j also trimmed says) = absurd (no_opt_remark more stage q i j (subst BeginsAsOpt (trimmed_once l text more cut trimmed) (marked_begins text stage p of_opt)) says)
leads_once l stage p q (marked text cut of_opt) (marked more trimmed says) = marked_once text stage p q of_opt (subst (λ t. Marked t stage q) (trimmed_once l more text trimmed cut) says)
leads_once l stage p q (marked text cut of_opt) (unmarked never e) = absurd (never (marked_remark l text stage p cut of_opt))
leads_once l stage p q (unmarked never e) (remarked more i j also trimmed says) = absurd (never also)
leads_once l stage p q (unmarked never e) (marked more trimmed says) = absurd (never (marked_remark l more stage q trimmed says))
leads_once l stage p q (unmarked never e) (unmarked lack f) = e ∙ sym f

-- After the same stage a line leads to one other.
stage_once : (l ahead more : List ℕ) (a b x y : Draft) → a.stage ≡ b.stage → SaysThere l ahead a x → SaysThere l more b y → x.stage ≡ y.stage
stage_once l ahead more a b x y e h k = leads_once l b.stage x.stage y.stage (subst (λ s. Leads l s x.stage) e (leads l ahead a x h)) (leads l more b y k)

end_before : (text : List ℕ) (start e d : ℕ) → IsLine text start e → IsLine text start d → e < d → ⊥
end_before text start e d a b less = elim a.ends [ inl whole ↦ absurd (omega (arith, b.within)) | inr feed ↦ b.inside e a.ahead less feed ]

end_once : (text : List ℕ) (start e d : ℕ) → IsLine text start e → IsLine text start d → e ≡ d
end_once text start e d a b = elim (cases_order e d) [
  | inl same ↦ same
  | inr other ↦ elim other [ inl less ↦ absurd (end_before text start e d a b less) | inr more ↦ absurd (end_before text start d e b a more) ]
]

-- As many lines of a text end at one offset, and lead to one stage.
lines_once : (text : List ℕ) (n at to : ℕ) (a b : Draft) → LinesSay text n at a → LinesSay text n to b → (at ≡ to) × (a.stage ≡ b.stage)
lines_once text n at to a b (none blank) (none other) = (refl, blank.stage ∙ sym other.stage)
lines_once text n at to a b (line {n = m} {at = x} {end = e} {old = c} new before is told) (line {at = y} {end = d} {old = k} also first on said) =
    let same = lines_once text m x y c k before first in
    let ends : e ≡ d = end_once text x e d is (subst (λ p. IsLine text p d) (sym same.0) on) in
    let alike : slice_range text y d ≡ slice_range text x e = ap (λ p. slice_range text p d) (sym same.0) ∙ ap (λ p. slice_range text x p) (sym ends) in
    (ap (λ p. p + 1) ends, stage_once (slice_range text x e) (drop (e + 1) text) (drop (d + 1) text) c k new also same.1 told (subst (λ t. SaysThere t (drop (d + 1) text) k also) alike said))

zero_below : (m : ℕ) → m ≤ 0 → 0 ≡ m
zero_below m few = omega arith

top_below : (k m : ℕ) → k < m → m ≤ suc k → suc k ≡ m
top_below k m all few = omega arith

last_below : (k m : ℕ) → k ≤ m → m < suc k → k ≡ m
last_below k m all few = omega arith

-- The first lines of those that say something.
reach : (text : List ℕ) (n at : ℕ) (d : Draft) → LinesSay text n at d → (m : ℕ) → m ≤ n → (x : ℕ) × (a : Draft) × LinesSay text m x a × (x ≤ at)
reach text n at d (none blank) m few = (0, d, subst (λ k. LinesSay text k 0 d) (zero_below m few) (none blank), omega arith)
reach text n at d (line {n = k} {at = x} {end = e} {old = c} new before is told) m few = elim (cases_lt k m) [
  | inl all ↦ (e + 1, new, subst (λ j. LinesSay text j (e + 1) new) (top_below k m all few) (line new before is told), omega arith)
  | inr fewer ↦ let more = reach text k x c before m fewer in (more.0, more.1, more.2, omega (arith, more.3, is.ahead))
]

-- The line after them says something.
next : (text : List ℕ) (n at : ℕ) (d : Draft) → LinesSay text n at d → (m : ℕ) → m < n → (x e : ℕ) × (a b : Draft) × LinesSay text m x a × IsLine text x e × SaysThere (slice_range text x e) (drop (e + 1) text) a b
next text n at d (none blank) m few = absurd (omega arith)
next text n at d (line {n = k} {at = x} {end = e} {old = c} new before is told) m few = elim (cases_lt m k) [
  | inl fewer ↦ next text k x c before m fewer
  | inr all ↦ (x, e, c, new, subst (λ j. LinesSay text j x c) (last_below k m all few) before, is, told)
]

faulty_stage : (l : List ℕ) (a b : Draft) (f : Fault) (c : ℕ) → a.stage ≡ b.stage → IsFaulty l a f c → IsFaulty l b f c
faulty_stage l a b f c e (faulty_remark text is trimmed no_opt lack at_one) = faulty_remark text (subst (λ s. IsRemark l s) e is) trimmed (subst (λ s. IsNoOpt text s) e no_opt) (subst (λ s. NoRemark text s f) e lack) at_one
faulty_stage l a b f c e (faulty_asked_words at begins lack) = faulty_asked_words (sym e ∙ at) begins lack
faulty_stage l a b f c e (faulty_asked words at begins are lack) = faulty_asked words (sym e ∙ at) begins are lack
faulty_stage l a b f c e (faulty_no_words plain lack) = faulty_no_words plain lack
faulty_stage l a b f c e (faulty_outside w ws out plain are told) = faulty_outside w ws (subst IsOutside e out) plain are told
faulty_stage l a b f c e (faulty_question words at plain are some lack) = faulty_question words (sym e ∙ at) plain are some lack
faulty_stage l a b f c e (faulty_entry section words at plain are some lack) = faulty_entry section words (ap settled (sym e) ∙ at) plain are some lack

-- A text whose lines all say something, and whose entries have room, has no line that isn't taken.
pub accepted : (comp : Bool) (text : List ℕ) (said : Draft) (e : LineError) → TextSays text said → EntriesHaveRoom comp text → StopsAtLine comp text e → ⊥
accepted comp text said e all fits stops = elim stops.refused [
  | no_room lack ↦ fits stops.lines stops.at stops.end stops.said e.fault e.column stops.before stops.is_line lack
  | says_nothing is never ↦ elim (cases_lt stops.lines all.lines) [
    | inl fewer ↦
        let told = next text all.lines all.at said all.to stops.lines fewer in
        let same = lines_once text stops.lines stops.at told.0 stops.said told.2 stops.before told.4 in
        let ends : stops.end ≡ told.1 = end_once text stops.at stops.end told.1 stops.is_line (subst (λ p. IsLine text p told.1) (sym same.0) told.5) in
        let alike : slice_range text told.0 told.1 ≡ slice_range text stops.at stops.end = ap (λ p. slice_range text p told.1) (sym same.0) ∙ ap (λ p. slice_range text stops.at p) (sym ends) in
        faulty_there (slice_range text stops.at stops.end) (drop (told.1 + 1) text) told.2 told.3 e.fault e.column
        (faulty_stage (slice_range text stops.at stops.end) stops.said told.2 e.fault e.column same.1 is) (subst (λ t. SaysThere t (drop (told.1 + 1) text) told.2 told.3) alike told.6)
    | inr past ↦
        let first = reach text stops.lines stops.at stops.said stops.before all.lines past in
        let same = lines_once text all.lines first.0 all.at first.1 said first.2 all.to in
        absurd (omega (arith, same.0, first.3, all.whole, stops.more))
  ]
]
