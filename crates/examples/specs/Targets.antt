-- What becomes of a target that a message is built on. `g` is `Target.Composer`, `d` and `e` are
-- `D.ComposeRecordData`, and `labels` maps a name to its labels.
use Rattle.std.specs.Prelude.{ℕ, ◌<◌, ◌⊎◌, List, length, Option, IfSome}
use Rattle.octseq.specs.declared.octets.Octets.{Ghosts}
use Rattle.domain_header.specs.Values.{rcode_number}
use Rattle.domain_header.specs.declared.code.Rcode.{Rcode}
use Rattle.domain_header.specs.declared.flags.Header.{Header}
use Rattle.domain_message.specs.Messages.{message_octets}
use Rattle.domain_message.specs.declared.message.Message.{Message}
use Rattle.domain_rdata.specs.Members.{ComposerMembers, DataMembers}
use Rattle.domain_message.specs.RecordParts.{data_of}
use Rattle.domain_message.specs.declared.question.Question.{Question}
use Rattle.domain_message.specs.declared.resource_record.Record.{Record}
use Rattle.domain_message_builder.specs.OptViews.{opt_of}
use Rattle.domain_message_builder.specs.Pushes.{asked, headed}
use Rattle.domain_message_builder.specs.declared.opt.OptBuilder.{OptBuilder}
use Rattle.examples.specs.Built.{IsQuery, IsSizedQuery, IsAnswer, NotAsked, NotSized, NotAnswered}
use Rattle.examples.specs.Served.{IsReferral, LacksRecord, IsErrorAnswer, IsWholeOrCut, NotEvenCut}

-- The message, if there is one, asks this question.
abbrev pub AsksQuestion : {T N : Type 0} → (T → List ℕ) → (N → List (List ℕ)) → Header → Question N → Option T → Type 0
AsksQuestion octets labels header q r = IfSome r (λ made. IsQuery header (asked labels q) (octets made))

-- The target can't hold a message that does.
abbrev pub NoQueryFits : {T N : Type 0} → ComposerMembers T → (N → List (List ℕ)) → Question N → T → Type 0
NoQueryFits g labels q target =
    NotAsked g.compresses (asked labels q) (g.octets target) (g.capacity target) 65535

-- The message, if there is one, asks it, and states how many octets of an answer are taken.
abbrev pub AsksWithSize : {T N : Type 0} → (T → List ℕ) → (N → List (List ℕ)) → Header → Question N → (size : ℕ) → Option T → Type 0
AsksWithSize octets labels header q size r =
    IfSome r (λ made. IsSizedQuery header (asked labels q) size (octets made))

-- The target can't hold a message that does.
abbrev pub NoSizedQueryFits : {T N : Type 0} → ComposerMembers T → (N → List (List ℕ)) → Question N → (size : ℕ) → T → Type 0
NoSizedQueryFits g labels q size target =
    NotSized g.compresses (asked labels q) size (g.octets target) (g.capacity target) 65535

-- The message, if there is one, has at most 512 octets, and answers this question with this record.
abbrev pub AnswersWith : {T N D : Type 0} → ComposerMembers T → (N → List (List ℕ)) → DataMembers D → Header → Question N → Record N D → Option T → Type 0
AnswersWith g labels d header q it r =
    IfSome r (λ made. IsAnswer g.compresses header (asked labels q) (headed labels d.type_number it) (d.composed (data_of it) g.compresses) (g.octets made))

-- The target can't hold a message that does.
abbrev pub NoAnswerFits : {T N D : Type 0} → ComposerMembers T → (N → List (List ℕ)) → DataMembers D → Question N → Record N D → T → Type 0
NoAnswerFits g labels d q it target =
    NotAnswered g.compresses (asked labels q) (headed labels d.type_number it) (d.composed (data_of it) g.compresses) (g.octets target) (g.capacity target) 512

-- The target isn't empty, or has no room for a header.
abbrev pub CannotBegin : {T : Type 0} → ComposerMembers T → T → Type 0
CannotBegin g target = (0 < length (g.octets target)) ⊎ (g.capacity target < 12)

-- The message, if there is one, refers the query to this server of this address.
abbrev pub Refers : {T N S G O : Type 0} {m : Ghosts O} → ComposerMembers T → (N → List (List ℕ)) → DataMembers S → DataMembers G → Message O m → Record N S → Record N G → Option T → Type 0
Refers g labels d e query server glue r =
    IfSome r (λ made. IsReferral g.compresses (message_octets query)
    (headed labels d.type_number server) (d.composed (data_of server) g.compresses)
    (headed labels e.type_number glue) (e.composed (data_of glue) g.compresses) (g.octets made))

-- The target can't hold a message that does.
abbrev pub NoReferralFits : {T N S G O : Type 0} {m : Ghosts O} → ComposerMembers T → (N → List (List ℕ)) → DataMembers S → DataMembers G → Message O m → Record N S → Record N G → T → Type 0
NoReferralFits g labels d e query server glue target =
    LacksRecord g.compresses (message_octets query)
    (headed labels d.type_number server) (d.composed (data_of server) g.compresses)
    (headed labels e.type_number glue) (e.composed (data_of glue) g.compresses)
    (g.octets target) (g.capacity target) 65535

-- The message, if there is one, answers the query with this error.
abbrev pub TellsError : {T O : Type 0} {m : Ghosts O} → ComposerMembers T → Message O m → Rcode → T → Option T → Type 0
TellsError g query rcode target r =
    IfSome r (λ made. IsErrorAnswer g.compresses (message_octets query) (g.octets target) (g.capacity target) (rcode_number rcode) (g.octets made))

-- The message, if there is one, answers the query with this record, or must be cut, and has this OPT record.
abbrev pub AnswersOrCuts : {T N D O P : Type 0} {m : Ghosts O} {n : Ghosts P} → ComposerMembers T → (N → List (List ℕ)) → DataMembers D → Message O m → Record N D → OptBuilder P n → T → Option T → Type 0
AnswersOrCuts g labels d query it opt target r =
    IfSome r (λ made. IsWholeOrCut g.compresses (message_octets query)
    (headed labels d.type_number it) (d.composed (data_of it) g.compresses) (opt_of opt)
    (g.capacity target) 512 (g.octets made))

-- The target can't hold even one that is cut, or the data is too long for any message.
abbrev pub NotEvenCutFits : {T N D O P : Type 0} {m : Ghosts O} {n : Ghosts P} → ComposerMembers T → (N → List (List ℕ)) → DataMembers D → Message O m → Record N D → OptBuilder P n → T → Type 0
NotEvenCutFits g labels d query it opt target =
    NotEvenCut g.compresses (message_octets query)
    (headed labels d.type_number it) (d.composed (data_of it) g.compresses) (opt_of opt)
    (g.octets target) (g.capacity target) 512
