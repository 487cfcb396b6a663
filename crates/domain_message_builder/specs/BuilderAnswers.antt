-- What contracts say about a builder of an answer, and about its OPT record. `g` to `l` are as in `Builders`. `m` is
-- what `Octets` provides for the octets of the query or of the options.
use Rattle.std.specs.Prelude.{◌≡◌, ℕ, List, ◌++◌, Option, Result, option_copied}
use denote.Bor.{Bor}
use Rattle.octseq.specs.declared.octets.Octets.{Ghosts}
use Rattle.domain_header.specs.Values.{rcode_number}
use Rattle.domain_header.specs.declared.code.Rcode.{Rcode}
use Rattle.domain_message.specs.Messages.{message_octets}
use Rattle.domain_message.specs.declared.message.Message.{Message}
use Rattle.domain_message_builder.specs.Answers.{StartsAnswer, StartsError, NotStarted, RepeatsQuestion}
use Rattle.domain_message_builder.specs.Answers.{HasQuestion, HasNoQuestion, DoesNotFit, GivenOrRefused}
use Rattle.domain_message_builder.specs.BuilderEntries.{most_octets}
use Rattle.domain_message_builder.specs.Builders.{state, target_room}
use Rattle.domain_message_builder.specs.Cuts.{PushesOpt, WritesOpt, OptRefused, CannotAddOpt, is_cut, EndsAnswer, NotEnded}
use Rattle.domain_message_builder.specs.Ends.{KeepsOpt, KeepsOpts, LosesOpt, LosesOpts}
use Rattle.domain_message_builder.specs.Finished.{EndsIn}
use Rattle.domain_message_builder.specs.Opt.{opt_record_octets}
use Rattle.domain_message_builder.specs.OptViews.{opt_of, opt_given}
use Rattle.domain_message_builder.specs.Views.{target_of}
use Rattle.domain_message_builder.specs.declared.builder.MessageBuilder.{MessageBuilder}
use Rattle.domain_message_builder.specs.declared.error.PushError.{PushError}
use Rattle.domain_message_builder.specs.declared.opt.OptBuilder.{OptBuilder}

-- An answer to the query was begun: its header, and the question where it has one.
abbrev pub AnswersQuery : {T E O : Type 0} {g : _} {h : _} {i : _} {j : _} {k : _} {l : _} {m : Ghosts O}
    → Message O m → Rcode → MessageBuilder T E g h i j k l → MessageBuilder T E g h i j k l → Type 0
AnswersQuery {g = g} query rcode old new =
    StartsAnswer g.compresses (message_octets query) (rcode_number rcode) (state old) (state new)

-- An answer to the query was begun, or its header alone was set where the question can't be pushed.
abbrev pub AnswersInError : {T E O : Type 0} {g : _} {h : _} {i : _} {j : _} {k : _} {l : _} {m : Ghosts O}
    → Message O m → Rcode → MessageBuilder T E g h i j k l → MessageBuilder T E g h i j k l → Type 0
AnswersInError {g = g} query rcode old new =
    StartsError g.compresses (message_octets query) (rcode_number rcode) (target_room old) (state old) (state new)

-- Why no answer was begun.
abbrev pub QueryNotAnswered : {T E O : Type 0} {g : _} {h : _} {i : _} {j : _} {k : _} {l : _} {m : Ghosts O}
    → Message O m → MessageBuilder T E g h i j k l → PushError E → Type 0
QueryNotAnswered {g = g} query b e =
    NotStarted g.compresses (message_octets query) (state b) (target_room b) e

-- The target was given the query's first question: the name, with its labels unchanged, then type and class. Or the
-- query has no first question, and the target is unchanged.
abbrev pub LeavesQuery : {T E O : Type 0} {g : _} {h : _} {i : _} {j : _} {k : _} {l : _} {m : Ghosts O}
    → Message O m → MessageBuilder T E g h i j k l → MessageBuilder T E g h i j k l → Type 0
LeavesQuery {g = g} {h = h} query old new =
    RepeatsQuestion h.extends g.appends (message_octets query) (target_of old) (target_of new)

-- The query has a first question.
abbrev pub QueryAsks : {O : Type 0} {m : Ghosts O} → Message O m → Type 0
QueryAsks query = HasQuestion (message_octets query)

-- It has none, or it is missing.
abbrev pub QueryAsksNothing : {O : Type 0} {m : Ghosts O} → Message O m → Type 0
QueryAsksNothing query = HasNoQuestion (message_octets query)

-- If the query's question was composed, it has no room in the target, or surpasses the limit, as the target writes it.
abbrev pub QueryDoesNotFit : {T E O : Type 0} {g : _} {h : _} {i : _} {j : _} {k : _} {l : _} {m : Ghosts O}
    → Message O m → MessageBuilder T E g h i j k l → PushError E → Type 0
QueryDoesNotFit {g = g} {h = h} {j = j} query b e =
    DoesNotFit j.octets j.capacity g.may_append h.extends g.appends (message_octets query) (most_octets b) (target_of b) e

-- A push of the query's question is refused, with an error that has its reason.
abbrev pub QueryRefused : {T E O : Type 0} {g : _} {h : _} {i : _} {j : _} {k : _} {l : _} {m : Ghosts O}
    → Message O m → MessageBuilder T E g h i j k l → Type 0
QueryRefused {E = E} query b = (e : PushError E) × QueryNotAnswered query b e × QueryDoesNotFit query b e

-- The target was given the query's question, if the query has one. Or the question was refused, and the target has the
-- same octets as before and remembers the same names.
abbrev pub LeavesQueryOrNone : {T E O : Type 0} {g : _} {h : _} {i : _} {j : _} {k : _} {l : _} {m : Ghosts O}
    → Message O m → MessageBuilder T E g h i j k l → MessageBuilder T E g h i j k l → Type 0
LeavesQueryOrNone {g = g} {j = j} query old new =
    GivenOrRefused j.octets g.memory (LeavesQuery query old new) (QueryRefused query old) (target_of old) (target_of new)

-- The OPT record was pushed as an additional record, and nothing is set aside any more.
abbrev pub AddsOpt : {T E O : Type 0} {g : _} {h : _} {i : _} {j : _} {k : _} {l : _} {m : Ghosts O}
    → OptBuilder O m → MessageBuilder T E g h i j k l → MessageBuilder T E g h i j k l → Type 0
AddsOpt {g = g} opt old new = PushesOpt g.compresses (opt_of opt) (state old) (state new)

-- The message has the octets of the OPT record after those that it had.
abbrev pub AppendsOpt : {T E O : Type 0} {g : _} {h : _} {i : _} {j : _} {k : _} {l : _} {m : Ghosts O}
    → OptBuilder O m → MessageBuilder T E g h i j k l → MessageBuilder T E g h i j k l → Type 0
AppendsOpt opt old new = (state new).octets ≡ (state old).octets ++ opt_record_octets (opt_of opt)

-- The target became what it is by its own calls for the root, and for the octets of the OPT record after it.
abbrev pub LeavesOpt : {T E O : Type 0} {g : _} {h : _} {i : _} {j : _} {k : _} {l : _} {m : Ghosts O}
    → OptBuilder O m → MessageBuilder T E g h i j k l → MessageBuilder T E g h i j k l → Type 0
LeavesOpt {g = g} {h = h} {i = i} {j = j} opt old new =
    WritesOpt j.octets h.extends i.cuts g.appends (opt_of opt) (target_of old) (target_of new)

-- Why the OPT record wasn't pushed.
abbrev pub OptNotAdded : {T E O : Type 0} {g : _} {h : _} {i : _} {j : _} {k : _} {l : _} {m : Ghosts O}
    → OptBuilder O m → MessageBuilder T E g h i j k l → PushError E → Type 0
OptNotAdded {g = g} opt b e = OptRefused g.compresses (opt_of opt) (state b) (target_room b) e

-- There is no room for the OPT record, or there are 65,535 additional records.
abbrev pub HasNoRoomForOpt : {T E O : Type 0} {g : _} {h : _} {i : _} {j : _} {k : _} {l : _} {m : Ghosts O}
    → OptBuilder O m → MessageBuilder T E g h i j k l → Type 0
HasNoRoomForOpt opt b = CannotAddOpt (opt_of opt) (target_room b) (state b)

-- The OPT record was pushed, or, where it can't be after the records, instead of them, and TC was set.
abbrev pub EndsWithOpt : {T E O : Type 0} {g : _} {h : _} {i : _} {j : _} {k : _} {l : _} {m : Ghosts O}
    → OptBuilder O m → MessageBuilder T E g h i j k l → MessageBuilder T E g h i j k l → Type 0
EndsWithOpt {g = g} opt old new =
    KeepsOpt g.compresses (opt_of opt) (target_room old) (state old) (state new)

-- The OPT record has no room even after the questions alone.
abbrev pub LeavesNoRoomFor : {T E O : Type 0} {g : _} {h : _} {i : _} {j : _} {k : _} {l : _} {m : Ghosts O}
    → OptBuilder O m → MessageBuilder T E g h i j k l → PushError E → Type 0
LeavesNoRoomFor opt b e = LosesOpt (opt_of opt) (target_room b) (state b) e

-- The OPT record was pushed so, if there is one.
abbrev pub EndsWithOpts : {T E O : Type 0} {g : _} {h : _} {i : _} {j : _} {k : _} {l : _} {m : Ghosts O}
    → Option (Bor (OptBuilder O m)) → MessageBuilder T E g h i j k l → MessageBuilder T E g h i j k l → Type 0
EndsWithOpts {g = g} opt old new =
    KeepsOpts g.compresses (opt_given (option_copied opt)) (target_room old) (state old) (state new)

-- There is an OPT record, and it has no room even after the questions alone.
abbrev pub LeavesNoRoomForAny : {T E O : Type 0} {g : _} {h : _} {i : _} {j : _} {k : _} {l : _} {m : Ghosts O}
    → Option (Bor (OptBuilder O m)) → MessageBuilder T E g h i j k l → PushError E → Type 0
LeavesNoRoomForAny opt b e = LosesOpts (opt_given (option_copied opt)) (target_room b) (state b) e

-- The octets are the answer that was held, cut if a push of it was refused, with the OPT record at its end, if there
-- is one.
abbrev pub EndsAs : {T E O A : Type 0} {g : _} {h : _} {i : _} {j : _} {k : _} {l : _} {m : Ghosts O}
    → Result A (PushError E) → Option (Bor (OptBuilder O m)) → MessageBuilder T E g h i j k l → List ℕ → Type 0
EndsAs {g = g} pushed opt b made =
    EndsAnswer g.compresses (is_cut pushed) (opt_given (option_copied opt)) (target_room b) (state b) made

-- The octets are the header and the counts of that answer, and what was composed for it.
abbrev pub ClosesIn : {T E O A : Type 0} {g : _} {h : _} {i : _} {j : _} {k : _} {l : _} {m : Ghosts O}
    → Result A (PushError E) → Option (Bor (OptBuilder O m)) → MessageBuilder T E g h i j k l → List ℕ → Type 0
ClosesIn {g = g} pushed opt b made =
    EndsIn g.compresses (is_cut pushed) (opt_given (option_copied opt)) (target_room b) (state b) made

-- Why the answer wasn't finished.
abbrev pub EndRefused : {T E O A : Type 0} {g : _} {h : _} {i : _} {j : _} {k : _} {l : _} {m : Ghosts O}
    → Result A (PushError E) → Option (Bor (OptBuilder O m)) → MessageBuilder T E g h i j k l → PushError E → Type 0
EndRefused pushed opt b e =
    NotEnded pushed (opt_given (option_copied opt)) (target_room b) (state b) e
