-- What contracts say of a push of a question: the words of `BuilderEntries`, said of a `QuestionBuilder` and its
-- errors.
use Rattle.std.specs.Prelude.{◌≡◌, ℕ, List}
use Rattle.domain_message.specs.declared.question.Question.{Question}
use Rattle.domain_message_builder.specs.BuilderEntries as builder
use Rattle.domain_message_builder.specs.SectionErrors.{push_error}
use Rattle.domain_message_builder.specs.SectionViews.{question_builder}
use Rattle.domain_message_builder.specs.declared.section_error.SectionError.{SectionError}
use Rattle.domain_message_builder.specs.declared.question_builder.QuestionBuilder.{QuestionBuilder}

-- The message is as it was.
abbrev pub IsUnchanged : {T E : Type 0} {g : _} {h : _} {i : _} {j : _} {k : _} {l : _}
    → QuestionBuilder T E g h i j k l → QuestionBuilder T E g h i j k l → Type 0
IsUnchanged old new = question_builder new ≡ question_builder old

-- The question was pushed.
abbrev pub AddsQuestion : {T E N : Type 0} {g : _} {h : _} {i : _} {j : _} {k : _} {l : _}
    → (N → List (List ℕ)) → Question N → QuestionBuilder T E g h i j k l → QuestionBuilder T E g h i j k l → Type 0
AddsQuestion labels q old new =
    builder.AddsQuestion labels q (question_builder old) (question_builder new)

-- The target became what it is by its own calls for the question's name, and for the octets after it.
abbrev pub LeavesQuestion : {T E N : Type 0} {g : _} {h : _} {i : _} {j : _} {k : _} {l : _}
    → (N → List (List ℕ)) → Question N → QuestionBuilder T E g h i j k l → QuestionBuilder T E g h i j k l → Type 0
LeavesQuestion labels q old new =
    builder.LeavesQuestion labels q (question_builder old) (question_builder new)

-- Why the question wasn't pushed.
abbrev pub QuestionNotAdded : {T E N : Type 0} {g : _} {h : _} {i : _} {j : _} {k : _} {l : _}
    → (N → List (List ℕ)) → Question N → QuestionBuilder T E g h i j k l → SectionError E → Type 0
QuestionNotAdded labels q b e = builder.QuestionNotAdded labels q (question_builder b) (push_error e)

-- If the question was composed, it has no room in the target, or surpasses the limit, as the target writes it.
abbrev pub QuestionDoesNotFit : {T E N : Type 0} {g : _} {h : _} {i : _} {j : _} {k : _} {l : _}
    → (N → List (List ℕ)) → Question N → QuestionBuilder T E g h i j k l → SectionError E → Type 0
QuestionDoesNotFit labels q b e =
    builder.QuestionDoesNotFit labels q (question_builder b) (push_error e)
