-- What errors say, and what they write.
use Rattle.std.specs.Prelude.{◌≡◌, ℕ, true, List, codes}
use Rattle.domain_message_builder.specs.Errors.{is_early}
use Rattle.domain_message_builder.specs.declared.error.PushError.{PushError}
use Rattle.domain_message_builder.specs.declared.error.PushError.TheVariants.{Append, Long, Count, Limit}
use Rattle.domain_message_builder.specs.declared.section_error.SectionError.{SectionError}
use Rattle.domain_message_builder.specs.declared.section_error.SectionError.TheVariants.{Append as NoRoom, Long as TooLong, Count as TooMany, Limit as OverLimit}

-- The error of a push that has the same reason. None has the reason that a later section was begun.
abbrev pub push_error : {E : Type 0} → SectionError E → PushError E
push_error (NoRoom e) = Append e
push_error (TooLong e) = Long e
push_error TooMany = Count
push_error OverLimit = Limit

-- The error is returned before anything is composed.
abbrev pub IsEarly : {E : Type 0} → SectionError E → Type 0
IsEarly e = is_early (push_error e) ≡ true

-- why an entry wasn't pushed
abbrev pub section_error_text : {E : Type 0} → SectionError E → List ℕ
section_error_text (NoRoom _) = codes "buffer size exceeded"
section_error_text (TooLong _) = codes "record data too long"
section_error_text TooMany = codes "too many entries in a section"
section_error_text OverLimit = codes "message size exceeded"
