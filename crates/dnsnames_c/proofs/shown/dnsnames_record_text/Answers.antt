use Rattle.std.proofs.Common.{◌≡◌, ℕ, List, length, refl, inl}
use Rattle.std.specs.Prelude.{Option, Some, None}
use Rattle.domain_wire.specs.declared.error.ParseError.{ParseError}
use Rattle.domain_lines.specs.Putting.{PutsRecordOrNot}
use Rattle.dnsnames_c.specs.Shown.{shown_text_number, GivesLine}
use Rattle.dnsnames_c.proofs.shown.dnsnames_record_text.Goals as goal

-- a line that was put was given
line_given : (m : List ℕ) (p status : ℕ) (old new : List ℕ) (old_len len : ℕ) (why : Option ParseError) → PutsRecordOrNot m p why old new len → ((e : ParseError) → why ≡ Some e → ⊥) → status ≡ shown_text_number len why (length old) → GivesLine m p status old new old_len len
line_given m p status old new old_len len None (it, end, line, at, is, holds) none said = inl (it, end, line, at, is, (holds, said))
line_given m p status old new old_len len (Some e) put none said = absurd (none e refl)

pub returns : goal.returns
returns c =
    line_given c.args.message.now c.args.offset c.number_of_text.result c.args.buffer.now c.put_record.new.buffer c.args.length.now c.in-Some.put.len c.in-Some.put.why c.in-Some.ensures c.in_default-why.not-Some c.number_of_text.ensures
