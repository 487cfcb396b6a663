use Rattle.std.proofs.Common.{sym, subst, refl, ◌∙◌}
use Rattle.domain_header.specs.Values.{rcode_number}
use Rattle.domain_message.specs.RecordModel.{record_fields}
use Rattle.domain_lines.specs.Records.{is_opt_in, IsOptText}
use Rattle.domain_lines.specs.Records.IsEntryText.{opt, plain}
use Rattle.domain_lines.proofs.Entries.{any_here, any_still}
use Rattle.domain_lines.proofs.record.write_entry.Goals as goal

pub returns-then-opt_is-clause-written : goal.returns-then-opt_is-clause-written
returns-then-opt_is-clause-written g c = λ before known.
    let text = c.in_ok-write_opt.ensures.written in
    let it = record_fields c.args.found.now in
    (text.0, opt (sym c.opt_is.ensures ∙ c.if-opt_is.true) (subst (λ another. IsOptText (rcode_number c.args.rcode) another it text.0) known text.1), text.2)

pub returns-then-opt_is-clause-seen : goal.returns-then-opt_is-clause-seen
returns-then-opt_is-clause-seen g c = λ before known. any_here (is_opt_in c.args.section) before (record_fields c.args.found.now) (sym c.opt_is.ensures ∙ c.if-opt_is.true)

pub returns-clause-written : goal.returns-clause-written
returns-clause-written g c = λ before known.
    let line = c.in_ok-write_record.ensures.written in
    (_, plain line.0 (sym c.opt_is.ensures ∙ c.if-opt_is.false) line.1 refl, line.2)

pub returns-clause-seen : goal.returns-clause-seen
returns-clause-seen g c = λ before known. any_still (is_opt_in c.args.section) before (record_fields c.args.found.now) c.args.opt_seen (sym c.opt_is.ensures ∙ c.if-opt_is.false) known
