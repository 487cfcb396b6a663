use Rattle.std.proofs.Common.{◌-◌, length, subst, sym, arith}
use Rattle.domain_text.specs.BuilderState.{BuilderState, empty_state, Makes, StopsAt}
use Rattle.domain_text.specs.Buffer.{buffer_view}
use Rattle.domain_text.specs.declared.name_symbol.TextFault.TheVariants.{EmptyLabel, LongLabel}
use Rattle.domain_text.proofs.PlainTexts.{none_ended, letter_passed, dot_ended, empty_label, long_label_there, all_read, all_inside, read_parts, whole_made}
use Rattle.domain_text.proofs.buffer.end_plain.Goals.{then-text-i-eq46+else-i-head+else-i-head-gt63, else-text-i-eq46}
use Rattle.domain_text.proofs.buffer.end_plain.Goals as goal

pub loop-i-init : goal.loop-i-init
loop-i-init c = none_ended c.args.octets.now c.args.text.now c.told-octets c.requires.there

pub returns-then-i-head-clause-read : goal.returns-then-i-head-clause-read
returns-then-i-head-clause-read c = λ all r.
    subst (λ ps. (m : BuilderState) × StopsAt empty_state ps m EmptyLabel) (sym (read_parts c.args.text.now all c.requires.plain.plain r))
    (empty_label c.loop-i.octets c.args.text.now c.loop-i.head c.loop-i.i c.loop-i.invariant c.requires.plain.short c.loop-i-test.true c.if-text-i-eq46.true c.if-i-head.true)

pub returns-then-i-head-gt63-clause-read : goal.returns-then-i-head-gt63-clause-read
returns-then-i-head-gt63-clause-read c = λ all r.
    subst (λ ps. (m : BuilderState) × StopsAt empty_state ps m LongLabel) (sym (read_parts c.args.text.now all c.requires.plain.plain r))
    (long_label_there c.loop-i.octets c.args.text.now c.loop-i.head c.loop-i.i c.loop-i.invariant c.requires.plain.short c.if-i-head-gt63.true)

pub loop-i-preserved : goal.loop-i-preserved
loop-i-preserved c = elim c.if-text-i-eq46.branch [
  | then-text-i-eq46+else-i-head+else-i-head-gt63 w ↦ rw (w.octets-is, w.head-is) (dot_ended c.loop-i.octets c.args.text.now c.loop-i.head c.loop-i.i c.loop-i.invariant c.requires.plain.short c.loop-i-test.true w.if-text-i-eq46.true (omega (arith, w.if-i-head.false, c.loop-i.invariant.passed)) w.if-i-head-gt63.false)
  | else-text-i-eq46 w ↦ rw (w.octets-is, w.head-is) (letter_passed c.loop-i.octets c.args.text.now c.loop-i.head c.loop-i.i c.loop-i.invariant c.requires.plain.plain c.loop-i-test.true w.if-text-i-eq46.false)
]

pub returns-then-open_len-gt63-clause-read : goal.returns-then-open_len-gt63-clause-read
returns-then-open_len-gt63-clause-read c = λ all r.
    subst (λ ps. (m : BuilderState) × StopsAt empty_state ps m LongLabel) (sym (read_parts c.args.text.now all c.requires.plain.plain r))
    (long_label_there c.loop-i.octets c.args.text.now c.loop-i.head (length c.args.text.now) (whole_made c.loop-i.octets c.args.text.now c.loop-i.head c.loop-i.i c.loop-i.invariant c.loop-i-test.false) c.requires.plain.short c.if-open_len-gt63.true)

pub returns-clause-read : goal.returns-clause-read
returns-clause-read c = λ all r.
    subst (λ ps. Makes empty_state ps (buffer_view c.loop-i.octets c.loop-i.head (length c.args.text.now - c.loop-i.head))) (sym (read_parts c.args.text.now all c.requires.plain.plain r))
    (all_read c.loop-i.octets c.args.text.now c.loop-i.head c.loop-i.i c.loop-i.invariant c.loop-i-test.false c.requires.plain.short c.if-open_len-gt63.false)

pub returns-clause-inside : goal.returns-clause-inside
returns-clause-inside c = all_inside c.loop-i.octets c.args.text.now c.loop-i.head c.loop-i.i c.loop-i.invariant c.requires.plain.short c.if-open_len-gt63.false
