use Rattle.std.proofs.Common.{refl}
use Rattle.domain_header.proofs.Rows.{row_here, row_later, no_row}
use Rattle.domain_header.proofs.mnemonic.mnemonic_number.Goals as goal

pub returns-then-eq_ignore_ascii_case : goal.returns-then-eq_ignore_ascii_case
returns-then-eq_ignore_ascii_case c = c.loop-row.invariant _ (row_here c.args.word.now c.args.table.now c.loop-row.row-index _ c.loop-row-test.true (c.if-eq_ignore_ascii_case.ensures.test.0 refl))

pub loop-row-preserved : goal.loop-row-preserved
loop-row-preserved c = λ found rest. c.loop-row.invariant found (row_later c.args.word.now c.args.table.now c.loop-row.row-index _ found c.loop-row-test.true (λ same. absurd (cc (c.if-eq_ignore_ascii_case.ensures.test.1 same))) rest)

pub returns : goal.returns
returns c = c.loop-row.invariant _ (no_row c.args.word.now c.args.table.now c.loop-row.row-index c.loop-row-test.false)
