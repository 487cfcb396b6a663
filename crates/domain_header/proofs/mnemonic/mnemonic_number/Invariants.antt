use Rattle.std.proofs.Common.{ℕ, drop}
use Rattle.std.specs.Prelude.{Option}
use Rattle.domain_header.specs.Mnemonics.{rows_of, NumberOf}
use Rattle.domain_header.proofs.mnemonic.mnemonic_number.Given as goal

abbrev pub invariant-loop-row : goal.invariant-loop-row
invariant-loop-row l = (found : Option ℕ) → NumberOf l.word (rows_of (drop l.row-index l.table)) found → NumberOf l.word (rows_of l.table) found
