use Rattle.std.proofs.Common.{◌≡◌, drop}
use Rattle.domain_header.specs.Mnemonics.{rows_of, word_of}
use Rattle.domain_header.proofs.mnemonic.mnemonic_word.Given as goal

abbrev pub invariant-loop-row : goal.invariant-loop-row
invariant-loop-row l = word_of (rows_of l.table) l.number ≡ word_of (rows_of (drop l.row-index l.table)) l.number
