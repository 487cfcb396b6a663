use Rattle.std.proofs.Common.{◌≡◌, length}
use Rattle.domain_header.specs.Mnemonics.{rows_of}
use Rattle.domain_rdata_text.specs.Rtypes.{number_of_word}
use Rattle.domain_rdata_text.proofs.rtype.number_of_mnemonic.Given as goal

abbrev pub invariant-row : goal.invariant-row
invariant-row l = number_of_word (rows_of l.fn.table) l.fn.word ≡ number_of_word (rows_of l.rest) l.fn.word

abbrev pub decreases-row : goal.decreases-row
decreases-row l = length l.rest
