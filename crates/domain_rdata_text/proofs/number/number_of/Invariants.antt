use Rattle.std.proofs.Common.{◌≡◌, ◌<◌, length}
use Rattle.domain_rdata_text.specs.Numbers.{read_number, number_from}
use Rattle.domain_rdata_text.proofs.number.number_of.Given as goal

abbrev pub invariant-digit : goal.invariant-digit
invariant-digit l = record { value : read_number l.limit l.word ≡ number_from l.limit l.number l.rest; below : l.number < l.limit }

abbrev pub decreases-digit : goal.decreases-digit
decreases-digit l = length l.rest
