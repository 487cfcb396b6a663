use Rattle.std.proofs.Common.{◌<◌, length}
use Rattle.domain_header.proofs.Digits.{ReadSoFar}
use Rattle.domain_header.proofs.numbered.decimal_number.Given as goal

abbrev pub invariant-loop-digit : goal.invariant-loop-digit
invariant-loop-digit l = (0 < length l.text) × ReadSoFar l.text l.digit-index l.number
