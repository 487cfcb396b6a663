use Rattle.domain_text.proofs.PlainTexts.{IsEnded}
use Rattle.domain_text.proofs.buffer.end_plain.Given as goal

abbrev pub invariant-loop-i : goal.invariant-loop-i
invariant-loop-i l = IsEnded l.octets l.text l.head l.i
