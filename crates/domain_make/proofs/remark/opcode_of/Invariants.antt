use Rattle.std.proofs.Common.{◌≡◌, ℕ, ◌<◌}
use Rattle.domain_header.specs.Tables.{opcode_text}
use Rattle.domain_make.proofs.remark.opcode_of.Given as goal

abbrev pub invariant-loop-number : goal.invariant-loop-number
invariant-loop-number l = (n : ℕ) → n < l.number → l.text ≡ opcode_text n → ⊥
