use Rattle.std.proofs.Common.{◌≡◌, ◌++◌, length}
use Rattle.domain_rdata_text.specs.Words.{spaced, lists}
use Rattle.domain_rdata_text.proofs.words.append_spaced.Given as goal

abbrev pub invariant-word : goal.invariant-word
invariant-word l = l.initial.text.items ++ spaced (lists l.fn.words) ≡ l.text.items ++ spaced (lists l.rest)

abbrev pub decreases-word : goal.decreases-word
decreases-word l = length l.rest
