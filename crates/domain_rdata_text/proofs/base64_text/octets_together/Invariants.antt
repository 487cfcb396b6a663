use Rattle.std.proofs.Common.{◌≡◌, ◌++◌, length}
use Rattle.domain_rdata_text.specs.Base64.{together}
use Rattle.domain_rdata_text.specs.Words.{words_of}
use Rattle.domain_rdata_text.proofs.base64_text.octets_together.Given as goal

abbrev pub invariant-word : goal.invariant-word
invariant-word l = together (words_of l.fn.words) ≡ l.made.items ++ together (words_of l.rest)

abbrev pub decreases-word : goal.decreases-word
decreases-word l = length l.rest
