use Rattle.std.proofs.Common.{◌≡◌, [], Ok, length}
use Rattle.domain_rdata_text.specs.Rtypes.{types_words}
use Rattle.domain_rdata_text.specs.Words.{words_of}
use Rattle.domain_rdata_text.proofs.rtype.types_of_words.Given as goal

abbrev pub invariant-word : goal.invariant-word
invariant-word l = types_words (Ok []) (words_of l.fn.words) ≡ types_words (Ok l.types.items) (words_of l.rest)

abbrev pub decreases-word : goal.decreases-word
decreases-word l = length l.rest
