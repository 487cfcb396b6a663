use Rattle.std.proofs.Common.{◌≡◌, ◌++◌, length, map}
use Rattle.domain_make.specs.Words.{placed, words_at}
use Rattle.domain_rdata_text.specs.Words.{words_of}
use Rattle.domain_make.proofs.words.placed.Given as goal

abbrev pub invariant-word : goal.invariant-word
invariant-word l = map (placed (length l.fn.line) l.fn.start) (words_of l.fn.words) ≡ words_at l.made.items ++ map (placed (length l.fn.line) l.fn.start) (words_of l.rest)

abbrev pub decreases-word : goal.decreases-word
decreases-word l = length l.rest
