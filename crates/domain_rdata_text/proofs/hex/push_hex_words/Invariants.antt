use Rattle.std.proofs.Common.{◌≡◌, Ok, length}
use Rattle.domain_rdata_text.specs.Hex.{hex_words}
use Rattle.domain_rdata_text.specs.Words.{words_of}
use Rattle.domain_rdata_text.proofs.hex.push_hex_words.Given as goal

abbrev pub invariant-word : goal.invariant-word
invariant-word l = hex_words (Ok l.initial.made.items) (words_of l.fn.words) ≡ hex_words (Ok l.made.items) (words_of l.rest)

abbrev pub decreases-word : goal.decreases-word
decreases-word l = length l.rest
