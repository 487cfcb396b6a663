use Rattle.std.proofs.Common.{◌≡◌, Ok, length}
use Rattle.domain_rdata_text.specs.Texts.{strings_words}
use Rattle.domain_rdata_text.specs.Words.{words_of}
use Rattle.domain_rdata_text.proofs.from_text.push_strings.Given as goal

abbrev pub invariant-word : goal.invariant-word
invariant-word l = strings_words (Ok l.initial.made.items) (words_of l.fn.words) ≡ strings_words (Ok l.made.items) (words_of l.rest)

abbrev pub decreases-word : goal.decreases-word
decreases-word l = length l.rest
