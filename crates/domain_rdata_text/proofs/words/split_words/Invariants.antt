use Rattle.std.proofs.Common.{◌≡◌, ◌+◌, ◌≤◌, length}
use Rattle.domain_rdata_text.specs.Words.{split, split_from, words_of}
use Rattle.domain_rdata_text.proofs.words.split_words.Given as goal

abbrev pub invariant-octet : goal.invariant-octet
invariant-octet l = record {
  words : split l.fn.text ≡ split_from (length l.fn.text) (words_of l.words.items) l.word.items l.mode l.rest;
  short : length l.word.items + length l.rest ≤ length l.fn.text;
}

abbrev pub decreases-octet : goal.decreases-octet
decreases-octet l = length l.rest
