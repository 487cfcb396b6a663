use Rattle.std.proofs.Common.{◌≡◌, ◌++◌, map, length}
use Rattle.domain_rdata_text.specs.Strings.{string_text}
use Rattle.domain_rdata_text.specs.Words.{lists}
use Rattle.domain_rdata_text.proofs.string.append_string_words.Given as goal

abbrev pub invariant-string : goal.invariant-string
invariant-string l = lists l.initial.words.items ++ map string_text (lists l.fn.strings) ≡ lists l.words.items ++ map string_text (lists l.rest)

abbrev pub decreases-string : goal.decreases-string
decreases-string l = length l.rest
