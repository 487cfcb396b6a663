use Rattle.std.proofs.Common.{◌≡◌, ◌++◌, map, length}
use Rattle.domain_rdata_text.specs.Rtypes.{type_text}
use Rattle.domain_rdata_text.specs.Words.{lists}
use Rattle.domain_rdata_text.proofs.rtype.append_type_words.Given as goal

abbrev pub invariant-rtype : goal.invariant-rtype
invariant-rtype l = lists l.initial.words.items ++ map type_text l.fn.types ≡ lists l.words.items ++ map type_text l.rest

abbrev pub decreases-rtype : goal.decreases-rtype
decreases-rtype l = length l.rest
