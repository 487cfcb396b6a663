use Rattle.std.proofs.Common.{◌≡◌, ◌++◌, length}
use Rattle.std.specs.List.{flat_map}
use Rattle.domain_rdata_text.specs.Texts.{val_words}
use Rattle.domain_rdata_text.specs.Values.{vals_of}
use Rattle.domain_rdata_text.specs.Words.{lists}
use Rattle.domain_rdata_text.proofs.to_text.words_of_values.Given as goal

abbrev pub invariant-value : goal.invariant-value
invariant-value l = flat_map val_words (vals_of l.fn.values) ≡ lists l.words.items ++ flat_map val_words (vals_of l.rest)

abbrev pub decreases-value : goal.decreases-value
decreases-value l = length l.rest
