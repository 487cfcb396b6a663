use Rattle.std.proofs.Common.{◌≡◌, ◌++◌, length}
use Rattle.domain_rdata_text.specs.Addresses.{dotted}
use Rattle.domain_rdata_text.proofs.address.append_dotted.Given as goal

abbrev pub invariant-number : goal.invariant-number
invariant-number l = l.initial.text.items ++ dotted l.fn.numbers ≡ l.text.items ++ dotted l.rest

abbrev pub decreases-number : goal.decreases-number
decreases-number l = length l.rest
