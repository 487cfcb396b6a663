use Rattle.std.proofs.Common.{◌-◌, length}
use Rattle.domain_rdata.specs.ReadBack.{StandsAt}
use Rattle.domain_compress.proofs.Searching.{Passed}
use Rattle.domain_compress.proofs.search.suffix_at.Given as goal

abbrev pub invariant-ends : goal.invariant-ends
invariant-ends l = Passed (λ ys. StandsAt l.octets l.offset ys → ⊥) l.name l.begin

abbrev pub decreases-ends : goal.decreases-ends
decreases-ends l = length l.name - l.begin
