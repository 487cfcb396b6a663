use Rattle.std.specs.List.{AllWithin}
use Rattle.domain_nsec3.specs.Enclosers.{Matches}
use Rattle.domain_nsec3.proofs.encloser.matching_index.Given as goal

-- none so far matches
abbrev pub invariant-loop-i : goal.invariant-loop-i
invariant-loop-i l = AllWithin (λ r. Matches l.iterations l.salt l.hash r → ⊥) l.records 0 l.i
