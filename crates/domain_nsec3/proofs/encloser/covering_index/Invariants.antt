use Rattle.std.specs.List.{AllWithin}
use Rattle.domain_nsec3.specs.Enclosers.{Covers}
use Rattle.domain_nsec3.proofs.encloser.covering_index.Given as goal

-- none so far covers
abbrev pub invariant-loop-i : goal.invariant-loop-i
invariant-loop-i l = AllWithin (λ r. Covers l.iterations l.salt l.hash r → ⊥) l.records 0 l.i
