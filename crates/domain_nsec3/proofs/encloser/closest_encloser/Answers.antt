use Rattle.std.proofs.Common.{ℕ, List, IfNone, subst}
use Rattle.domain_nsec3.specs.Enclosers.{IsEncloserProof}
use Rattle.domain_nsec3.specs.declared.encloser.EncloserProof.{EncloserProof}
use Rattle.domain_nsec3.proofs.encloser.closest_encloser.Goals as goal

pub returns-clause-none : goal.returns-clause-none
returns-clause-none g c =
    subst (λ (x : List (List ℕ)). IfNone c.find_encloser.result ((it : EncloserProof) → IsEncloserProof c.args.records.now c.args.iterations c.args.salt.now x it → ⊥)) c.for_slice.ensures c.find_encloser.ensures.none
