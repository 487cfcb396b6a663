use Rattle.domain_reading.proofs.Skipping.{skip_label, skip_pointer}
use Rattle.domain_reading.proofs.read.encoding_end_with.Goals as goal

pub heads-preserved : goal.heads-preserved
heads-preserved g c =
    let found = rw c.in-Label.is at c.in_ok-octets.ensures.found in
    skip_label _ _ c.heads.invariant found c.from.ensures c.from-in-Label.ensures c.if-len-gt-MAX_NAME_LEN.false

pub returns-in-Pointer-clause-skips : goal.returns-in-Pointer-clause-skips
returns-in-Pointer-clause-skips g c = skip_pointer c.heads.invariant (rw c.in-Pointer.is at c.in_ok-octets.ensures.found).0
