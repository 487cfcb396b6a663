use Rattle.std.proofs.Common.{◌≡◌}
use Rattle.sha1.specs.Sha1.{sha1}
use Rattle.domain_nsec3.specs.Hashing.{iterated_hash}
use Rattle.domain_nsec3.proofs.hashing.iterated.Given as goal

-- the hash of so many iterations
abbrev pub invariant-loop : goal.invariant-loop
invariant-loop l = l.hash ≡ iterated_hash sha1 l.salt l.octets l.counter
