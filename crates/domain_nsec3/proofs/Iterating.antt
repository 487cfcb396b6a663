-- One iteration more of a hash.
use Rattle.std.proofs.Common.{◌≡◌, ℕ, ◌+◌, List, ◌++◌, ap, add-one}
use Rattle.sha1.specs.Sha1.{sha1}
use Rattle.domain_nsec3.specs.Hashing.{iterated_hash}

pub one_more : (salt x : List ℕ) (k : ℕ) → iterated_hash sha1 salt x (k + 1) ≡ sha1 (iterated_hash sha1 salt x k ++ salt)
one_more salt x k = ap (λ (n : ℕ). iterated_hash sha1 salt x n) (add-one k)
