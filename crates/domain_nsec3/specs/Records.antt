-- The data of NSEC3 and NSEC3PARAM records (RFC 5155, 3.2 and 4.2).
use Rattle.std.specs.Prelude.{ℕ, List, ◌∷◌, ◌++◌, length}
use Rattle.std.specs.Int.{w16, to_be_bytes}
use Rattle.domain_nsec3.specs.declared.record.Nsec3.{Nsec3}
use Rattle.domain_nsec3.specs.declared.record.Nsec3Param.{Nsec3Param}

-- The octets of the fields of NSEC3PARAM: the hash algorithm, the flags, the iterations, and the salt behind an octet
-- that counts it.
abbrev pub parameters : ℕ → ℕ → ℕ → List ℕ → List ℕ
parameters algorithm flags iterations salt =
    algorithm ∷ flags ∷ (to_be_bytes w16 iterations ++ length salt ∷ salt)

-- The octets of NSEC3PARAM data.
abbrev pub nsec3param_data : Nsec3Param → List ℕ
nsec3param_data it = parameters it.algorithm it.flags it.iterations it.salt.now

-- The octets of NSEC3 data: the same fields, the next hashed owner name behind an octet that counts it, and the type
-- bitmaps.
abbrev pub nsec3_data : Nsec3 → List ℕ
nsec3_data it =
    parameters it.algorithm it.flags it.iterations it.salt.now
    ++ length it.next.now ∷ (it.next.now ++ it.types.now)
