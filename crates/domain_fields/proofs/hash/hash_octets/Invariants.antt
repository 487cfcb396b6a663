use Rattle.std.proofs.Common.{◌≡◌, take}
use Rattle.std.specs.List.{fold}
use Rattle.domain_label.specs.Lowercase.{as_writes}
use Rattle.domain_fields.proofs.hash.hash_octets.Given as goal

abbrev pub invariant-loop-octet : goal.invariant-loop-octet
invariant-loop-octet g l = l.state ≡ fold g.H.Hasher.write l.initial.state (as_writes (take l.octet-index l.octets))
