-- Facts of the definitions that impls cite.
use Rattle.std.specs.Prelude.{refl}
use Rattle.std.specs.Cmp.{unsigned_Decides}
use Rattle.std.specs.Hash as fed
use Rattle.std.proofs.lemmas.Slice.Eq.{slice_eq-Decides}
use Rattle.domain_label.specs.Lowercase.{lowercase, eq_ignoring_case, as_writes, label_hash_input}
use Rattle.domain_label.specs.Wire.{wire_label}

-- Labels that are equal ignoring case write the same to a hasher, as the law of `Hash` asks.
pub same_label_hash_input : fed.Alike eq_ignoring_case label_hash_input
same_label_hash_input = fed.on_Alike lowercase (fed.same_Alike (λ l. as_writes (wire_label l)) (λ xs ys. slice_eq-Decides unsigned_Decides xs ys _ refl))
