use Rattle.std.proofs.Common.{take, subst, List, ◌≡◌}
use Rattle.domain_compress.specs.Compressing.{remembered_within}
use Rattle.domain_compress.specs.declared.written.Written.{Written}
use Rattle.domain_compress.specs.Written.{all_remembered}
use Rattle.domain_compress.proofs.LabelHashes.{first_known}
use Rattle.domain_compress.proofs.remember.forget.Goals as goal

pub returns-in-Some-clause-known : goal.returns-in-Some-clause-known
returns-in-Some-clause-known c = λ old counts.
    let P : List Written → Type 0 = λ ws. remembered_within c.args.len (all_remembered ws) ≡ all_remembered (take c.in-Some.left ws) in
    first_known _ _ _ _ _ (old c.if-hashed.true) (subst P c.as_slice.ensures.value c.in-Some.ensures.some.1) c.truncate.ensures.items
