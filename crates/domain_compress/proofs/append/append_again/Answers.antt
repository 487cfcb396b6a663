use Rattle.std.proofs.Common.{ℕ, subst, arith}
use Rattle.domain_compress.specs.Planned.{WritesPointer}
use Rattle.domain_compress.specs.Written.{all_remembered}
use Rattle.domain_compress.proofs.Composing.{planned, pointed_so, exceeds_pointed}
use Rattle.domain_compress.proofs.append.append_again.Goals as goal

pub returns-in-Ok-clause-ok : goal.returns-in-Ok-clause-ok
returns-in-Ok-clause-ok g c =
    let found = c.args.found in
    let t = g.Target.Octets.octets c.args.target.now in
    let Q : ℕ → Type 0 = λ n. WritesPointer t (all_remembered c.args.written.now) c.args.name.now n found.offset in
    let writes = planned _ _ _ found c.requires.wire c.requires.found (omega (arith, c.requires.plain)) in
    pointed_so t _ _ 0 found.offset _ (subst Q c.requires.whole writes) c.in-Ok.ensures.ok

pub returns-in-Err-clause-full : goal.returns-in-Err-clause-full
returns-in-Err-clause-full g c =
    let found = c.args.found in
    let t = g.Target.Octets.octets c.args.target.now in
    let Q : ℕ → Type 0 = λ n. WritesPointer t (all_remembered c.args.written.now) c.args.name.now n found.offset in
    let writes = planned _ _ _ found c.requires.wire c.requires.found (omega (arith, c.requires.plain)) in
    exceeds_pointed t _ _ 0 found.offset _ (subst Q c.requires.whole writes) c.in-Err.ensures.full
