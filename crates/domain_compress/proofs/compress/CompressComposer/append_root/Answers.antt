use Rattle.std.proofs.Common.{arith}
use Rattle.domain_compress.specs.Forgetting.{few_remembered}
use Rattle.domain_compress.specs.MayWrite.{adds_appended}
use Rattle.domain_compress.specs.Written.{all_remembered}
use Rattle.domain_compress.proofs.Composing.{adds_root, exceeds_flat, root_flat}
use Rattle.domain_compress.proofs.compress.CompressComposer.append_root.Goals as goal

pub returns-in-Ok-clause-appends : goal.returns-in-Ok-clause-appends
returns-in-Ok-clause-appends g c =
    let s = c.args.self.now in
    adds_root _ (all_remembered s.written.items) c.args.root.now _ c.requires.wire c.requires.root (few_remembered s.written.items s.few) c.in-Ok.ensures.ok

pub returns-in-Ok-clause-ok : goal.returns-in-Ok-clause-ok
returns-in-Ok-clause-ok g c =
    let s = c.args.self.now in
    let ws = all_remembered s.written.items in
    adds_appended _ ws ws _ _ (adds_root _ ws c.args.root.now _ c.requires.wire c.requires.root (few_remembered s.written.items s.few) c.in-Ok.ensures.ok)

pub returns-in-Err-clause-full : goal.returns-in-Err-clause-full
returns-in-Err-clause-full g c =
    let ws = all_remembered c.args.self.now.written.items in
    exceeds_flat _ ws c.args.root.now _ c.requires.wire (root_flat _ ws c.args.root.now c.requires.wire c.requires.root) (omega (arith, c.in-Err.ensures.full, c.append_slice.ensures.capacity))
