use Rattle.std.proofs.Common.{arith}
use Rattle.domain_compress.specs.Written.{all_remembered}
use Rattle.domain_compress.proofs.Remembering.{remember_start, remember_full, remember_all, remembered_size}
use Rattle.domain_compress.proofs.remember.remember.Goals as goal

pub returns-then-remaining_capacity-eq0-clause-offsets : goal.returns-then-remaining_capacity-eq0-clause-offsets
returns-then-remaining_capacity-eq0-clause-offsets c =
    remember_full _ _ c.args.labels.now _ _ 0 (remember_start (all_remembered c.args.written.now.items) c.args.labels.now c.args.start c.args.end c.requires.labels) (omega (arith, remembered_size c.args.written.now.items, c.remaining_capacity.ensures))

pub returns-then-labels-eq0-clause-offsets : goal.returns-then-labels-eq0-clause-offsets
returns-then-labels-eq0-clause-offsets c =
    remember_all _ _ c.args.labels.now _ _ 0 (remember_start (all_remembered c.args.written.now.items) c.args.labels.now c.args.start c.args.end c.requires.labels) (omega (arith, remembered_size c.args.written.now.items, c.remaining_capacity.ensures)) (omega (arith, c.if-labels-eq0.true))
