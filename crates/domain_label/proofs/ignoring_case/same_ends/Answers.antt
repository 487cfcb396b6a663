use Rattle.std.proofs.Common.{◌-◌, length, arith}
use Rattle.domain_label.proofs.ComparedOctets.{same_both}
use Rattle.domain_label.proofs.ignoring_case.same_ends.Goals as goal

pub returns : goal.returns
returns c =
    same_both c.same_each-same.result c.same_each-same-2.result c.args.a.now c.args.b.now c.args.size (length c.args.a.now - c.args.size) c.requires.sized (omega arith) (omega (arith, c.requires.short)) c.same_each-same.ensures c.same_each-same-2.ensures
