use Rattle.std.proofs.Common.{◌≡◌, take}
use Rattle.domain_label.specs.Lowercase.{lowercase}
use Rattle.domain_list.proofs.composing.put_lowercase.Given as goal

abbrev pub invariant-loop-i : goal.invariant-loop-i
invariant-loop-i l = take l.i l.octets ≡ lowercase (take l.i l.flat)
