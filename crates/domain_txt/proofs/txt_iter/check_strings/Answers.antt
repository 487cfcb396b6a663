use Rattle.std.proofs.Common.{[], refl, arith}
use Rattle.domain_txt.proofs.TxtPassing.{nothing_passed, passed_next, passed_end}
use Rattle.domain_txt.proofs.txt_iter.check_strings.Goals as goal

pub loop-rest-init : goal.loop-rest-init
loop-rest-init c = ([], nothing_passed c.args.octets.now)

pub loop-rest-preserved : goal.loop-rest-preserved
loop-rest-preserved c =
    passed_next _ c.loop-rest.rest.now _ _ c.from-len.result c.loop-rest.invariant c.in-len1-up.len_at_least refl c.from-len.ensures c.if-after-len.false (omega arith) c.split_at.ensures.back

pub returns-clause-ok : goal.returns-clause-ok
returns-clause-ok c = passed_end _ _ c.loop-rest.invariant c.in_default.len_below
