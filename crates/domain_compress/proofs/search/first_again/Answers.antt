use Rattle.std.proofs.Common.{refl}
use Rattle.domain_compress.proofs.FirstFinds.{nowhere_start, stands_first, whole_first}
use Rattle.domain_compress.proofs.search.first_again.Goals as goal

pub returns-then-is_spelled_out : goal.returns-then-is_spelled_out
returns-then-is_spelled_out c =
    let all = c.args.written.now in
    let first = stands_first _ _ all all _ c.in-Some.first.now 0 c.requires.wire (nowhere_start _ _ all) c.in-Some.ensures.cases.0 (c.if-is_spelled_out.ensures refl) in
    (whole_first _ _ all _ c.requires.wire c.if-name-ne0.true refl first, (refl, refl))
