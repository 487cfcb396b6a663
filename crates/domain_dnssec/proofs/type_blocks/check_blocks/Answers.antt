use Rattle.std.proofs.Common.{rules, subst, sym, ap, ◌+◌}
use Rattle.domain_dnssec.proofs.BlockWalk.{Walked, at_start, walked_one, walked_all}
use Rattle.domain_dnssec.proofs.type_blocks.check_blocks.Goals as goal

pub loop-block-init : goal.loop-block-init
loop-block-init c = at_start c.args.octets.now

pub loop-block-preserved : goal.loop-block-preserved
loop-block-preserved c =
    let rest = c.in_ok-block.block.rest.now in
    subst (λ n. Walked c.args.octets.now n rest) (ap (λ n. n + 1) (sym c.from-least.ensures)) (walked_one c.args.octets.now c.loop-block.rest.now rest c.in_ok-block.block.bitmap.now c.loop-block.least c.in_ok-block.block.window c.loop-block.invariant c.in_ok-block.ensures.ok (search rules))

pub returns-then-is_empty-clause-ok : goal.returns-then-is_empty-clause-ok
returns-then-is_empty-clause-ok c = walked_all _ _ _ _ _ _ c.loop-block.invariant c.in_ok-block.ensures.ok (search rules)
