use Rattle.std.proofs.Common.{◌≡◌, ◌∙◌, List, ℕ, take, refl, subst, arith}
use Rattle.std.specs.Fmt.{HasWritten}
use Rattle.domain_field_text.specs.Base32.{base32hex_group, base32hex_end}
use Rattle.domain_field_text.proofs.Digits.{group_moved, groups_end}
use Rattle.domain_field_text.proofs.base32.Base32Display.fmt.Goals as goal

pub group-preserved : goal.group-preserved
group-preserved g c plain =
    let m = c.group.invariant plain in
    group_moved g.W.Write.write_str_gives _ _ _ _ c.group.rest.now _ _ m (omega (arith, c.in-len5-up.len_at_least)) (c.ascii_text.ensures ∙ c.group_of-group.ensures.digits) (c.in_ok-write_str.ensures.writes m.wrote.plain refl) (omega arith)

pub returns-clause-writes : goal.returns-clause-writes
returns-clause-writes g c plain ok =
    let m = c.group.invariant plain in
    let few = c.in_default.len_below in
    groups_end g.W.Write.write_str_gives _ _ _ _ c.group.rest.now _ m (omega (arith, few)) (c.ascii_text-2.ensures ∙ c.last_group-n.ensures.digits) (c.write_str-2.ensures.writes m.wrote.plain ok)
