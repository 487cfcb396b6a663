use Rattle.std.proofs.Common.{◌≡◌, ◌+◌, ◌∙◌, length, take, ap, refl, arith}
use Rattle.domain_buffer.proofs.Writing.{spells_flat}
use Rattle.domain_buffer.proofs.plan.spell.Goals as goal

pub returns-in-None-clause-spells : goal.returns-in-None-clause-spells
returns-in-None-clause-spells c =
    let name = c.args.name.now in
    let text = c.put_octets.new.octets in
    let zero : length name ≡ 0 + length name = omega arith in
    spells_flat c.args.octets.now c.args.table.now name (take (length name) text) c.requires.wire (c.in-None.ensures.none refl) (ap (λ n. take n text) zero ∙ c.put_octets.ensures)
