use Rattle.std.proofs.Common.{arith, refl, ap, length, ◌+◌, ◌*◌}
use Rattle.std.proofs.Common.{length-take, length-drop, get_or, take, drop, ◌-◌, ℕ}
use Rattle.domain_dnssec.proofs.TypesWalk.{next_octet, no_types, no_octets, next_block, blocks_after}
use Rattle.domain_dnssec.proofs.type_blocks.TypesIter.at_next_octet.Goals as goal

pub returns-in-len1-up-clause-types : goal.returns-in-len1-up-clause-types
returns-in-len1-up-clause-types c = next_octet c.args.self.now (record { first = c.args.self.now.first + 8; octet = get_or c.args.self.now.bitmap.now 0 0; bitmap = record { ref_ptr = (0, 0); now = take (length c.args.self.now.bitmap.now - 1) (drop 1 c.args.self.now.bitmap.now) }; later = c.args.self.now.later; within = c.result-in-len1-up-1.given.0; rest = c.result-in-len1-up-1.given.1.0 }) _ c.in-len1-up.len_at_least refl refl refl refl refl

pub returns-in_default-first_block-clause-types : goal.returns-in_default-first_block-clause-types
returns-in_default-first_block-clause-types c = no_types (c.args.self.now.first + 8) c.args.self.now.bitmap.now c.args.self.now.later.now c.args.self.now.rest _ c.in_default.len_below c.in_default-first_block.ensures.err

pub returns-in_default-first_block-clause-fewer : goal.returns-in_default-first_block-clause-fewer
returns-in_default-first_block-clause-fewer c = no_octets c.args.self.now.bitmap.now c.args.self.now.later.now c.args.self.now.rest _ c.in_default.len_below c.in_default-first_block.ensures.err

pub invariant_of-result-2 : goal.invariant_of-result-2
invariant_of-result-2 c =
    let first = c.in-Ok.ensures.ok in
    record {
      within = omega (arith, c.from.ensures, c.in-Ok.ensures.window, first.block.1.1, c.in-len1-up-bitmap.len_at_least, length-take {A = ℕ}, length-drop {A = ℕ});
      rest = blocks_after c.args.self.now.later.now c.in-Ok.block.bitmap.now c.in-Ok.block.rest.now c.in-Ok.block.window c.args.self.now.rest first;
    }

pub returns-clause-types : goal.returns-clause-types
returns-clause-types c = next_block c.args.self.now (record { first = c.from.result * 256; octet = get_or c.in-Ok.block.bitmap.now 0 0; bitmap = record { ref_ptr = (0, 0); now = take (length c.in-Ok.block.bitmap.now - 1) (drop 1 c.in-Ok.block.bitmap.now) }; later = c.in-Ok.block.rest; within = c.result-3-1.given.0; rest = c.result-3-1.given.1.0 }) c.in-Ok.block.bitmap.now c.in-Ok.block.rest.now c.in-Ok.block.window _ c.in_default.len_below c.in-Ok.ensures.ok refl (ap (λ n. n * 256) c.from.ensures) refl refl refl
