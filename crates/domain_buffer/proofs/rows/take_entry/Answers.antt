use Rattle.std.proofs.Common.{◌≡◌, ◌*◌, length, inl, inr, refl, ap, subst, sym, arith, ◌∙◌}
use Rattle.std.proofs.lemmas.List.{length-take-le}
use Rattle.domain_label.specs.Wire.{wire}
use Rattle.domain_buffer.specs.Puts.{PutsAt}
use Rattle.domain_buffer.specs.Rows.{row}
use Rattle.domain_buffer.specs.Rows.NotTaken.{no_name, no_parts, no_room}
use Rattle.domain_buffer.proofs.Tabling.{read_skips, parts_here, no_parts_here}
use Rattle.domain_buffer.proofs.rows.take_entry.Goals as goal
use Rattle.domain_buffer.proofs.rows.take_entry.Goals.{then-rows-taken-lt8-via-then-rows-taken-lt8, then-rows-taken-lt8-via-else-rows-taken-lt8+then-names-taken}

pub returns-in-Err-clause-err : goal.returns-in-Err-clause-err
returns-in-Err-clause-err c = no_name c.in-Err.ensures.fault refl

pub returns-in_default-clause-err : goal.returns-in_default-clause-err
returns-in_default-clause-err c =
    let name = c.in-Ok.ensures.name in
    let skips = read_skips c.args.limit c.args.message.now c.args.taken.offset c.in-Ok.found.end name.0 name.1 name.2 in
    no_parts name.1 (no_parts_here c.args.message.now c.args.taken.count c.args.taken.offset c.in-Ok.found.end c.args.is_question skips c.requires.question c.in_default.ensures.none) refl

pub returns-then-rows-taken-lt8-clause-err : goal.returns-then-rows-taken-lt8-clause-err
returns-then-rows-taken-lt8-clause-err c =
    let name = c.in-Ok.ensures.name in
    let skips = read_skips c.args.limit c.args.message.now c.args.taken.offset c.in-Ok.found.end name.0 name.1 name.2 in
    let parts = parts_here c.args.message.now c.args.taken.count c.args.taken.offset c.in-Ok.found.end c.args.is_question c.in-Some.parts skips c.requires.question c.in-Some.ensures.some in
    let size : length (wire name.0) ≡ c.in-Ok.found.len = sym (ap length name.3) ∙ length-take-le c.in-Ok.found.len c.read_into.new.octets (omega (arith, c.read_into.array_long, c.in-Ok.ensures.fits)) in
    elim c.then-rows-taken-lt8.branch [
      | then-rows-taken-lt8-via-then-rows-taken-lt8 w ↦ no_room name.1 parts (inl (omega (arith, w.if-rows-taken-lt8.true, c.requires.rows))) refl
      | then-rows-taken-lt8-via-else-rows-taken-lt8+then-names-taken w ↦ no_room name.1 parts (inr (omega (arith, size, w.if-names-taken.true, c.requires.names))) refl
    ]

pub returns-clause-ok : goal.returns-clause-ok
returns-clause-ok c =
    let name = c.in-Ok.ensures.name in
    let skips = read_skips c.args.limit c.args.message.now c.args.taken.offset c.in-Ok.found.end name.0 name.1 name.2 in
    let size : length (wire name.0) ≡ c.in-Ok.found.len = sym (ap length name.3) ∙ length-take-le c.in-Ok.found.len c.read_into.new.octets (omega (arith, c.read_into.array_long, c.in-Ok.ensures.fits)) in
    record {
      labels = name.0;
      parts = c.in-Some.parts;
      name = name.1;
      parts_at = parts_here c.args.message.now c.args.taken.count c.args.taken.offset c.in-Ok.found.end c.args.is_question c.in-Some.parts skips c.requires.question c.in-Some.ensures.some;
      count = refl;
      offset = refl;
      len = omega (arith, size);
      row_fits = omega (arith, c.if-rows-taken-lt8.false, c.requires.rows);
      name_fits = omega (arith, size, c.if-names-taken.false, c.requires.names);
      row_put = subst (λ x. PutsAt (8 * c.args.taken.count) (row c.args.taken.names x c.in-Some.parts) c.args.rows.now c.put_row.new.rows) (sym size) (subst (λ x. PutsAt (8 * c.args.taken.count) x c.args.rows.now c.put_row.new.rows) c.row_of-numbers.ensures c.put_row.ensures);
      name_put = subst (λ x. PutsAt c.args.taken.names x c.args.names.now c.put_at.new.buffer) name.3 c.put_at.ensures;
    }
