use Rattle.std.proofs.Common.{rules, ◌<◌, length, inr, refl, subst, arith}
use Rattle.domain_buffer.specs.Rows.{entry_count, NotTaken}
use Rattle.domain_buffer.proofs.Tabling.{holds_none, holds_one_more, takes_sizes}
use Rattle.domain_buffer.proofs.rows.fill_rows.Goals as goal

pub entries-init : goal.entries-init
entries-init c = record {
  holds = holds_none c.args.limit c.args.message.now c.args.rows.now c.args.names.now c.requires.header;
  few = omega arith;
  short = omega arith;
  rows_left = omega arith;
  names_left = omega arith;
  rows_kept = refl;
  names_kept = refl;
}

pub entries-preserved : goal.entries-preserved
entries-preserved c =
    let before = c.entries.invariant in
    let taken = c.in-Ok.ensures.ok in
    let sizes = takes_sizes taken in
    let few : c.entries.taken.count < entry_count c.args.message.now = search rules in
    record {
      holds = holds_one_more few before.rows_kept before.names_kept before.holds taken;
      few = omega (arith, c.entries-test.true, taken.count);
      short = omega (arith, c.in-Ok.ensures.short, before.short, taken.count);
      rows_left = omega (arith, taken.row_fits, taken.count, sizes.0);
      names_left = omega (arith, taken.name_fits, taken.len, sizes.1);
      rows_kept = omega (arith, before.rows_kept, sizes.0);
      names_kept = omega (arith, before.names_kept, sizes.1);
    }

pub returns-in-Err-clause-stops : goal.returns-in-Err-clause-stops
returns-in-Err-clause-stops c =
    let before = c.entries.invariant in
    let few : c.entries.taken.count < entry_count c.args.message.now = search rules in
    inr (
      few,
      c.in-Err.fault,
      refl,
      subst (λ s. NotTaken c.args.limit c.args.message.now c.entries.taken.count c.entries.taken.offset s c.entries.taken.names (length c.args.names.now) c.in-Err.fault) before.rows_kept
          (subst (λ s. NotTaken c.args.limit c.args.message.now c.entries.taken.count c.entries.taken.offset (length c.entries.rows) c.entries.taken.names s c.in-Err.fault) before.names_kept c.in-Err.ensures.err),
    )
