use Rattle.std.proofs.Common.{◌≡◌, ◌+◌, length, take, refl, subst, arith, rules}
use Rattle.std.proofs.lemmas.List.{length-take-le}
use Rattle.domain_label.specs.Wire.{labels_in}
use Rattle.domain_message.specs.Composing.{before_length}
use Rattle.domain_buffer.specs.Puts.{PutsAt}
use Rattle.domain_buffer.specs.Data.{found_fields}
use Rattle.domain_buffer.specs.Named.{SpelledNames, written_data}
use Rattle.domain_buffer.proofs.Naming.{data_size, head_and_data, more_table, names_added}
use Rattle.domain_buffer.proofs.named.write_after_owner.Goals as goal

pub returns-then-limit-start-clause-none : goal.returns-then-limit-start-clause-none
returns-then-limit-start-clause-none c none =
    let first = take c.spell-first.result.len c.spell-first.new.text in
    let second = take c.spell_any-second.result.len c.spell_any-second.new.text in
    let f = found_fields c.args.fields in
    let first_size : length first ≡ c.spell-first.result.len = length-take-le c.spell-first.result.len c.spell-first.new.text (omega (arith, c.spell-first.ensures.fits)) in
    let second_size : length second ≡ c.spell_any-second.result.len = length-take-le c.spell_any-second.result.len c.spell_any-second.new.text (omega (arith, c.spell_any-second.ensures.fits)) in (
      record {
        names = record { first_begin = c.spell-first.result.begin; first = first; second_begin = c.spell_any-second.result.begin; second = second };
        spells = record { first = c.spell-first.ensures.spells; second = c.spell_any-second.ensures.spells };
        long = omega (arith, c.if-limit-start.true, first_size, second_size, data_size f.before first second f.after, c.requires.start);
      },
      refl,
    )

pub add_offsets-count-requires-clause-few : goal.add_offsets-count-requires-clause-few
add_offsets-count-requires-clause-few c =
    let size : length c.args.table.now ≡ 128 = search rules in
    more_table _ _ _ (c.args.start + 10 + length c.args.fields.before.now) (labels_in (take c.spell-first.result.begin c.args.fields.first.now)) size c.requires.table c.add_offsets-more.ensures.table

pub returns-clause-some : goal.returns-clause-some
returns-clause-some c =
    let first = take c.spell-first.result.len c.spell-first.new.text in
    let second = take c.spell_any-second.result.len c.spell_any-second.new.text in
    let f = found_fields c.args.fields in
    let first_size : length first ≡ c.spell-first.result.len = length-take-le c.spell-first.result.len c.spell-first.new.text (omega (arith, c.spell-first.ensures.fits)) in
    let second_size : length second ≡ c.spell_any-second.result.len = length-take-le c.spell_any-second.result.len c.spell_any-second.new.text (omega (arith, c.spell_any-second.ensures.fits)) in
    let names : SpelledNames = record { first_begin = c.spell-first.result.begin; first = first; second_begin = c.spell_any-second.result.begin; second = second } in
    let octets = written_data f names in
    let size = data_size f.before first second f.after in
    let front = before_length c.args.head.rtype c.args.head.class c.args.head.ttl in
    let all = head_and_data front octets _ c.head_octets-before_data.result c.head_octets-before_data.ensures.octets (omega (arith, size, first_size, second_size)) in
    let table_size : length c.args.table.now ≡ 128 = search rules in
    let more_size : length c.add_offsets-more.new.table ≡ 128 = omega (arith, c.add_offsets-more.auto.table, table_size) in
    record {
      names = names;
      spells = record { first = c.spell-first.ensures.spells; second = c.spell_any-second.ensures.spells };
      puts = subst (λ x. PutsAt c.args.start x c.args.octets.now c.put_data.new.buffer) all c.put_data.ensures;
      ends = omega (arith, size, first_size, second_size);
      within = omega (arith, c.if-limit-start.false, c.requires.start);
      few = omega (arith, c.add_offsets-count.ensures.fits, c.add_offsets-count.auto.table, more_size);
      remembers = names_added _ f names (c.args.start + 10) _ _ _ _ _ table_size more_size c.add_offsets-more.ensures.table c.add_offsets-count.ensures.table (omega (arith, first_size));
    }
