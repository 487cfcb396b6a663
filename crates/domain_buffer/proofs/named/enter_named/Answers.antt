use Rattle.std.proofs.Common.{◌≡◌, ◌∙◌, length, take, refl, ap, arith, rules}
use Rattle.std.proofs.lemmas.List.{length-take-le}
use Rattle.domain_label.specs.Wire.{labels_in}
use Rattle.domain_buffer.specs.Plans.{more_of_table}
use Rattle.domain_buffer.specs.Builders.{headed_by_wire, table_of}
use Rattle.domain_buffer.specs.Data.{found_fields}
use Rattle.domain_buffer.proofs.Puts.{puts_back, kept_there}
use Rattle.domain_buffer.proofs.Naming.{more_table, named_entered, named_too_big}
use Rattle.domain_buffer.proofs.named.enter_named.Goals as goal

pub write_after_owner-requires-clause-table : goal.write_after_owner-requires-clause-table
write_after_owner-requires-clause-table c =
    let size : length c.args.builder.now.table ≡ 128 = search rules in
    more_table _ _ _ c.args.builder.now.len (labels_in (take c.spell-named.result.begin c.args.owner.now)) size c.requires.usable.table c.add_offsets-count.ensures.table

pub returns-in-Some-clause-done : goal.returns-in-Some-clause-done
returns-in-Some-clause-done c =
    let o = c.args.octets.now in
    let b = c.args.builder.now in
    let owner = c.args.owner.now in
    let head = headed_by_wire owner c.args.head.rtype c.args.head.class c.args.head.ttl in
    let named = take c.spell-named.result.len c.spell-named.new.text in
    let named_size : length named ≡ c.spell-named.result.len = length-take-le c.spell-named.result.len c.spell-named.new.text (omega (arith, c.spell-named.ensures.fits)) in
    let size : length b.table ≡ 128 = search rules in
    let labels = labels_in (take c.spell-named.result.begin owner) in
    let is = c.add_offsets-count.ensures.table ∙ ap (λ n. more_of_table n (table_of b) b.len labels) size in (
      named_entered o b owner head (found_fields c.args.fields) c.spell-named.result.begin named c.put_at.new.buffer c.write_after_owner.new.octets _ c.write_after_owner.new.table _ c.in-Some.written.end c.in-Some.written.count _ c.requires.usable c.spell-named.ensures.spells (omega (arith, named_size)) c.if-limit-after_owner.false c.put_at.ensures is c.in-Some.ensures.some refl refl refl,
      refl,
    )

pub returns-in-None-clause-done : goal.returns-in-None-clause-done
returns-in-None-clause-done c =
    let o = c.args.octets.now in
    let b = c.args.builder.now in
    let owner = c.args.owner.now in
    let named = take c.spell-named.result.len c.spell-named.new.text in
    let named_size : length named ≡ c.spell-named.result.len = length-take-le c.spell-named.result.len c.spell-named.new.text (omega (arith, c.spell-named.ensures.fits)) in
    let size : length b.table ≡ 128 = search rules in
    let labels = labels_in (take c.spell-named.result.begin owner) in
    let is = c.add_offsets-count.ensures.table ∙ ap (λ n. more_of_table n (table_of b) b.len labels) size in
    let none = c.in-None.ensures.none refl in (
      named_too_big o b owner (found_fields c.args.fields) c.spell-named.result.begin named c.put_at.new.buffer _ _ c.requires.usable c.spell-named.ensures.spells (omega (arith, named_size)) c.if-limit-after_owner.false c.put_at.ensures is none.0,
      puts_back b.len named _ o c.put_at.new.buffer c.write_after_owner.new.octets c.put_at-in-None.new.buffer (omega (arith, named_size, c.if-limit-after_owner.false, c.requires.usable.room)) c.put_at.ensures none.1 c.put_at-in-None.ensures (kept_there b.len c.spell-named.result.len (length named) _ _ o (omega (arith, c.if-limit-after_owner.false, c.requires.usable.room)) named_size c.copy_from_slice.ensures.after),
      refl,
    )
