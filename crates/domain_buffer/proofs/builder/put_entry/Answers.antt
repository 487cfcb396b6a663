use Rattle.std.proofs.Common.{◌≡◌, ◌+◌, ◌++◌, length, refl, arith, length-append}
use Rattle.domain_buffer.proofs.Puts.{puts_both, puts_size}
use Rattle.domain_buffer.proofs.builder.put_entry.Goals as goal

pub returns : goal.returns
returns c =
    let offset = c.args.offset in
    let name = c.args.name.now in
    let head = c.args.head.now in
    let rest = c.args.data.now in
    let old = c.args.buffer.now in
    let first = c.put_at.new.buffer in
    let size : length first ≡ length old = puts_size offset name old first (omega (arith, c.requires)) c.put_at.ensures in
    puts_both offset (offset + length name) name (head ++ rest) old first c.put_at-3.new.buffer refl (omega (arith, c.requires, length-append head rest)) c.put_at.ensures
    (puts_both (offset + length name) (offset + length name + length head) head rest first c.put_at-2.new.buffer c.put_at-3.new.buffer refl (omega (arith, c.requires, size)) c.put_at-2.ensures c.put_at-3.ensures)
