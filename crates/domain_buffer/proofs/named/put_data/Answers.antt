use Rattle.std.proofs.Common.{refl, arith}
use Rattle.domain_buffer.proofs.Naming.{puts_five}
use Rattle.domain_buffer.proofs.named.put_data.Goals as goal

pub returns : goal.returns
returns c =
    puts_five c.args.offset _ c.args.head.now c.args.fields.before.now c.args.first.now c.args.second.now c.args.fields.after.now c.args.buffer.now c.put_entry.new.buffer c.put_at.new.buffer c.put_at-2.new.buffer refl (omega (arith, c.requires)) c.put_entry.ensures c.put_at.ensures c.put_at-2.ensures
