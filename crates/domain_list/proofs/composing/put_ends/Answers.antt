use Rattle.std.proofs.Common.{rules, arith}
use Rattle.domain_list.proofs.BufferContents.{ends_put}
use Rattle.domain_list.proofs.composing.put_ends.Goals as goal

pub returns : goal.returns
returns c =
    ends_put c.args.octets.now c.args.from.now c.copy_from_slice.new.self c.copy_from_slice-2.new.self c.args.offset c.args.size _ _ _ (search rules) c.requires.long c.requires.short c.requires.room (omega arith) (search rules) c.copy_from_slice-2.ensures.after (omega arith)
