use Rattle.domain_message_builder.proofs.Blocks.{zeros_cut}
use Rattle.domain_message_builder.proofs.padded_options.append_zeros.Goals as goal

pub returns-in-Err-clause-some : goal.returns-in-Err-clause-some
returns-in-Err-clause-some g c =
    zeros_cut g.Target.OctetsBuilder.extends g.met.Target.OctetsBuilder.joined c.args.target.now c.loop-octet.target c.append_slice.new.self c.loop-octet._octet c.loop-octet.invariant.zeros c.in-Err.ensures.nothing
