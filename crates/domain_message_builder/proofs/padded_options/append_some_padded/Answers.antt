use Rattle.std.proofs.Common.{[], ◌++◌}
use Rattle.domain_message_builder.proofs.Blocks.{some_after}
use Rattle.domain_message_builder.proofs.padded_options.append_some_padded.Goals as goal

pub returns-in-Err-append_slice-clause-some : goal.returns-in-Err-append_slice-clause-some
returns-in-Err-append_slice-clause-some g c =
    (c.args.options.now ++ [], g.met.Target.OctetsBuilder.joined c.args.target.now c.append_slice.new.self c.append_slice-2.new.self c.args.options.now [] c.in_default.ensures.extends c.in-Err-append_slice.ensures.nothing)

pub returns-clause-some : goal.returns-clause-some
returns-clause-some g c =
    let joined = g.met.Target.OctetsBuilder.joined c.args.target.now c.append_slice.new.self c.append_slice-2.new.self _ _ c.in_default.ensures.extends c.in_default-append_slice.ensures.extends in
    some_after c.append_zeros.result g.Target.OctetsBuilder.extends c.args.target.now c.append_slice-2.new.self c.append_zeros.new.target _ joined c.append_zeros.ensures.some
