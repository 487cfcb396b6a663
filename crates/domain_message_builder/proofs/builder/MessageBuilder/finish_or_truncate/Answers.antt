use Rattle.std.proofs.Common.{ap, subst, option_copied}
use Rattle.domain_message_builder.specs.Cuts.{is_cut}
use Rattle.domain_message_builder.specs.Ends.{KeepsOpts}
use Rattle.domain_message_builder.specs.OptViews.{opt_given}
use Rattle.domain_message_builder.specs.Views.{state_of, target_of}
use Rattle.domain_message_builder.proofs.Ending.{ended, not_ended}
use Rattle.domain_message_builder.proofs.builder.MessageBuilder.finish_or_truncate.Goals as goal

pub returns-in-Err-keep_opts-clause-why : goal.returns-in-Err-keep_opts-clause-why
returns-in-Err-keep_opts-clause-why g c =
    let octets = g.Target.Octets.octets in
    let capacity = g.Target.Octets.capacity in
    not_ended c.args.pushed (is_cut c.args.pushed) (opt_given (option_copied c.args.opt)) (capacity (target_of c.args.self)) (capacity (target_of c.mark_cut.new.self)) (state_of octets c.args.self) (state_of octets c.mark_cut.new.self) c.in-Err-keep_opts.e
    c.in_default.ensures.ok (ap capacity c.in_default.ensures.target) c.in-Err-keep_opts.ensures.why

pub returns-clause-ok : goal.returns-clause-ok
returns-clause-ok g c =
    let octets = g.Target.Octets.octets in
    let capacity = g.Target.Octets.capacity in
    ended g.Target.Composer.compresses (is_cut c.args.pushed) (opt_given (option_copied c.args.opt)) (capacity (target_of c.args.self)) (capacity (target_of c.mark_cut.new.self)) (state_of octets c.args.self) (state_of octets c.mark_cut.new.self) (state_of octets c.keep_opts.new.self) (octets c.finish.result)
    c.in_default.ensures.ok (ap capacity c.in_default.ensures.target) c.in_default-keep_opts.ensures.ok c.finish.ensures.message

pub returns-clause-octets : goal.returns-clause-octets
returns-clause-octets g c =
    let octets = g.Target.Octets.octets in
    let capacity = g.Target.Octets.capacity in
    let marked = state_of octets c.mark_cut.new.self in
    let end = state_of octets c.keep_opts.new.self in
    record {
      marked = marked;
      end = end;
      marks = c.in_default.ensures.ok;
      keeps = subst (λ n. KeepsOpts g.Target.Composer.compresses (opt_given (option_copied c.args.opt)) n marked end) (ap capacity c.in_default.ensures.target) c.in_default-keep_opts.ensures.ok;
      octets = c.finish.ensures.octets;
    }
