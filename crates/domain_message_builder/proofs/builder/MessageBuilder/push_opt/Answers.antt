use Rattle.domain_message_builder.specs.OptViews.{opt_of}
use Rattle.domain_message_builder.specs.Views.{state_of, target_of}
use Rattle.domain_message_builder.proofs.Cutting.{opt_pushed, opt_not_pushed, opt_lacks_room, opt_appended, opt_written}
use Rattle.domain_message_builder.proofs.builder.MessageBuilder.push_opt.Goals as goal

pub returns-clause-ok : goal.returns-clause-ok
returns-clause-ok g c = opt_pushed c.push_keeping.result _ (opt_of c.args.opt.now) (state_of g.Target.Octets.octets c.args.self.now) (state_of g.Target.Octets.octets c.push_keeping.new.self) _ _ c.record-record.ensures.head c.record-record.ensures.options c.push_keeping.ensures.ok

pub returns-clause-why : goal.returns-clause-why
returns-clause-why g c = opt_not_pushed c.push_keeping.result _ (opt_of c.args.opt.now) (state_of g.Target.Octets.octets c.args.self.now) (g.Target.Octets.capacity (target_of c.args.self.now)) _ _ c.record-record.ensures.head c.record-record.ensures.options c.push_keeping.ensures.why

pub returns-clause-octets : goal.returns-clause-octets
returns-clause-octets g c =
    let old = state_of g.Target.Octets.octets c.args.self.now in
    let new = state_of g.Target.Octets.octets c.push_keeping.new.self in
    opt_appended c.push_keeping.result g.Target.Composer.compresses (opt_of c.args.opt.now) old new (opt_pushed c.push_keeping.result _ (opt_of c.args.opt.now) old new _ _ c.record-record.ensures.head c.record-record.ensures.options c.push_keeping.ensures.ok)

pub returns-clause-written : goal.returns-clause-written
returns-clause-written g c compressing =
    opt_written c.push_keeping.result g.Target.Octets.octets g.Target.OctetsBuilder.extends g.Target.Truncate.cuts g.Target.Composer.appends (opt_of c.args.opt.now) (target_of c.args.self.now) (target_of c.push_keeping.new.self) _ _
    c.record-record.ensures.head c.record-record.ensures.options (c.push_keeping.ensures.written compressing)

pub returns-clause-no_room : goal.returns-clause-no_room
returns-clause-no_room g c =
    let o = opt_of c.args.opt.now in
    let s = state_of g.Target.Octets.octets c.args.self.now in
    let room = g.Target.Octets.capacity (target_of c.args.self.now) in
    opt_lacks_room c.push_keeping.result _ o s room c.args.opt.now.few (opt_not_pushed c.push_keeping.result _ o s room _ _ c.record-record.ensures.head c.record-record.ensures.options c.push_keeping.ensures.why)
