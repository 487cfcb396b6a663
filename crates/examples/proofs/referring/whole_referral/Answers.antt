use Rattle.domain_message.specs.Messages.{message_octets}
use Rattle.domain_message.specs.declared.section.Section.TheVariants.{Authority, Additional}
use Rattle.domain_message_builder.specs.OptViews.{opt_of}
use Rattle.domain_message_builder.proofs.Sets.{members_of}
use Rattle.examples.proofs.Wholeness.{Asks, asked, reserved, required, extra, refers_wholly}
use Rattle.examples.proofs.referring.whole_referral.Goals as goal

pub returns-in-Ok-finish_or_truncate-clause-whole : goal.returns-in-Ok-finish_or_truncate-clause-whole
returns-in-Ok-finish_or_truncate-clause-whole g c =
    let d = members_of g.S.RecordData.type_number g.S.ComposeRecordData.composed g.S.ComposeRecordData.written g.S.ComposeRecordData.uncompressed g.S.ComposeRecordData.lowercase g.S.ComposeRecordData.knows_len in
    let e = members_of g.G.RecordData.type_number g.G.ComposeRecordData.composed g.G.ComposeRecordData.written g.G.ComposeRecordData.uncompressed g.G.ComposeRecordData.lowercase g.G.ComposeRecordData.knows_len in
    let r = c.args.referral.now in
    let query = message_octets c.args.query.now in
    let begun = asked g.Target.Composer.compresses query _ _ _ _ c.in-Ok.ensures.ok c.in_default.ensures.ok in
    let room = reserved g.Target.Composer.compresses _ _ _ (Asks query) c.in_default-reserve.ensures.ok begun in
    let served = required d Authority _ r.class r.ttl r.servers.now c.reserve.new.self c.push_required.new.self c.in_default-push_required.field-0 (Asks query) c.in_default-push_required.ensures.ok room in
    let glued = required e Additional _ r.class r.ttl r.glue.now c.push_required.new.self c.push_required-2.new.self c.in_default-push_required-2.field-0 _ c.in_default-push_required-2.ensures.ok served in
    let last = extra e _ r.class r.ttl r.addresses.now c.push_required-2.new.self c.push_extra.new.self c.in_default-push_extra.field-0 _ c.in_default-push_extra.ensures.ok glued in
    refers_wholly g.Target.Composer.compresses query _ _ (opt_of c.args.opt.now) _ _ _ c.in-Ok-finish_or_truncate.ensures.ok last
