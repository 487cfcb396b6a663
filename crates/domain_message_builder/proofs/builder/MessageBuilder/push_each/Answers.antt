use Rattle.std.proofs.Common.{subst, sym, arith}
use Rattle.std.proofs.Math.ListN.{drop_of_length-le}
use Rattle.domain_name.specs.Names.{name_labels}
use Rattle.domain_message_builder.specs.Builders.{state, target_room}
use Rattle.domain_message_builder.specs.Marks.{Grows}
use Rattle.domain_message_builder.specs.Refusals.{RecordRefused}
use Rattle.domain_message_builder.specs.Rrsets.{set_head, PushesOfSet, RefusesOfSet, AddsOfSet, LeavesOfSet, OfSetDoesNotFit}
use Rattle.domain_message_builder.specs.Views.{state_of, target_of}
use Rattle.domain_message_builder.specs.declared.error.PushError.TheVariants.{Count, Order}
use Rattle.domain_message_builder.proofs.Marking.{grows_none, grows_more, longer, kept_through}
use Rattle.domain_message_builder.proofs.Sets.{members_of, progress_none, progress_step, progress_all, progress_refused, of_parts, grows_by, same_error}
use Rattle.domain_message_builder.proofs.builder.MessageBuilder.push_each.Goals as goal

pub loop-item-init : goal.loop-item-init
loop-item-init g c = record {
  progress = progress_none _ _ _;
  grows = grows_none _;
  kept = g.met.Target.Composer.all_kept (target_of c.args.self.now);
  room = omega arith;
}

pub loop-item-preserved : goal.loop-item-preserved
loop-item-preserved g c =
    let d = members_of g.D.RecordData.type_number g.D.ComposeRecordData.composed g.D.ComposeRecordData.written g.D.ComposeRecordData.uncompressed g.D.ComposeRecordData.lowercase g.D.ComposeRecordData.knows_len in
    let Does = PushesOfSet d c.args.section (name_labels c.args.owner) c.args.class c.args.ttl in
    let mid = c.loop-item.self in
    let new = c.push.new.self in
    let made = c.new-resource.ensures in
    let adds = of_parts made.owner made.class made.ttl made.rdata (λ o a t x. AddsOfSet d c.args.section (name_labels o) a t x.now mid new) c.in_default.ensures.ok in
    record {
      progress = progress_step Does _ _ _ _ mid new c.loop-item.invariant.progress c.loop-item-test.true (subst (λ x. Does x mid new) c.item-item.is (adds, λ compressing. of_parts made.owner made.class made.ttl made.rdata (λ o a t x. LeavesOfSet d (name_labels o) a t x.now mid new) (c.in_default.ensures.written compressing), c.push.ensures.memory, c.push.ensures.capacity));
      grows = grows_more _ _ _ c.loop-item.invariant.grows (grows_by _ _ _ _ _ _ c.in_default.ensures.ok);
      kept = kept_through g.Target.Composer.kept_within _ _ _ _ _ g.met.Target.Composer.kept_twice (longer _ _ c.loop-item.invariant.grows) c.loop-item.invariant.kept c.push.ensures.memory;
      room = omega (arith, c.loop-item.invariant.room, c.push.ensures.capacity);
    }

pub returns-in-Err-clause-why : goal.returns-in-Err-clause-why
returns-in-Err-clause-why g c =
    let d = members_of g.D.RecordData.type_number g.D.ComposeRecordData.composed g.D.ComposeRecordData.written g.D.ComposeRecordData.uncompressed g.D.ComposeRecordData.lowercase g.D.ComposeRecordData.knows_len in
    let Does = PushesOfSet d c.args.section (name_labels c.args.owner) c.args.class c.args.ttl in
    let e = c.in-Err.e in
    let Refuses = RefusesOfSet d c.args.section (name_labels c.args.owner) c.args.class c.args.ttl e in
    let mid = c.loop-item.self in
    let made = c.new-resource.ensures in
    let comp = g.Target.Composer.compresses in
    let refused = of_parts made.owner made.class made.ttl made.rdata (λ o a t x. RecordRefused comp c.args.section (set_head (name_labels o) (g.D.RecordData.type_number x.now) a t) (g.D.ComposeRecordData.composed x.now comp) (state mid) (target_room mid) e) c.in-Err.ensures.why in
    progress_refused Does Refuses _ _ _ _ mid c.loop-item.invariant.progress c.loop-item-test.true
    (subst (λ x. Refuses x mid) c.item-item.is (refused, λ compressing. of_parts made.owner made.class made.ttl made.rdata (λ o a t x. OfSetDoesNotFit d (name_labels o) a t x.now mid e) (c.in-Err.ensures.tight compressing), λ later. same_error e Order (c.in-Err.ensures.order later), λ none full. same_error e Count (c.in-Err.ensures.count none full)))

pub returns-in-Err-clause-grows : goal.returns-in-Err-clause-grows
returns-in-Err-clause-grows g c = subst (λ s. Grows (state_of g.Target.Octets.octets c.args.self.now) s) (sym c.in-Err.ensures.unchanged) c.loop-item.invariant.grows

pub returns-in-Err-clause-memory : goal.returns-in-Err-clause-memory
returns-in-Err-clause-memory g c = kept_through g.Target.Composer.kept_within _ _ _ _ _ g.met.Target.Composer.kept_twice (longer _ _ c.loop-item.invariant.grows) c.loop-item.invariant.kept c.push.ensures.memory

pub returns-clause-ok : goal.returns-clause-ok
returns-clause-ok g c = progress_all _ _ _ _ _ c.loop-item.invariant.progress (drop_of_length-le _ c.loop-item-test.false)
