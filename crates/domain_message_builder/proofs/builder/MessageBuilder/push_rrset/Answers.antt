use Rattle.std.proofs.Common.{◌≡◌, ◌∙◌, length, ap, subst, sym, arith}
use Rattle.domain_label.specs.Wire.{labels_in}
use Rattle.domain_rdata.proofs.WireForms.{is_wire, spelled}
use Rattle.domain_message_builder.specs.Marks.{Grows}
use Rattle.domain_message_builder.specs.Rrsets.{AddsInTurn, RrsetNotAdded}
use Rattle.domain_message_builder.specs.Views.{state_of, target_of}
use Rattle.domain_message_builder.proofs.Marking.{back_at_place, longer, grows_none}
use Rattle.domain_message_builder.proofs.Sets.{members_of, added}
use Rattle.domain_message_builder.proofs.builder.MessageBuilder.push_rrset.Goals as goal

pub from_wire-name-requires : goal.from_wire-name-requires
from_wire-name-requires g c = is_wire _ _ c.put_name-len.ensures.wire (g.met.N.Absolute.absolute c.args.owner.now)

pub cut_back-requires-clause-inside : goal.cut_back-requires-clause-inside
cut_back-requires-clause-inside g c =
    let octets = g.Target.Octets.octets in
    let at : c.place-before.result.len ≡ length (octets (target_of c.args.self.now)) = ap (λ p. p.len) c.place-before.ensures in
    omega (arith, at, longer (state_of octets c.args.self.now) (state_of octets c.push_each.new.self) c.in-Err.ensures.grows)

pub returns-in-Err-clause-unchanged : goal.returns-in-Err-clause-unchanged
returns-in-Err-clause-unchanged g c = c.cut_back.ensures.state ∙ back_at_place _ _ _ c.place-before.ensures c.in-Err.ensures.grows

pub returns-in-Err-clause-grows : goal.returns-in-Err-clause-grows
returns-in-Err-clause-grows g c =
    let old = state_of g.Target.Octets.octets c.args.self.now in
    subst (λ s. Grows old s) (sym (c.cut_back.ensures.state ∙ back_at_place _ _ _ c.place-before.ensures c.in-Err.ensures.grows)) (grows_none old)

pub returns-in-Err-clause-memory_unchanged : goal.returns-in-Err-clause-memory_unchanged
returns-in-Err-clause-memory_unchanged g c =
    let kept = g.Target.Composer.kept_within in
    let mid = g.Target.Composer.memory (target_of c.push_each.new.self) in
    g.met.Target.Composer.cut_keeps _ _ c.place-before.result.len c.cut_back.ensures.cut ∙ (ap (λ p. kept p.len mid) c.place-before.ensures ∙ c.in-Err.ensures.memory)

pub returns-in-Err-clause-memory : goal.returns-in-Err-clause-memory
returns-in-Err-clause-memory g c =
    let kept = g.Target.Composer.kept_within in
    let target = target_of c.args.self.now in
    let mid = g.Target.Composer.memory (target_of c.push_each.new.self) in
    ap (kept (length (g.Target.Octets.octets target))) (g.met.Target.Composer.cut_keeps _ _ c.place-before.result.len c.cut_back.ensures.cut ∙ (ap (λ p. kept p.len mid) c.place-before.ensures ∙ c.in-Err.ensures.memory)) ∙ g.met.Target.Composer.all_kept target

pub returns-in-Err-clause-why : goal.returns-in-Err-clause-why
returns-in-Err-clause-why g c =
    let d = members_of g.D.RecordData.type_number g.D.ComposeRecordData.composed g.D.ComposeRecordData.written g.D.ComposeRecordData.uncompressed g.D.ComposeRecordData.lowercase g.D.ComposeRecordData.knows_len in
    subst (λ ls. RrsetNotAdded d c.args.section ls c.args.class c.args.ttl c.args.rdata.now c.args.self.now c.in-Err.e)
    (ap (λ h. labels_in h.now) c.from_wire-name.ensures ∙ spelled _ _ c.put_name-len.ensures.wire) c.in-Err.ensures.why

pub returns-clause-ok : goal.returns-clause-ok
returns-clause-ok g c =
    let d = members_of g.D.RecordData.type_number g.D.ComposeRecordData.composed g.D.ComposeRecordData.written g.D.ComposeRecordData.uncompressed g.D.ComposeRecordData.lowercase g.D.ComposeRecordData.knows_len in
    let in_turn = subst (λ ls. AddsInTurn d c.args.section ls c.args.class c.args.ttl c.args.rdata.now c.args.self.now c.push_each.new.self)
    (ap (λ h. labels_in h.now) c.from_wire-name.ensures ∙ spelled _ _ c.put_name-len.ensures.wire) c.in_default.ensures.ok in
    added d c.args.section _ c.args.class c.args.ttl c.args.rdata.now c.args.self.now c.push_each.new.self in_turn
