use Rattle.std.proofs.Common.{◌≤◌, drop}
use Rattle.domain_name.specs.Names.{name_labels}
use Rattle.domain_message_builder.specs.Builders.{state, target_room, KeepsMemory}
use Rattle.domain_message_builder.specs.Marks.{Grows}
use Rattle.domain_message_builder.specs.Rrsets.{PushesOfSet}
use Rattle.domain_message_builder.proofs.Sets.{Progress, members_of}
use Rattle.domain_message_builder.proofs.builder.MessageBuilder.push_each.Given as goal

abbrev pub invariant-loop-item : goal.invariant-loop-item
invariant-loop-item g l = record {
  progress : Progress (PushesOfSet (members_of g.D.RecordData.type_number g.D.ComposeRecordData.composed g.D.ComposeRecordData.written g.D.ComposeRecordData.uncompressed g.D.ComposeRecordData.lowercase g.D.ComposeRecordData.knows_len) l.fn.section (name_labels l.fn.owner) l.fn.class l.fn.ttl) l.rdata (drop l.item-index l.rdata) l.initial.self l.self;
  grows : Grows (state l.initial.self) (state l.self);
  kept : KeepsMemory l.initial.self l.self;
  room : target_room l.initial.self ≤ target_room l.self;
}
