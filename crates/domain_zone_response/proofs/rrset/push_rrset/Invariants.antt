use Rattle.std.proofs.Common.{take, map, ◌≤◌}
use Rattle.domain_header.specs.Values.{class_number}
use Rattle.domain_message_builder.specs.Builders.{state, target_room}
use Rattle.domain_zone_answer.specs.Views.{section_view}
use Rattle.domain_zone_response.specs.Pushing.{Gains, record_of}
use Rattle.domain_zone_response.proofs.rrset.push_rrset.Given as goal

abbrev pub invariant-loop-item : goal.invariant-loop-item
invariant-loop-item g l = record {
  gains : Gains g.Target.Composer.compresses l.section (map (λ d. record_of (class_number l.class) (section_view l.set) d.items) (take l.item-index l.rdata)) (state l.initial.message) (state l.message);
  room : target_room l.initial.message ≤ target_room l.message;
}
