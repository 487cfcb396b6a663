use Rattle.std.proofs.Common.{◌≤◌, ◌<◌, length, []}
use Rattle.domain_header.specs.Values.{class_number}
use Rattle.domain_message_builder.specs.Builders.{target_room}
use Rattle.domain_zone_response.specs.Views.{FillsRecords, StopsAfter}
use Rattle.domain_zone_response.proofs.sets.push_most.Given as goal
use Rattle.domain_zone_signed.specs.SignedViews.{response_views}

abbrev pub invariant-fewer : goal.invariant-fewer
invariant-fewer g l = record {
  few : l.count ≤ length l.sets;
  none : FillsRecords l.section [] l.initial.message l.message;
  stops : l.count < length l.sets → StopsAfter l.section (class_number l.class) (response_views l.sets) l.count l.initial.message;
  room : target_room l.initial.message ≤ target_room l.message;
}

abbrev pub decreases-fewer : goal.decreases-fewer
decreases-fewer g l = l.count
