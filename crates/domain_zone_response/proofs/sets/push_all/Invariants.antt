use Rattle.std.proofs.Common.{◌≤◌, take}
use Rattle.domain_header.specs.Values.{class_number}
use Rattle.domain_message_builder.specs.Builders.{target_room}
use Rattle.domain_zone_response.specs.Pushing.{all_records}
use Rattle.domain_zone_response.specs.Views.{GainsRecords}
use Rattle.domain_zone_response.proofs.sets.push_all.Given as goal
use Rattle.domain_zone_signed.specs.SignedViews.{response_views}

abbrev pub invariant-loop-index : goal.invariant-loop-index
invariant-loop-index g l = record {
  gains : GainsRecords l.section (all_records (class_number l.class) (response_views (take l.index l.sets))) l.initial.message l.message;
  room : target_room l.initial.message ≤ target_room l.message;
}
