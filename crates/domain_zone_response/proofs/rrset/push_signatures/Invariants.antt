use Rattle.std.proofs.Common.{take, ◌≤◌}
use Rattle.domain_header.specs.Values.{class_number}
use Rattle.domain_message_builder.specs.Builders.{state, target_room}
use Rattle.domain_zone_response.specs.Pushing.{Gains}
use Rattle.domain_zone_response.proofs.Covering.{passing}
use Rattle.domain_zone_response.proofs.rrset.push_signatures.Given as goal
use Rattle.domain_zone_signed.specs.Signing.{covers}
use Rattle.domain_zone_signed.specs.SignedViews.{signatures_type, signatures_view}

abbrev pub invariant-loop-item : goal.invariant-loop-item
invariant-loop-item g l = record {
  gains : Gains g.Target.Composer.compresses l.section (passing (class_number l.class) (signatures_view l.signatures) (covers (signatures_type l.signatures)) (λ d. d.items) (take l.item-index l.rdata)) (state l.initial.message) (state l.message);
  room : target_room l.initial.message ≤ target_room l.message;
}
