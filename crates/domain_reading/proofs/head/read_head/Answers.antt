-- The octets of a whole label are a label.
use Rattle.std.proofs.Common.{◌≡◌, ◌+◌, ◌≤◌, ◌<◌, length, slice_index, slice_range, arith}
use Rattle.std.proofs.lemmas.Grind.{common_steps}
use Rattle.domain_reading.proofs.NameOrFault.{label_from_slice, slice_length}
use Rattle.domain_reading.proofs.head.read_head.Goals as goal

pub returns-else-message-at-clause-found : goal.returns-else-message-at-clause-found
returns-else-message-at-clause-found g c =
    let m = c.args.message.now in
    let r = c.args.at in
    let n = c.in-Some.field-0.now in
    let head : slice_index m r ≡ n = grind (arith, common_steps, c.get.ensures.lookup) in
    let below : r < length m = grind (arith, common_steps, c.in-Some.ensures.lookup) in
    let inside : r + 1 + n ≤ length m = omega arith in
    (slice_range m (r + 1) (r + 1 + n), slice_length m r n inside, label_from_slice m r n (omega arith) (omega arith) head inside)
