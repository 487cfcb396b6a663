use Rattle.std.proofs.Common.{rules}
use Rattle.domain_list.proofs.counting.rrsig_count.Goals as goal

pub loop-label-init : goal.loop-label-init
loop-label-init g c = search rules
