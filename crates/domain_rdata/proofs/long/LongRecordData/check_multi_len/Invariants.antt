use Rattle.std.proofs.Common.{◌≡◌, ◌+◌, sum, take}
use Rattle.domain_rdata.proofs.long.LongRecordData.check_multi_len.Given as goal

abbrev pub invariant-loop-len : goal.invariant-loop-len
invariant-loop-len g l = l.room + sum (take l.len-index l.fn.lens) ≡ 65535
