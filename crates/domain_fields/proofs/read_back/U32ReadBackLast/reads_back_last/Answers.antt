use Rattle.std.specs.Int.{w32, from_be_bytes}
use Rattle.domain_wire.specs.Values.{FixedAt}
use Rattle.domain_fields.specs.ReadBack.{last_read_back}
use Rattle.domain_fields.proofs.read_back.U32ReadBackLast.reads_back_last.Goals as goal

pub returns : goal.returns
returns c = last_read_back _ (FixedAt 4 (from_be_bytes w32)) _ c.reads_back.ensures
