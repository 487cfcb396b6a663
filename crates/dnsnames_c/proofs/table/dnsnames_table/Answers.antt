use Rattle.std.proofs.Common.{arith}
use Rattle.dnsnames_c.specs.Tables.Tables.{entries}
use Rattle.dnsnames_c.proofs.table.dnsnames_table.Goals as goal

pub returns : goal.returns
returns c = entries (omega (arith, c.if-message-lt12.false)) (omega (arith, c.if-message-gt4294967295.false)) c.fill_rows-filled.ensures.holds c.fill_rows-filled.ensures.stops c.number_of_fill.ensures
