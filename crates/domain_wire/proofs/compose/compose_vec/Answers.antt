use Rattle.std.proofs.Common.{rules, refl}
use Rattle.domain_wire.proofs.compose.compose_vec.Goals as goal

pub returns-in_err-op : goal.returns-in_err-op
returns-in_err-op g c = (_, _, _, search rules, record { shown = _; shows = refl; left = _; met = c.op.ensures; leaves = refl }, search rules)

pub returns : goal.returns
returns g c = (_, _, _, search rules, record { shown = _; shows = refl; left = _; met = c.op.ensures; leaves = refl }, search rules)
