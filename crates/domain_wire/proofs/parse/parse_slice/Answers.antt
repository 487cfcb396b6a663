use Rattle.std.proofs.Common.{rules, refl}
use Rattle.domain_wire.proofs.Reading.{error_told, trailing_told, value_told}
use Rattle.domain_wire.proofs.parse.parse_slice.Goals as goal

pub returns-in_err-value : goal.returns-in_err-value
returns-in_err-value g c = (
  c.from_ref-parser.result,
  c.op.result,
  c.op.new.arg2,
  record { whole_octets = c.from_ref-parser.ensures.whole; to_the_end = c.from_ref-parser.ensures.message; at_start = c.from_ref-parser.ensures.offset },
  record { shown = _; shows = refl; left = _; met = c.op.ensures; leaves = refl },
  error_told g.E.From.from_gives c.op.result c.in_err-value.field-0.0 c.op.new.arg2 c.from_residual.result (search rules) (search rules),
)

pub returns-then-remaining-gt0 : goal.returns-then-remaining-gt0
returns-then-remaining-gt0 g c = (
  c.from_ref-parser.result,
  c.op.result,
  c.op.new.arg2,
  record { whole_octets = c.from_ref-parser.ensures.whole; to_the_end = c.from_ref-parser.ensures.message; at_start = c.from_ref-parser.ensures.offset },
  record { shown = _; shows = refl; left = _; met = c.op.ensures; leaves = refl },
  trailing_told g.E.From.from_gives c.op.result c.in_ok-value.value c.op.new.arg2 c.new.result c.from.result (search rules) (search rules) c.new.ensures c.from.ensures,
)

pub returns : goal.returns
returns g c = (
  c.from_ref-parser.result,
  c.op.result,
  c.op.new.arg2,
  record { whole_octets = c.from_ref-parser.ensures.whole; to_the_end = c.from_ref-parser.ensures.message; at_start = c.from_ref-parser.ensures.offset },
  record { shown = _; shows = refl; left = _; met = c.op.ensures; leaves = refl },
  value_told g.E.From.from_gives c.op.result c.in_ok-value.value c.op.new.arg2 (search rules) (search rules),
)
