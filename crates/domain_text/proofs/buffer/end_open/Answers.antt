use Rattle.domain_text.proofs.Buffering.{view_ended, inside_ended}
use Rattle.domain_text.proofs.buffer.end_open.Goals as goal

pub returns-then-ends-gt0-clause-inside : goal.returns-then-ends-gt0-clause-inside
returns-then-ends-gt0-clause-inside c = inside_ended c.args.octets.now c.args.ends.now.head c.args.ends.now.open_len c.requires.inside c.if-ends-gt0.true

pub returns-then-ends-gt0-clause-made : goal.returns-then-ends-gt0-clause-made
returns-then-ends-gt0-clause-made c = view_ended c.args.octets.now c.args.ends.now.head c.args.ends.now.open_len c.requires.inside c.if-ends-gt0.true
