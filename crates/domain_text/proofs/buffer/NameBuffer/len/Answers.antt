use Rattle.std.proofs.Common.{sym, ap, ◌∙◌}
use Rattle.domain_text.specs.BuilderState.{size}
use Rattle.domain_text.proofs.Buffering.{size_open}
use Rattle.domain_text.proofs.buffer.NameBuffer.len.Goals as goal

pub returns-then-self-gt0-clause-size : goal.returns-then-self-gt0-clause-size
returns-then-self-gt0-clause-size c = sym (size_open c.self.inside.octets c.self.inside.ends.head c.self.inside.ends.open_len c.self.invariant c.if-self-gt0.true) ∙ ap size c.self.view_is
