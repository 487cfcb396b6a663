use Rattle.std.proofs.Common.{◌∙◌}
use Rattle.domain_text.proofs.Buffering.{name_octets, ended_absolute}
use Rattle.domain_text.proofs.buffer.NameBuffer.append_name.Goals as goal

pub returns-clause-name : goal.returns-clause-name
returns-clause-name g c = ended_absolute c.self.inside.octets c.self.inside.ends.head c.self.inside.ends.open_len c.args.self.now c.self.invariant (c.self.view_is ∙ c.end_label.ensures)

pub returns-clause-ok : goal.returns-clause-ok
returns-clause-ok g c = rw (← name_octets c.self.inside.octets c.self.inside.ends.head c.self.inside.ends.open_len c.args.self.now c.self.invariant (c.self.view_is ∙ c.end_label.ensures)) c.append_slice.ensures.ok
