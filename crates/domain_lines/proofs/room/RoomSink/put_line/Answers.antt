use Rattle.domain_lines.proofs.Putting.{took_line}
use Rattle.domain_lines.proofs.room.RoomSink.put_line.Goals as goal

pub returns-in-Ok-clause-taken : goal.returns-in-Ok-clause-taken
returns-in-Ok-clause-taken g c = took_line c.args.self.now c.writeln.new.self (g.D.Display.output c.args.text) c.in-Ok.ensures.writes
