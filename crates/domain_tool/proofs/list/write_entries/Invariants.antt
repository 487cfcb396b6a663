use Rattle.std.proofs.Common.{replicate}
use Rattle.std.specs.Io.KnownBytes.{append_known}
use Rattle.octseq.specs.Parsing.{message, position, MovesTo}
use Rattle.domain_tool.specs.Written.{WritesEntries}
use Rattle.domain_tool.proofs.list.write_entries.Given as goal

abbrev pub invariant-loop-entry : goal.invariant-loop-entry
invariant-loop-entry g l =
    WritesEntries (message l.initial.parser) (replicate l._entry l.kind) (position l.initial.parser) (position l.parser) (append_known (g.W.Write.contents l.initial.output) l.initial.lines.items) (append_known (g.W.Write.contents l.output) l.lines.items)
    × MovesTo l.initial.parser l.parser (position l.parser)
