use Rattle.std.proofs.Common.{rules, subst}
use Rattle.octseq.specs.Parsing.{position}
use Rattle.domain_tool.specs.Entries.{entry_line}
use Rattle.domain_tool.specs.Lines.{IsLineOf}
use Rattle.domain_tool.proofs.Entries.{same_message, moves_on}
use Rattle.domain_tool.proofs.Listing.{writes_none, writes_next, writes_up_to}
use Rattle.domain_tool.proofs.list.write_entries.Goals as goal

pub loop-entry-init : goal.loop-entry-init
loop-entry-init g c = (writes_none _ _ _, search rules)

pub loop-entry-preserved : goal.loop-entry-preserved
loop-entry-preserved g c =
    let before = c.loop-entry.invariant in
    let same = same_message _ _ _ before.1 in
    let line = entry_line c.in-Ok.entry in
    let one = subst (λ m. IsLineOf m c.args.kind (position c.loop-entry.parser) line (position c.parse.new.parser)) same c.in-Ok.ensures.ok in
    (writes_next _ _ c.loop-entry._entry _ _ _ _ _ _ before.0 (line, one, c.in_ok-put_line.ensures), moves_on _ _ _ _ _ before.1 c.in-Ok.ensures.moves)

pub returns-in-Err-clause-refused : goal.returns-in-Err-clause-refused
returns-in-Err-clause-refused g c =
    writes_up_to _ _ _ _ _ _ _ _ _ c.in-Err.e c.loop-entry.invariant.0 c.loop-entry-test.true (same_message _ _ _ c.loop-entry.invariant.1) c.in-Err.ensures.err
