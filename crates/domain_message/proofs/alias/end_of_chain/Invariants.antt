use Rattle.std.specs.Prelude.{◌+◌, ◌≤◌}
use Rattle.domain_parsed.specs.ParsedNames.{parsed_labels}
use Rattle.domain_message.proofs.Aliases.{Followed}
use Rattle.domain_message.proofs.alias.end_of_chain.Given as goal

abbrev pub invariant-loop-look : goal.invariant-loop-look
invariant-loop-look g l =
    Followed l.answers l._look (parsed_labels l.initial.name) (parsed_labels l.name) × (l.passes ≤ l.fn.passes + l._look)
