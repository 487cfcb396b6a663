use Rattle.std.specs.Prelude.{All}
use Rattle.domain_parsed.specs.ParsedNames.{parsed_labels}
use Rattle.examples.specs.MessageHosts.{HasNoAddressOf}
use Rattle.examples.proofs.Passing.{Passed}
use Rattle.examples.proofs.mail.address_of.Given as goal

abbrev pub invariant-loop-item : goal.invariant-loop-item
invariant-loop-item l =
    (goal.iterator-loop-item).can_next l.item-iterator ×
    (goal.iterator-loop-item).is_finite l.item-iterator ×
    Passed (All (HasNoAddressOf (parsed_labels l.initial.host))) l.initial.item-iterator l.item-iterator
