use Rattle.domain_parsed.specs.ParsedNames.{parsed_labels}
use Rattle.domain_message.proofs.Aliases.{Looked}
use Rattle.domain_message.proofs.alias.first_alias.Given as goal

abbrev pub invariant-loop-item : goal.invariant-loop-item
invariant-loop-item g l =
    (goal.iterator-loop-item g).can_next l.item-iterator ×
    (goal.iterator-loop-item g).is_finite l.item-iterator ×
    Looked (parsed_labels l.initial.name) l.initial.item-iterator l.item-iterator
