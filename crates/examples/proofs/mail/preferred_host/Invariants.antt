use Rattle.std.specs.Prelude.{option_map}
use Rattle.examples.proofs.Finding.{Collected, mail_of}
use Rattle.examples.proofs.mail.preferred_host.Given as goal

abbrev pub invariant-loop-item : goal.invariant-loop-item
invariant-loop-item l =
    (goal.iterator-loop-item).can_next l.item-iterator ×
    (goal.iterator-loop-item).is_finite l.item-iterator ×
    Collected l.initial.item-iterator l.item-iterator (option_map mail_of l.preferred)
