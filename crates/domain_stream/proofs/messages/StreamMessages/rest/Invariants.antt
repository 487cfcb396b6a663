use Rattle.std.proofs.Common.{◌≡◌, length}
use Rattle.domain_stream.specs.Framing.{rest_in}
use Rattle.domain_stream.proofs.messages.StreamMessages.rest.Given as goal

abbrev pub invariant-messages : goal.invariant-messages
invariant-messages l = rest_in l.rest ≡ rest_in l.initial.rest

abbrev pub decreases-messages : goal.decreases-messages
decreases-messages l = length l.rest
