use Rattle.std.proofs.Common.{length}
use Rattle.std.specs.Fmt.{IsPlainFormatter}
use Rattle.domain_list.specs.Moving.{HasMoved}
use Rattle.domain_field_text.specs.Base32.{base32hex_text}
use Rattle.domain_field_text.proofs.base32.Base32Display.fmt.Given as goal

abbrev pub invariant-group : goal.invariant-group
invariant-group g l =
    IsPlainFormatter l.fn.f → HasMoved g.W.Write.write_str_gives l.fn.f (base32hex_text l.fn.self.octets.now) (base32hex_text l.rest) l.f

abbrev pub decreases-group : goal.decreases-group
decreases-group g l = length l.rest
