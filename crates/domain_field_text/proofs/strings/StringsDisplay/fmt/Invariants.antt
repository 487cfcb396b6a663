use Rattle.std.proofs.Common.{length}
use Rattle.std.specs.Fmt.{IsPlainFormatter}
use Rattle.std.specs.List.{flat_map}
use Rattle.domain_list.specs.Moving.{HasMoved}
use Rattle.domain_strings.specs.Quoted.{spaced_quoted}
use Rattle.domain_txt.specs.Strings.{strings_in}
use Rattle.domain_field_text.specs.FieldTexts.{strings_text}
use Rattle.domain_field_text.proofs.strings.StringsDisplay.fmt.Given as goal

abbrev pub invariant-loop-string : goal.invariant-loop-string
invariant-loop-string g l =
    IsPlainFormatter l.fn.f → HasMoved g.W.Write.write_str_gives l.fn.f (strings_text l.fn.self.octets.now) (flat_map spaced_quoted (strings_in l.rest)) l.f

abbrev pub decreases-loop-string : goal.decreases-loop-string
decreases-loop-string g l = length l.rest
