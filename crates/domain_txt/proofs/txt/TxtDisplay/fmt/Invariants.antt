use Rattle.std.proofs.Common.{length}
use Rattle.std.specs.Fmt.{IsPlainFormatter}
use Rattle.std.specs.List.{flat_map}
use Rattle.domain_list.specs.Moving.{HasMoved}
use Rattle.domain_strings.specs.Quoted.{spaced_quoted, quoted_strings}
use Rattle.domain_txt.specs.Strings.{strings_in, HasStrings}
use Rattle.domain_txt.specs.Txts.{txt_strings}
use Rattle.domain_txt.proofs.txt.TxtDisplay.fmt.Given as goal

abbrev pub invariant-loop-string : goal.invariant-loop-string
invariant-loop-string g l = record {
  strings : HasStrings l.rest;
  moved : IsPlainFormatter l.fn.f → HasMoved g.W.Write.write_str_gives l.fn.f (quoted_strings (txt_strings l.fn.self)) (flat_map spaced_quoted (strings_in l.rest)) l.f;
}

abbrev pub decreases-loop-string : goal.decreases-loop-string
decreases-loop-string g l = length l.rest
