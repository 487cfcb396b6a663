use Rattle.std.proofs.Common.{◌≡◌, ◌++◌, length}
use Rattle.std.specs.List.{concat}
use Rattle.domain_txt.specs.Strings.{strings_in, HasStrings}
use Rattle.domain_txt.specs.Txts.{txt_strings}
use Rattle.domain_txt.proofs.txt.Txt.text_counted.Given as goal

abbrev pub invariant-loop-string : goal.invariant-loop-string
invariant-loop-string g l = record {
  strings : HasStrings l.rest;
  text : l.text.items ++ concat (strings_in l.rest) ≡ concat (txt_strings l.fn.self);
  none : l.refusals ≡ l.fn.refusals;
}

abbrev pub decreases-loop-string : goal.decreases-loop-string
decreases-loop-string g l = length l.rest
