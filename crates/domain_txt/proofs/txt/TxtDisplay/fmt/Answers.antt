use Rattle.std.proofs.Common.{refl, subst}
use Rattle.std.specs.Fmt.{HasWritten}
use Rattle.domain_txt.proofs.TxtShowing.{moved_string}
use Rattle.domain_strings.specs.Quoted.{spaced_quoted}
use Rattle.domain_txt.proofs.txt.TxtDisplay.fmt.Goals as goal

pub loop-string-preserved : goal.loop-string-preserved
loop-string-preserved g c = record {
  strings = c.in-Some-first_string.ensures.rest;
  moved = λ plain.
      let m = c.loop-string.invariant.moved plain in
      let shown = subst (λ s. HasWritten g.W.Write.write_str_gives c.loop-string.f (spaced_quoted s) c.write-in-Some-first_string.new.self) c.new-in-Some-first_string.ensures (c.in_ok-write-2.ensures.writes m.wrote.plain refl) in
      moved_string g.W.Write.write_str_gives _ _ _ _ _ c.in-Some-first_string.string.now _ m c.in-Some-first_string.ensures shown;
}
