use Rattle.std.proofs.Common.{refl, subst}
use Rattle.std.specs.Fmt.{HasWritten}
use Rattle.domain_strings.specs.Quoted.{spaced_quoted}
use Rattle.domain_svcb.proofs.Showing.{shown_item}
use Rattle.domain_field_text.proofs.strings.StringsDisplay.fmt.Goals as goal

pub loop-string-preserved : goal.loop-string-preserved
loop-string-preserved g c plain =
    let m = c.loop-string.invariant plain in
    let shown = subst (λ s. HasWritten g.W.Write.write_str_gives c.loop-string.f (spaced_quoted s) c.write-in-Some-split_string.new.self) c.new-in-Some-split_string.ensures (c.in_ok-write-2.ensures.writes m.wrote.plain refl) in
    shown_item g.W.Write.write_str_gives spaced_quoted _ _ _ _ _ _ _ m c.in-Some-split_string.ensures.parts shown
