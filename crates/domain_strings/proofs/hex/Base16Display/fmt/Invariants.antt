use Rattle.std.proofs.Common.{take}
use Rattle.std.specs.Fmt.{HasWritten, IsPlainFormatter}
use Rattle.domain_strings.specs.Base16.{base16_text}
use Rattle.domain_strings.proofs.hex.Base16Display.fmt.Given as goal

abbrev pub invariant-loop-octet : goal.invariant-loop-octet
invariant-loop-octet g l =
    IsPlainFormatter l.initial.f → HasWritten g.W.Write.write_str_gives l.initial.f (base16_text (take l.octet-index l.octet-items)) l.f
