use Rattle.std.proofs.Common.{take}
use Rattle.std.specs.Fmt.{HasWritten, IsPlainFormatter}
use Rattle.domain_message.specs.KnownOptions.{nsid_text}
use Rattle.domain_message.proofs.known_options.NsidDisplay.fmt.Given as goal

abbrev pub invariant-loop-octet : goal.invariant-loop-octet
invariant-loop-octet g l =
    IsPlainFormatter l.initial.f → HasWritten g.W.Write.write_str_gives l.initial.f (nsid_text (take l.octet-index l.octet-items)) l.f
