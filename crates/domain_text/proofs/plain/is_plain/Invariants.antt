use Rattle.std.proofs.Common.{IsTrue, ◌↔◌, take}
use Rattle.std.specs.List.{AllByRecursion}
use Rattle.domain_text.specs.Plain.{IsPlain}
use Rattle.domain_text.proofs.plain.is_plain.Given as goal

abbrev pub invariant-loop-octet : goal.invariant-loop-octet
invariant-loop-octet l = IsTrue l.plain ↔ AllByRecursion IsPlain (take l.octet-index l.text)
