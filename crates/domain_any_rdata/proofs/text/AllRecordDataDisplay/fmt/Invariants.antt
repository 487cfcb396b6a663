use Rattle.std.proofs.Common.{true, length}
use Rattle.std.specs.Fmt.{IsPlainFormatter}
use Rattle.domain_descriptor.specs.Rdatas.{rdata_kinds, kinds_left}
use Rattle.domain_any_rdata.proofs.Telling.{Told}
use Rattle.domain_any_rdata.specs.AllData.{data_of}
use Rattle.domain_any_rdata.specs.Parts.{rdata_parts, parts_left}
use Rattle.domain_any_rdata.specs.Texts.{parts_text}
use Rattle.domain_any_rdata.proofs.text.AllRecordDataDisplay.fmt.Given as goal

abbrev pub invariant-field : goal.invariant-field
invariant-field g l =
    IsPlainFormatter l.fn.f → Told g.W.Write.write_str_gives l.fn.f (parts_text true (rdata_kinds (data_of l.fn.self)) (rdata_parts (data_of l.fn.self))) l.first (kinds_left l.fields) (parts_left l.fields) l.f

abbrev pub decreases-field : goal.decreases-field
decreases-field g l = length (kinds_left l.fields)
