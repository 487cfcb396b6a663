use Rattle.std.proofs.Common.{true, length}
use Rattle.domain_descriptor.specs.Rdatas.{rdata_kinds, kinds_left}
use Rattle.domain_any_rdata.proofs.Telling.{Decides}
use Rattle.domain_any_rdata.specs.Parts.{rdata_parts, parts_left}
use Rattle.domain_any_rdata.specs.Texts.{parts_text}
use Rattle.domain_any_rdata.proofs.text.have_text.Given as goal

abbrev pub invariant-field : goal.invariant-field
invariant-field l = Decides (parts_text true (rdata_kinds l.fn.rdata) (rdata_parts l.fn.rdata)) (kinds_left l.fields) (parts_left l.fields)

abbrev pub decreases-field : goal.decreases-field
decreases-field l = length (kinds_left l.fields)
