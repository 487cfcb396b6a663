use Rattle.std.proofs.Common.{length}
use Rattle.domain_descriptor.specs.Rdatas.{kinds_left}
use Rattle.domain_any_rdata.proofs.Passing.{Passed}
use Rattle.domain_any_rdata.proofs.read_back.are_fields.Given as goal

abbrev pub invariant-field : goal.invariant-field
invariant-field l = Passed l.fn.rdata l.fields

abbrev pub decreases-field : goal.decreases-field
decreases-field l = length (kinds_left l.fields)
