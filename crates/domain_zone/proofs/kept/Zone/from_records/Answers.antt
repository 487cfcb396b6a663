use Rattle.std.proofs.Common.{sym, true≢false}
use Rattle.domain_zone.specs.Records.{records_view}
use Rattle.domain_zone.proofs.Good.{faultless}
use Rattle.domain_zone.proofs.kept.Zone.from_records.Goals as goal

pub returns-in-Some-clause-accepts : goal.returns-in-Some-clause-accepts
returns-in-Some-clause-accepts c =
    (λ h. absurd (true≢false (sym h)), λ h. absurd (faultless (records_view c.args.records) c.in-Some.fault c.in-Some.ensures h.0 h.1))
