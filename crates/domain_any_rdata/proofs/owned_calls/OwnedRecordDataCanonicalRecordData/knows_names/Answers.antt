use Rattle.std.proofs.Common.{◌≡◌, subst}
use Rattle.domain_rdata.specs.Canonical.{names_known}
use Rattle.domain_any_rdata.specs.AllData.{lowered_octets}
use Rattle.domain_any_rdata.proofs.Viewing.{Content, same_content}
use Rattle.domain_any_rdata.proofs.owned_calls.OwnedRecordDataCanonicalRecordData.knows_names.Goals as goal

pub returns : goal.returns
returns c =
    subst (λ (x : Content). c.knows_names.result ≡ names_known x.0 (lowered_octets x.0 x.1 x.2)) (same_content c.args.self.now c.as_data.result c.as_data.ensures) c.knows_names.ensures
