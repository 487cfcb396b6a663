use Rattle.std.proofs.Common.{◌≡◌, ◌<◌, ◌+◌, ◌++◌, length, OnOk, OnErr, subst}
use Rattle.domain_any_rdata.specs.Keys.{canonical_octets}
use Rattle.domain_any_rdata.proofs.Viewing.{Content, same_content}
use Rattle.domain_any_rdata.proofs.owned_calls.OwnedRecordDataComposeRecordData.compose_canonical_rdata.Goals as goal

pub returns-clause-ok : goal.returns-clause-ok
returns-clause-ok g c =
    let same = same_content c.args.self.now c.as_data.result c.as_data.ensures in
    let o = g.Target.Octets.octets in
    subst (λ (x : Content). OnOk c.compose_canonical_rdata.result (o c.compose_canonical_rdata.new.target ≡ o c.args.target.now ++ canonical_octets x.0 x.1 x.2)) same c.compose_canonical_rdata.ensures.ok

pub returns-clause-full : goal.returns-clause-full
returns-clause-full g c =
    let same = same_content c.args.self.now c.as_data.result c.as_data.ensures in
    subst (λ (x : Content). OnErr c.compose_canonical_rdata.result (g.Target.Octets.capacity c.args.target.now < length (g.Target.Octets.octets c.args.target.now) + length (canonical_octets x.0 x.1 x.2))) same c.compose_canonical_rdata.ensures.full

pub returns-clause-some : goal.returns-clause-some
returns-clause-some g c =
    let same = same_content c.args.self.now c.as_data.result c.as_data.ensures in
    subst (λ (x : Content). OnErr c.compose_canonical_rdata.result (0 < length (canonical_octets x.0 x.1 x.2))) same c.compose_canonical_rdata.ensures.some
