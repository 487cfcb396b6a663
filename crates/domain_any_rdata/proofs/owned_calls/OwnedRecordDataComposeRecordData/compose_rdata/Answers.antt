use Rattle.std.proofs.Common.{◌<◌, ◌+◌, false, length, OnOk, OnErr, subst}
use Rattle.domain_descriptor.specs.Table.{compresses_names}
use Rattle.domain_fields.specs.Parts.{parts_octets}
use Rattle.domain_rdata.specs.ReadBack.{Appended}
use Rattle.domain_any_rdata.specs.Composing.{PartsComposed, parts_written, composed_form}
use Rattle.domain_any_rdata.proofs.Viewing.{Content, same_content}
use Rattle.domain_any_rdata.proofs.owned_calls.OwnedRecordDataComposeRecordData.compose_rdata.Goals as goal

pub returns-clause-ok : goal.returns-clause-ok
returns-clause-ok g c =
    let same = same_content c.args.self.now c.as_data.result c.as_data.ensures in
    let o = g.Target.Octets.octets in
    subst (λ (x : Content). OnOk c.compose_rdata.result (Appended (PartsComposed x.2 (composed_form (compresses_names x.0)) g.Target.Composer.compresses (o c.args.target.now)) (o c.args.target.now) (o c.compose_rdata.new.target))) same c.compose_rdata.ensures.ok

pub returns-clause-names : goal.returns-clause-names
returns-clause-names g c =
    let same = same_content c.args.self.now c.as_data.result c.as_data.ensures in
    subst (λ (x : Content). OnOk c.compose_rdata.result (parts_written x.2 (composed_form (compresses_names x.0)) _ g.Target.OctetsBuilder.extends g.Target.Composer.appends c.args.target.now c.compose_rdata.new.target)) same c.compose_rdata.ensures.names

pub returns-clause-full : goal.returns-clause-full
returns-clause-full g c =
    let same = same_content c.args.self.now c.as_data.result c.as_data.ensures in
    subst (λ (x : Content). OnErr c.compose_rdata.result (g.Target.Octets.capacity c.args.target.now < length (g.Target.Octets.octets c.args.target.now) + length (parts_octets false x.2))) same c.compose_rdata.ensures.full

pub returns-clause-some : goal.returns-clause-some
returns-clause-some g c =
    let same = same_content c.args.self.now c.as_data.result c.as_data.ensures in
    subst (λ (x : Content). OnErr c.compose_rdata.result (0 < length (parts_octets false x.2))) same c.compose_rdata.ensures.some
