use Rattle.std.proofs.Common.{◌≡◌, ◌↔◌, ℕ, false, not, ◌&&◌, nat_le, length, IsNone, IfSome, subst}
use Rattle.domain_descriptor.specs.Table.{compresses_names}
use Rattle.domain_fields.specs.Parts.{parts_octets}
use Rattle.domain_rdata.specs.Targets.{AllHaveLength}
use Rattle.domain_any_rdata.specs.Composing.{PartsComposed, composed_form}
use Rattle.domain_any_rdata.specs.Keys.{canonical_octets}
use Rattle.domain_any_rdata.proofs.Viewing.{Content, same_content}
use Rattle.domain_any_rdata.proofs.owned_calls.OwnedRecordDataComposeRecordData.rdlen.Goals as goal

pub returns-clause-known : goal.returns-clause-known
returns-clause-known c =
    let same = same_content c.args.self.now c.as_data.result c.as_data.ensures in
    subst (λ (x : Content). IsNone c.rdlen.result ↔ ((not (c.args.compress && compresses_names x.0) && nat_le (length (parts_octets false x.2)) 65535) ≡ false)) same c.rdlen.ensures.known

pub returns-clause-composed : goal.returns-clause-composed
returns-clause-composed c =
    let same = same_content c.args.self.now c.as_data.result c.as_data.ensures in
    subst (λ (x : Content). IfSome c.rdlen.result (AllHaveLength (PartsComposed x.2 (composed_form (compresses_names x.0)) c.args.compress))) same c.rdlen.ensures.composed

pub returns-clause-canonical : goal.returns-clause-canonical
returns-clause-canonical c =
    let same = same_content c.args.self.now c.as_data.result c.as_data.ensures in
    subst (λ (x : Content). c.args.compress ≡ false → IfSome c.rdlen.result (λ (n : ℕ). length (canonical_octets x.0 x.1 x.2) ≡ n)) same c.rdlen.ensures.canonical
