use Rattle.std.proofs.Common.{◌≤◌, ◌≡◌, ◌∙◌, sym, arith}
use Rattle.domain_rdata.specs.LeavingNames.Outgrows.{as_written}
use Rattle.domain_rdata.proofs.Leaving.{was_measured, behind_measured_length, no_length_stays, no_length_long}
use Rattle.domain_rdata.proofs.Lengths.{cut_back, exceeds_less, refused_less_so}
use Rattle.domain_rdata.proofs.record_data.compose_measured.Goals as goal

pub returns-in-Err-compose_after-clause-why : goal.returns-in-Err-compose_after-clause-why
returns-in-Err-compose_after-clause-why g c =
    let same : g.T.Octets.octets c.truncate-2.new.self ≡ g.T.Octets.octets c.args.target.now = cut_back _ _ _ _ _ _ _ c.in-Ok.ensures.ok c.as_slice-start.ensures.octets c.truncate-2.ensures.octets in
    let room : g.T.Octets.capacity c.args.target.now ≤ g.T.Octets.capacity c.truncate-2.new.self = omega (arith, c.compose_after.ensures.capacity, c.truncate-2.ensures.capacity) in
    exceeds_less _ _ _ _ _ same room c.in-Err-compose_after.ensures.full

pub returns-clause-why : goal.returns-clause-why
returns-clause-why g c =
    let same : g.T.Octets.octets c.truncate-2.new.self ≡ g.T.Octets.octets c.args.target.now = cut_back _ _ _ _ _ _ _ c.in-Ok.ensures.ok c.as_slice-start.ensures.octets c.truncate-2.ensures.octets in
    let again : g.T.Octets.octets c.truncate-3.new.self ≡ g.T.Octets.octets c.truncate-2.new.self = cut_back _ _ _ _ _ _ _ c.in-Ok-compose_after.ensures.ok (c.as_slice-start.ensures.octets ∙ sym same) c.truncate-3.ensures.octets in
    let room : g.T.Octets.capacity c.args.target.now ≤ g.T.Octets.capacity c.truncate-3.new.self = omega (arith, c.compose_after.ensures.capacity, c.truncate-2.ensures.capacity, c.compose_after-2.ensures.capacity, c.truncate-3.ensures.capacity) in
    refused_less_so _ _ _ _ _ _ (again ∙ same) room c.compose_flat.ensures.why

pub returns-then-again-len-clause-names : goal.returns-then-again-len-clause-names
returns-then-again-len-clause-names g c compressing =
    let was = was_measured _ _ _ _ _ _ _ _ _ c.as_slice-start.ensures.octets c.in-Ok.ensures.names c.truncate-2.ensures.cuts in
    behind_measured_length _ _ _ _ _ _ _ _ _ _ was (omega (arith, c.if-len-gt-MOST_OCTETS.false)) (omega (arith, c.if-again-len.true)) c.in-Ok-compose_after.ensures.names

pub returns-clause-names : goal.returns-clause-names
returns-clause-names g c compressing =
    let was = was_measured _ _ _ _ _ _ _ _ _ c.as_slice-start.ensures.octets c.in-Ok.ensures.names c.truncate-2.ensures.cuts in
    no_length_stays _ _ _ _ _ _ _ _ _ _ _ _ was (omega (arith, c.if-len-gt-MOST_OCTETS.false)) c.in-Ok-compose_after.ensures.names c.if-again-len.false

pub returns-then-len-gt-MOST_OCTETS-clause-why : goal.returns-then-len-gt-MOST_OCTETS-clause-why
returns-then-len-gt-MOST_OCTETS-clause-why g c =
    let done = c.in-Ok.ensures.ok in
    record { octets = done.octets; allowed = done.allowed; many = omega (arith, done.size, c.if-len-gt-MOST_OCTETS.true) }

pub returns-then-len-gt-MOST_OCTETS-clause-long : goal.returns-then-len-gt-MOST_OCTETS-clause-long
returns-then-len-gt-MOST_OCTETS-clause-long g c = as_written _ _ c.in-Ok.ensures.names (omega (arith, c.if-len-gt-MOST_OCTETS.true))

pub returns-clause-long : goal.returns-clause-long
returns-clause-long g c =
    let was = was_measured _ _ _ _ _ _ _ _ _ c.as_slice-start.ensures.octets c.in-Ok.ensures.names c.truncate-2.ensures.cuts in
    no_length_long _ _ _ _ (g.D.ComposeRecordData.uncompressed c.args.rdata.now) _ _ _ _ _ _ _ was (omega (arith, c.if-len-gt-MOST_OCTETS.false)) c.in-Ok-compose_after.ensures.names c.if-again-len.false c.compose_flat.ensures.long
