use Rattle.std.proofs.Common.{sym, ◌∙◌, true≢false}
use Rattle.domain_name.specs.Names.{name_labels}
use Rattle.domain_zone.proofs.Neighbours.{beside_from, exists_from}
use Rattle.domain_zone_laws.specs.Views.{zone_of}
use Rattle.domain_zone_laws.proofs.Ending.{ends_itself}
use Rattle.domain_zone.proofs.lookup.lookup_records.Goals as goal

pub returns-then-is_beside : goal.returns-then-is_beside
returns-then-is_beside c =
    let z = zone_of name_labels c.args.records.now in (
      (c.ends_with.ensures.0 c.if-not-ends_with.false, c.in_default.ensures),
      exists_from z c.place_of-at.result (name_labels c.args.name.now) c.requires.zone.soa.0 (c.is_beside.ensures.0 c.if-is_beside.true),
      c.reply_at.ensures,
    )

pub lookup_nonexistent-requires-clause-ours : goal.lookup_nonexistent-requires-clause-ours
lookup_nonexistent-requires-clause-ours c = (c.ends_with.ensures.0 c.if-not-ends_with.false, c.in_default.ensures)

pub lookup_nonexistent-requires-clause-missing : goal.lookup_nonexistent-requires-clause-missing
lookup_nonexistent-requires-clause-missing c =
    let z = zone_of name_labels c.args.records.now in
    let q = name_labels c.args.name.now in
    λ e. true≢false (sym (c.is_beside.ensures.1 (beside_from z q c.place_of-at.result c.order_laws.ensures.together c.requires.sorted c.place_of-at.ensures.within c.place_of-at.ensures.place q (ends_itself q) e)) ∙ c.if-is_beside.false)
