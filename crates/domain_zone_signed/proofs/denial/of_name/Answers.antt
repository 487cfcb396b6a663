use Rattle.domain_name.specs.Names.{name_labels}
use Rattle.domain_zone.specs.Kept.{zone_view}
use Rattle.domain_zone_signed.proofs.Sources.{for_list}
use Rattle.domain_zone_signed.proofs.denial.of_name.Goals as goal

pub returns : goal.returns
returns c = for_list (zone_view c.args.zone.now) (name_labels c.args.name.now) c.nsec_for.result c.nsec_for.ensures
