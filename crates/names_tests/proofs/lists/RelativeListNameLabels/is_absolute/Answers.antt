use Rattle.std.proofs.Common.{map, sym, true≢false}
use Rattle.domain_label.specs.Labels.{label_octets}
use Rattle.domain_label.proofs.WireLaws.{not_both}
use Rattle.names_tests.proofs.lists.RelativeListNameLabels.is_absolute.Goals as goal

pub returns : goal.returns
returns c =
    let name = c.args.self.now in
    (λ h. absurd (true≢false (sym h)), λ a. absurd (not_both (map label_octets name.labels.now) a name.relative.0))
