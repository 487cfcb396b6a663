use Rattle.std.proofs.Common.{true≢false, sym}
use Rattle.domain_label.proofs.WireLaws.{not_both}
use Rattle.domain_name.specs.Names.{relative_labels}
use Rattle.domain_name.proofs.relative_labels.RelativeNameNameLabels.is_absolute.Goals as goal

pub returns : goal.returns
returns g c = (λ h. absurd (true≢false (sym h)), λ a. absurd (not_both (relative_labels c.args.self.now) a c.args.self.now.relative.1.0))
