use Rattle.std.proofs.Common.{ap, ◌∙◌}
use Rattle.domain_label.specs.Wire.{labels_in}
use Rattle.domain_label.proofs.WireLaws.{labels_in_wire}
use Rattle.domain_name.proofs.relative.RelativeName.from_octets.Goals as goal

pub returns-clause-list : goal.returns-clause-list
returns-clause-list g c = λ ls a e. ap labels_in e ∙ labels_in_wire ls
