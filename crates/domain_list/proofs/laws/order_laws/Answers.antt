use Rattle.domain_list.specs.NameLaws.{order_is_total}
use Rattle.domain_list.proofs.AncestorLaws.{tells_apart, keeps_together, comes_first}
use Rattle.domain_list.proofs.laws.order_laws.Goals as goal

pub returns : goal.returns
returns c = record { total = order_is_total; apart = tells_apart; together = keeps_together; first = comes_first }
