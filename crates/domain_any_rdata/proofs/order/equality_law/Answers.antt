use Rattle.std.proofs.lemmas.Map.Text.{is_eq-slice_cmp}
use Rattle.domain_any_rdata.proofs.order.equality_law.Goals as goal

pub returns : goal.returns
returns c = is_eq-slice_cmp
