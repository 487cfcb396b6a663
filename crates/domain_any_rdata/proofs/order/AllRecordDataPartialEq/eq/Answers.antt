use Rattle.std.proofs.Common.{◌∙◌, ap}
use Rattle.std.proofs.lemmas.Map.Text.{is_eq-slice_cmp}
use Rattle.std.specs.Ordering.{is_eq}
use Rattle.domain_any_rdata.specs.Keys.{data_key}
use Rattle.domain_any_rdata.proofs.order.AllRecordDataPartialEq.eq.Goals as goal

pub returns : goal.returns
returns c =
    c.is_eq.ensures ∙ ap is_eq c.key_cmp.ensures ∙ is_eq-slice_cmp (data_key c.args.self.now) (data_key c.args.other.now)
