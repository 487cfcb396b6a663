use Rattle.std.proofs.Common.{◌∙◌, ℕ, List, fold, ap}
use Rattle.domain_any_rdata.specs.Keys.{key_writes}
use Rattle.domain_any_rdata.proofs.Viewing.{same_key}
use Rattle.domain_any_rdata.proofs.owned_calls.OwnedRecordDataHash.hash.Goals as goal

pub returns : goal.returns
returns g c =
    c.hash.ensures ∙ ap (λ (k : List ℕ). fold g.H.Hasher.write c.args.state.now (key_writes k)) (same_key c.args.self.now c.as_data.result c.as_data.ensures)
