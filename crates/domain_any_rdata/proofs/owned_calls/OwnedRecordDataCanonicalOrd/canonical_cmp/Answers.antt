use Rattle.std.proofs.Common.{◌∙◌, List, ℕ, ap}
use Rattle.domain_any_rdata.specs.Keys.{data_key, key_order}
use Rattle.domain_any_rdata.specs.Owned.{owned_key}
use Rattle.domain_any_rdata.proofs.Viewing.{same_key}
use Rattle.domain_any_rdata.proofs.owned_calls.OwnedRecordDataCanonicalOrd.canonical_cmp.Goals as goal

pub returns : goal.returns
returns c =
    let one = same_key c.args.self.now c.as_data.result c.as_data.ensures in
    let two = same_key c.args.other.now c.as_data-2.result c.as_data-2.ensures in
    c.canonical_cmp.ensures
    ∙ ap (λ (k : List ℕ). key_order k (data_key c.as_data-2.result)) one
    ∙ ap (λ (k : List ℕ). key_order (owned_key c.args.self.now) k) two
