use Rattle.std.proofs.Common.{◌∙◌, ℕ, List, fold, ap}
use Rattle.std.specs.Hash as fed
use Rattle.domain_fields.specs.Orders.{hashed}
use Rattle.domain_any_rdata.specs.AllData.{data_type, data_class, data_parts}
use Rattle.domain_any_rdata.specs.Keys.{canonical_octets}
use Rattle.domain_any_rdata.proofs.Keyed.{all_hashed}
use Rattle.domain_any_rdata.proofs.order.AllRecordDataHash.hash.Goals as goal

pub returns : goal.returns
returns g c =
    let write = g.H.Hasher.write in
    let it = c.args.self.now in
    let state = c.args.state.now in
    let typed = c.to_int.ensures ∙ c.rtype.ensures in
    let classed = c.to_int-2.ensures ∙ c.class.ensures in
    all_hashed write (fed.u16 (data_type it)) (fed.u16 (data_class it)) (canonical_octets (data_type it) (data_class it) (data_parts it)) state _ _ _
    (c.write_u16.ensures ∙ ap (λ (n : ℕ). fold write state (fed.u16 n)) typed)
    (c.write_u16-2.ensures ∙ ap (λ (n : ℕ). fold write c.write_u16.new.self (fed.u16 n)) classed)
    (c.hash_left.ensures ∙ ap (λ (o : List ℕ). hashed write o c.write_u16-2.new.self) c.canonical.ensures)
