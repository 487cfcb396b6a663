use Rattle.domain_any_rdata.specs.AllData.{data_of}
use Rattle.domain_any_rdata.proofs.Owning.{owned_certain, owned_named, is_owned}
use Rattle.domain_any_rdata.proofs.owned.OwnedRecordData.of_flat.Goals as goal

pub invariant_of-result : goal.invariant_of-result
invariant_of-result c =
    let it = c.args.data.now in
    record {
      certain = owned_certain (data_of it) _ _ _ c.rtype.ensures c.class.ensures it.known it.certain c.requires;
      named = owned_named (data_of it) _ _ _ c.rtype.ensures c.class.ensures it.known it.certain c.requires it.named;
    }

pub returns : goal.returns
returns c = is_owned c.args.data.now _ c.rtype.ensures c.class.ensures c.requires
