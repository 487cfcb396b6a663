use Rattle.std.proofs.Common.{List, ℕ, subst}
use Rattle.domain_descriptor.specs.Fields.{AreNoData}
use Rattle.domain_descriptor.specs.Table.{known_fields}
use Rattle.domain_header.specs.Values.{class_number}
use Rattle.domain_rdata.specs.Rtypes.{rtype_number}
use Rattle.domain_any_rdata.specs.AllData.{IsAllData}
use Rattle.domain_any_rdata.proofs.Named.{no_fault}
use Rattle.domain_any_rdata.proofs.owned.OwnedRecordData.as_data.Goals as goal

pub unreachable-requires : goal.unreachable-requires
unreachable-requires c =
    let it = c.args.self.now in
    let kinds = known_fields (rtype_number it.rtype) (class_number it.class) in
    no_fault kinds it.octets.items 0 it.certain c.in-Err.field-0
    (subst (λ (m : List ℕ). AreNoData kinds m 0 c.in-Err.field-0) c.as_slice.ensures.value c.in-Err.ensures.err)

pub returns : goal.returns
returns c =
    let it = c.args.self.now in
    subst (λ (m : List ℕ). IsAllData (rtype_number it.rtype) (class_number it.class) m 0 c.in-Ok.data) c.as_slice.ensures.value c.in-Ok.ensures.ok
