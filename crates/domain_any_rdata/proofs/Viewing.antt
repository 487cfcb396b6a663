-- Data that owns its octets, seen as data that borrows them.
use Rattle.std.proofs.Common.{◌≡◌, ℕ, List, ap}
use Rattle.domain_fields.specs.Parts.{Part}
use Rattle.domain_any_rdata.proofs.Named.{parts_of_data}
use Rattle.domain_any_rdata.specs.AllData.{data_of, data_type, data_class, data_parts, IsAllData}
use Rattle.domain_any_rdata.specs.Keys.{canonical_key, data_key}
use Rattle.domain_any_rdata.specs.Owned.{owned_type, owned_class, uncompressed_data, owned_parts, owned_key}
use Rattle.domain_any_rdata.specs.declared.all.AllRecordData.{AllRecordData}
use Rattle.domain_any_rdata.specs.declared.owned.OwnedRecordData.{OwnedRecordData}

-- type, class and fields
abbrev pub Content : Type 0
Content = ℕ × ℕ × List Part

abbrev content : AllRecordData → Content
content it = (data_type it, data_class it, data_parts it)

abbrev owned_content : OwnedRecordData → Content
owned_content it = (owned_type it, owned_class it, owned_parts it)

pub same_content : (it : OwnedRecordData) (view : AllRecordData) → IsAllData (owned_type it) (owned_class it) (uncompressed_data it) 0 view → content view ≡ owned_content it
same_content it view is =
    let parts = parts_of_data (owned_type it) (owned_class it) (uncompressed_data it) 0 (data_of view) is in
    λ i. (is.typed i, is.classed i, parts i)

pub same_key : (it : OwnedRecordData) (view : AllRecordData) → IsAllData (owned_type it) (owned_class it) (uncompressed_data it) 0 view → data_key view ≡ owned_key it
same_key it view is = ap (λ (x : Content). canonical_key x.0 x.1 x.2) (same_content it view is)
