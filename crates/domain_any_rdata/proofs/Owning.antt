-- Data over octets of its own has the same fields.
use Rattle.std.proofs.Common.{◌≡◌, ◌∙◌, ℕ, Bool, false, List, [], ◌++◌, sym, ap, subst}
use Rattle.domain_descriptor.specs.Fields.{AreData}
use Rattle.domain_descriptor.specs.Rdatas.{rdata_type, rdata_class, rdata_kinds, rdata_message, rdata_begin}
use Rattle.domain_descriptor.specs.Table.{known_fields}
use Rattle.domain_descriptor.specs.declared.kind.FieldKind.{FieldKind}
use Rattle.domain_descriptor.specs.declared.rdata.Rdata.{Rdata}
use Rattle.domain_fields.specs.Parts.{Part, parts_octets}
use Rattle.domain_rdata.specs.ReadBack.{Appended}
use Rattle.domain_any_rdata.specs.AllData.{data_of, data_type, data_class, data_parts}
use Rattle.domain_any_rdata.specs.Composing.{PartsComposed, parts_whole}
use Rattle.domain_any_rdata.specs.Owned.{owned_type, owned_class, uncompressed_data, IsOwnedOf}
use Rattle.domain_any_rdata.specs.declared.all.AllRecordData.{AllRecordData}
use Rattle.domain_any_rdata.specs.declared.name_form.NameForm.TheVariants.{Whole}
use Rattle.domain_any_rdata.specs.declared.owned.OwnedRecordData.{OwnedRecordData}
use Rattle.domain_any_rdata.proofs.Back.{data_again, parts_again}
use Rattle.domain_any_rdata.proofs.Same.{parts_settled}
use Rattle.domain_any_rdata.specs.Parts.{parts_at, rdata_parts, AreNamed, CantBeOthers, IsDataOf}

kinds_same : (it : Rdata) (t k : ℕ) → t ≡ rdata_type it → k ≡ rdata_class it → rdata_kinds it ≡ known_fields (rdata_type it) (rdata_class it) → rdata_kinds it ≡ known_fields t k
kinds_same it t k typed classed known =
    known ∙ ap (λ (x : ℕ). known_fields x (rdata_class it)) (sym typed) ∙ ap (λ (x : ℕ). known_fields t x) (sym classed)

pub owned_certain : (it : Rdata) (t k : ℕ) (os : List ℕ) → t ≡ rdata_type it → k ≡ rdata_class it → rdata_kinds it ≡ known_fields (rdata_type it) (rdata_class it) → IsDataOf it
    → os ≡ parts_octets false (rdata_parts it) → CantBeOthers (known_fields t k) os 0
owned_certain it t k os typed classed known certain is none =
    certain (λ at. none
    (subst (λ ks. AreData ks os 0) (kinds_same it t k typed classed known)
    (subst (λ (o : List ℕ). AreData (rdata_kinds it) o 0) (sym is) (data_again (rdata_kinds it) (rdata_message it) (rdata_begin it) it.inside at))))

pub owned_same : (it : Rdata) (t k : ℕ) (os : List ℕ) → t ≡ rdata_type it → k ≡ rdata_class it → rdata_kinds it ≡ known_fields (rdata_type it) (rdata_class it) → IsDataOf it
    → os ≡ parts_octets false (rdata_parts it) → parts_at (known_fields t k) os 0 ≡ rdata_parts it
owned_same it t k os typed classed known certain is =
    parts_settled (parts_at (known_fields t k) os 0) (rdata_parts it) (λ differ. certain (λ at. differ
    (ap (λ (ks : List FieldKind). parts_at ks os 0) (sym (kinds_same it t k typed classed known))
    ∙ ap (λ (o : List ℕ). parts_at (rdata_kinds it) o 0) is
    ∙ parts_again (rdata_kinds it) (rdata_message it) (rdata_begin it) it.inside at)))

pub owned_named : (it : Rdata) (t k : ℕ) (os : List ℕ) → t ≡ rdata_type it → k ≡ rdata_class it → rdata_kinds it ≡ known_fields (rdata_type it) (rdata_class it) → IsDataOf it
    → os ≡ parts_octets false (rdata_parts it) → AreNamed (rdata_parts it) → AreNamed (parts_at (known_fields t k) os 0)
owned_named it t k os typed classed known certain is named = subst AreNamed (sym (owned_same it t k os typed classed known certain is)) named

-- the octets of a new list are those with no name compressed
pub flat_octets : (xs : List Part) (compresses : Bool) (old new : List ℕ) → old ≡ [] → Appended (PartsComposed xs (Whole false) compresses old) old new → new ≡ parts_octets false xs
flat_octets xs compresses old new none a =
    a.all ∙ ap (λ (o : List ℕ). o ++ a.octets) none ∙ parts_whole xs false compresses old a.octets a.allowed

pub is_owned : (it : AllRecordData) (made : OwnedRecordData) → owned_type made ≡ data_type it → owned_class made ≡ data_class it → uncompressed_data made ≡ parts_octets false (data_parts it)
    → IsOwnedOf it made
is_owned it made typed classed flat = record {
  rtype = typed;
  class = classed;
  octets = flat;
  parts = owned_same (data_of it) (owned_type made) (owned_class made) (uncompressed_data made) typed classed it.known it.certain flat;
}
