-- What the calls on fields give.
use Rattle.std.proofs.Common.{◌≡◌, ◌∙◌, ℕ, ◌+◌, ◌≤◌, List, length, take, refl, ap, subst, inl, inr}
use Rattle.std.specs.Prelude.{Option, Some, slice_range, unwrap_or}
use Rattle.domain_descriptor.specs.Rdatas.{rdata_kinds, field_kind, field_message, field_begin, field_after, IsField}
use Rattle.domain_descriptor.specs.Values.{number_in}
use Rattle.domain_descriptor.specs.declared.fault.DataFault.{DataFault}
use Rattle.domain_descriptor.specs.declared.kind.FieldKind.{FieldKind}
use Rattle.domain_descriptor.specs.declared.rdata.Field.{Field}
use Rattle.domain_descriptor.specs.declared.rdata.Rdata.{Rdata}
use Rattle.dnsnames_c.specs.Answers.{Gives}
use Rattle.dnsnames_c.specs.Data.{GivesNameAt, GivesDataName, GivesDataNumber, GivesDataAddress}
use Rattle.dnsnames_c.specs.Fields.{AreNoDataIn, ReadsData, GivesDataField}
use Rattle.dnsnames_c.specs.Status.{data_number, kind_number}
use Rattle.dnsnames_c.specs.Wanted.{HasWanted}
use Rattle.dnsnames_c.specs.declared.wanted.Wanted.TheVariants.{Name, Number, Address}
use Rattle.dnsnames_c.proofs.FieldsIn.{known_after, message_of}

-- a field
pub field_given : (message : List ℕ) (p len rtype class index : ℕ) (all : Rdata) (it : Field) (found : FieldKind) (told : Option ℕ) (kind begin end number : ℕ) → ReadsData message p len rtype class all → IsField all index it → found ≡ field_kind it → kind ≡ kind_number found → begin ≡ field_begin it → end ≡ field_after it → told ≡ number_in (field_kind it) (field_message it) (field_begin it)
    → number ≡ unwrap_or told 0 → GivesDataField message p len rtype class index 0 kind begin end number
field_given message p len rtype class index all it found told kind begin end number reads field same is begins ends value of_value =
    inl (
      refl,
      it,
      (all, reads, field),
      record {
        kind_is = is ∙ ap kind_number same;
        begins = begins;
        ends = ends;
        number_is = of_value ∙ ap (λ o. unwrap_or o 0) value;
      },
    )

-- none, after the last
pub no_more_given : (message : List ℕ) (p len rtype class index kind begin end number : ℕ) (all : Rdata) → ReadsData message p len rtype class all → length (rdata_kinds all) ≤ index → GivesDataField message p len rtype class index 27 kind begin end number
no_more_given message p len rtype class index kind begin end number all reads none =
    inr (inl (refl, reads.0, known_after all message p len rtype class index reads none))

-- none, since the octets are no data
pub fault_given : (message : List ℕ) (p len rtype class index status kind begin end number : ℕ) (why : DataFault) → AreNoDataIn message p len rtype class why → status ≡ data_number why → GivesDataField message p len rtype class index status kind begin end number
fault_given message p len rtype class index status kind begin end number why none is = inr (inr (why, none, is))

-- a name
pub name_given : (message : List ℕ) (p len rtype index status : ℕ) (it : Field) (q : ℕ) (old new : List ℕ) (old_size size : ℕ) → HasWanted Name message p len rtype index it → q ≡ field_begin it → GivesNameAt (take (p + len) message) q status old new size → GivesDataName message p len rtype index status old new old_size size
name_given message p len rtype index status it q old new old_size size has here given =
    inl (it, has, subst (λ x. GivesNameAt (take (p + len) message) x status old new size) here given)

-- a number
pub number_given : (message : List ℕ) (p len rtype index : ℕ) (it : Field) (kind : FieldKind) (q old n : ℕ) → HasWanted Number message p len rtype index it → kind ≡ field_kind it → q ≡ field_begin it → number_in kind (take (p + len) message) q ≡ Some n → GivesDataNumber message p len rtype index 0 old n
number_given message p len rtype index it kind q old n has same here is =
    let m = take (p + len) message in
    let told : number_in (field_kind it) m (field_begin it) ≡ Some n = subst (λ x. number_in (field_kind it) m x ≡ Some n) here (subst (λ k. number_in k m q ≡ Some n) same is) in
    inl (refl, it, has, ap (λ x. number_in (field_kind it) x (field_begin it)) (message_of Number message p len rtype index it has) ∙ told)

-- an address
pub address_given : (message : List ℕ) (p len rtype status : ℕ) (it : Field) (octets old new : List ℕ) (old_size size : ℕ) → HasWanted Address message p len rtype 0 it → octets ≡ slice_range (field_message it) (field_begin it) (field_after it) → Gives octets status old new size → GivesDataAddress message p len rtype status old new old_size size
address_given message p len rtype status it octets old new old_size size has is given =
    inl (it, has, subst (λ o. Gives o status old new size) is given)
