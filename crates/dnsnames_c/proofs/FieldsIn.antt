-- Fields in the data of records.
use Rattle.std.proofs.Common.{◌≡◌, ◌∙◌, ℕ, ◌+◌, ◌≤◌, List, length, take, get_or, refl, sym, ap, subst, arith}
use Rattle.std.specs.Prelude.{true}
use Rattle.std.proofs.lemmas.Bool.{false≢true}
use Rattle.domain_descriptor.specs.Fields.{NameAt, FieldAt}
use Rattle.domain_descriptor.specs.Rdatas.{rdata_kinds, field_kind, field_message, field_begin, field_after}
use Rattle.domain_descriptor.specs.Table.{known_fields}
use Rattle.domain_descriptor.specs.Values.{size_of}
use Rattle.domain_descriptor.specs.declared.kind.FieldKind.{FieldKind}
use Rattle.domain_descriptor.specs.declared.kind.FieldKind.TheVariants as kinds
use Rattle.domain_descriptor.specs.declared.rdata.Field.{Field}
use Rattle.domain_descriptor.specs.declared.rdata.Rdata.{Rdata}
use Rattle.domain_reading.proofs.NameOrFault.{names_or_fault}
use Rattle.domain_reading.specs.Faults.{NameFaultAt}
use Rattle.domain_reading.specs.declared.fault.NameFault.{NameFault}
use Rattle.dnsnames_c.specs.Fields.{ReadsData}
use Rattle.dnsnames_c.specs.Wanted.{is_wanted, IsPlace, HasNoPlace, HasWanted}
use Rattle.dnsnames_c.specs.declared.wanted.Wanted.{Wanted}
use Rattle.dnsnames_c.specs.declared.wanted.Wanted.TheVariants.{Name, Number}

-- the fields of data are those of the table
pub known_after : (all : Rdata) (message : List ℕ) (p len rtype class index : ℕ) → ReadsData message p len rtype class all → length (rdata_kinds all) ≤ index → length (known_fields rtype class) ≤ index
known_after all message p len rtype class index reads none = omega (arith, none, ap (λ (ks : List FieldKind). length ks) reads.1.kinds)

pub place_known : (wanted : Wanted) (fields known : List FieldKind) (index place : ℕ) → fields ≡ known → IsPlace wanted fields index place → IsPlace wanted known index place
place_known wanted fields known index place same at = subst (λ ks. IsPlace wanted ks index place) same at

pub no_place_known : (wanted : Wanted) (fields known : List FieldKind) (index : ℕ) → fields ≡ known → HasNoPlace wanted fields index → HasNoPlace wanted known index
no_place_known wanted fields known index same none = subst (λ ks. HasNoPlace wanted ks index) same none

-- so there is a field at each of its places
pub field_there : (all : Rdata) (message : List ℕ) (p len rtype : ℕ) (wanted : Wanted) (fields : List FieldKind) (index place : ℕ) → ReadsData message p len rtype 1 all → fields ≡ known_fields rtype 1 → IsPlace wanted fields index place → length (rdata_kinds all) ≤ place → ⊥
field_there all message p len rtype wanted fields index place reads same at none =
    omega (arith, at.some, none, ap (λ (ks : List FieldKind). length ks) reads.1.kinds, ap (λ (ks : List FieldKind). length ks) same)

-- the kind of a wanted field
pub kind_wanted : (wanted : Wanted) (message : List ℕ) (p len rtype index : ℕ) (it : Field) → HasWanted wanted message p len rtype index it → is_wanted wanted (field_kind it) ≡ true
kind_wanted wanted message p len rtype index it (place, at, (all, reads, field)) =
    let kind : field_kind it ≡ get_or (known_fields rtype 1) place kinds.Number8 = field.kind ∙ ap (λ ks. get_or ks place kinds.Number8) reads.1.kinds in
    ap (is_wanted wanted) kind ∙ at.passes

-- where it is
pub wanted_at : (wanted : Wanted) (message : List ℕ) (p len rtype index : ℕ) (it : Field) → HasWanted wanted message p len rtype index it → FieldAt (field_kind it) (take (p + len) message) (field_begin it) (field_after it)
wanted_at wanted message p len rtype index it (place, at, (all, reads, field)) =
    subst (λ m. FieldAt (field_kind it) m (field_begin it) (field_after it)) reads.1.octets field.at

pub message_of : (wanted : Wanted) (message : List ℕ) (p len rtype index : ℕ) (it : Field) → HasWanted wanted message p len rtype index it → field_message it ≡ take (p + len) message
message_of wanted message p len rtype index it (place, at, (all, reads, field)) = field.octets ∙ reads.1.octets

pub inside_of : (wanted : Wanted) (message : List ℕ) (p len rtype index : ℕ) (it : Field) → HasWanted wanted message p len rtype index it → p + len ≤ length message
inside_of wanted message p len rtype index it (place, at, (all, reads, field)) = reads.0.inside

-- where a name is, it can be read
is_name : (kind : FieldKind) → is_wanted Name kind ≡ true → kind ≡ kinds.Name
is_name kinds.Name is = refl
is_name _ is = absurd (false≢true is)

pub name_there : (message : List ℕ) (p len rtype index : ℕ) (it : Field) (q : ℕ) → HasWanted Name message p len rtype index it → q ≡ field_begin it → (f : NameFault) → NameFaultAt 255 (take (p + len) message) q f → ⊥
name_there message p len rtype index it q has here f fault =
    let m = take (p + len) message in
    let kind = is_name (field_kind it) (kind_wanted Name message p len rtype index it has) in
    let named : NameAt m (field_begin it) (field_after it) = subst (λ k. FieldAt k m (field_begin it) (field_after it)) kind (wanted_at Name message p len rtype index it has) in
    names_or_fault named.0.1 (subst (λ x. NameFaultAt 255 m x f) here fault)

-- a number ends inside the octets
number_inside : (kind : FieldKind) (m : List ℕ) (p e : ℕ) → is_wanted Number kind ≡ true → FieldAt kind m p e → p + size_of kind ≤ length m
number_inside kinds.Number8 m p e is at = omega (arith, at.0, at.1)
number_inside kinds.Number16 m p e is at = omega (arith, at.0, at.1)
number_inside kinds.Number32 m p e is at = omega (arith, at.0, at.1)
number_inside kinds.Ttl m p e is at = omega (arith, at.0, at.1)
number_inside kinds.Serial m p e is at = omega (arith, at.0, at.1)
number_inside kinds.Time m p e is at = omega (arith, at.0, at.1)
number_inside kinds.Rtype m p e is at = omega (arith, at.0, at.1)
number_inside _ m p e is at = absurd (false≢true is)

pub number_there : (message : List ℕ) (p len rtype index : ℕ) (it : Field) (kind : FieldKind) (q : ℕ) → HasWanted Number message p len rtype index it → kind ≡ field_kind it → q ≡ field_begin it → q + size_of kind ≤ length (take (p + len) message)
number_there message p len rtype index it kind q has same here =
    let inside = number_inside (field_kind it) (take (p + len) message) (field_begin it) (field_after it) (kind_wanted Number message p len rtype index it has) (wanted_at Number message p len rtype index it has) in
    subst (λ k. q + size_of k ≤ length (take (p + len) message)) (sym same) (omega (arith, inside, here))

pub number_kind : (message : List ℕ) (p len rtype index : ℕ) (it : Field) (kind : FieldKind) → HasWanted Number message p len rtype index it → kind ≡ field_kind it → is_wanted Number kind ≡ true
number_kind message p len rtype index it kind has same = ap (is_wanted Number) same ∙ kind_wanted Number message p len rtype index it has
