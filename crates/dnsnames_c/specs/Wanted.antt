-- Names, numbers and addresses in the data of records, by how many of them come before (RFC 1035, 3.3). The data are
-- octets of the message from p on, so many, of class IN.
use Rattle.std.specs.Prelude.{◌≡◌, ℕ, ◌≤◌, ◌<◌, Bool, true, false, List, length, take, get_or}
use Rattle.std.specs.List.{count_by}
use Rattle.domain_descriptor.specs.Table.{known_fields}
use Rattle.domain_descriptor.specs.declared.kind.FieldKind.{FieldKind}
use Rattle.domain_descriptor.specs.declared.kind.FieldKind.TheVariants as kinds
use Rattle.domain_descriptor.specs.declared.rdata.Field.{Field}
use Rattle.dnsnames_c.specs.Fields.{AreNoDataIn, HasField}
use Rattle.dnsnames_c.specs.Status.{data_number}
use Rattle.dnsnames_c.specs.declared.wanted.FieldFault.{FieldFault}
use Rattle.dnsnames_c.specs.declared.wanted.FieldFault.TheVariants.{NoField, Data}
use Rattle.dnsnames_c.specs.declared.wanted.Wanted.{Wanted}
use Rattle.dnsnames_c.specs.declared.wanted.Wanted.TheVariants.{Name, Number, Address}

-- A field of this kind is wanted: a name, a number of at most 32 bits, or an address.
abbrev pub is_wanted : Wanted → FieldKind → Bool
is_wanted Name kinds.Name = true
is_wanted Number kinds.Number8 = true
is_wanted Number kinds.Number16 = true
is_wanted Number kinds.Number32 = true
is_wanted Number kinds.Ttl = true
is_wanted Number kinds.Serial = true
is_wanted Number kinds.Time = true
is_wanted Number kinds.Rtype = true
is_wanted Address kinds.Ipv4 = true
is_wanted Address kinds.Ipv6 = true
is_wanted _ _ = false

-- The field with `place` fields before it is wanted, and `index` of those before it are.
pub record IsPlace (wanted : Wanted) (fields : List FieldKind) (index place : ℕ) : Type 0 where
  pub some : place < length fields
  pub passes : is_wanted wanted (get_or fields place kinds.Number8) ≡ true
  pub before : count_by (is_wanted wanted) (take place fields) ≡ index

-- No more than `index` fields are wanted.
abbrev pub HasNoPlace : Wanted → List FieldKind → ℕ → Type 0
HasNoPlace wanted fields index = count_by (is_wanted wanted) fields ≤ index

-- They are data of this type, and this is the wanted field with `index` wanted ones before it.
abbrev pub HasWanted : Wanted → List ℕ → ℕ → ℕ → ℕ → ℕ → Field → Type 0
HasWanted wanted message p len rtype index it =
    (place : ℕ) × IsPlace wanted (known_fields rtype 1) index place
    × HasField message p len rtype 1 place it

-- There is none, and why: data of this type have no such field, or the octets are no data of this type.
abbrev pub LacksWanted : Wanted → List ℕ → ℕ → ℕ → ℕ → ℕ → FieldFault → Type 0
LacksWanted wanted message p len rtype index NoField = HasNoPlace wanted (known_fields rtype 1) index
LacksWanted wanted message p len rtype index (Data why) =
    (place : ℕ) × IsPlace wanted (known_fields rtype 1) index place
    × AreNoDataIn message p len rtype 1 why

-- the number of why there is none
abbrev pub lack_number : FieldFault → ℕ
lack_number NoField = 21
lack_number (Data why) = data_number why
