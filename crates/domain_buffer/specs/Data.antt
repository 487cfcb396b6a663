-- Data of records that have names which may be compressed (RFC 1035, 3.3 and 4.1.4).
use Rattle.std.specs.Prelude.{◌≡◌, ◌≢◌, ◌⊎◌, ℕ, ◌+◌, ◌≤◌, List, [], ◌++◌, length, take, Option, Some, None, nat_eq, if◌then◌else◌, MatchOption}
use Rattle.std.specs.List.{fold}
use Rattle.domain_label.specs.Wire.{IsAbsoluteWire}
use Rattle.domain_descriptor.specs.Forms.{form as kind_form}
use Rattle.domain_descriptor.specs.Table.{known_fields, compresses_names}
use Rattle.domain_descriptor.specs.declared.form.FieldForm.{FieldForm}
use Rattle.domain_descriptor.specs.declared.form.FieldForm.TheVariants as forms
use Rattle.domain_descriptor.specs.declared.kind.FieldKind.{FieldKind}
use Rattle.domain_buffer.specs.declared.data.NamedData.{NamedData}
use Rattle.domain_buffer.specs.declared.data.Shape.{Shape}

-- data of no field
abbrev pub no_fields : Shape
no_fields = record { before = 0; names = 0; after = 0 }

-- these octets more, behind those that come before the names, or behind those after them
abbrev pub with_octets : ℕ → Shape → Shape
with_octets n s =
    if nat_eq s.names 0 then record s { before = s.before + n } else record s { after = s.after + n }

-- A field more that is read so: a name, or octets of a fixed number. Data with names that may be compressed have no
-- others.
abbrev pub with_form : Shape → FieldForm → Shape
with_form s forms.Name = record s { names = s.names + 1 }
with_form s (forms.Fixed n) = with_octets n s
with_form s _ = s

-- what data of these fields are, where names are one after another
abbrev pub shape : List FieldKind → Shape
shape kinds = fold (λ s kind. with_form s (kind_form kind)) no_fields kinds

-- what data of a type are in which names may be compressed (RFC 3597, 4)
abbrev pub compressed_shape : ℕ → Option Shape
compressed_shape rtype = if compresses_names rtype then Some (shape (known_fields rtype 1)) else None

-- no more octets around the names than in data of a type whose names may be compressed
pub record IsSmall (s : Shape) : Type 0 where
  pub few_before : s.before ≤ 2
  pub few_after : s.after ≤ 20

-- the fields of such data: numbers, a name, another one or nothing, and numbers
pub record Fields : Type 0 where
  pub before : List ℕ
  pub first : List ℕ
  pub second : List ℕ
  pub after : List ℕ

-- the fields as they were found
abbrev pub found_fields : NamedData → Fields
found_fields d =
    record {
      before = d.before.now;
      first = d.first.now;
      second = d.second.now;
      after = d.after.now;
    }

-- one after the other
abbrev pub whole : Fields → List ℕ
whole f = f.before ++ (f.first ++ (f.second ++ f.after))

-- The second is an uncompressed name where there are two, and nothing where there is one.
abbrev pub IsSecond : ℕ → List ℕ → Type 0
IsSecond names second =
    ((names ≡ 1) × (second ≡ [])) ⊎ ((names ≡ 2) × IsAbsoluteWire second)

-- These are the fields of data of this type, in which names may be compressed; and their names are uncompressed.
pub record IsNamed (rtype : ℕ) (f : Fields) : Type 0 where
  pub form : Shape
  pub known : compressed_shape rtype ≡ Some form
  pub before : length f.before ≡ form.before
  pub first : IsAbsoluteWire f.first
  pub second : IsSecond form.names f.second
  pub after : length f.after ≡ form.after

-- The first n octets are an uncompressed name, and no other beginning is one.
pub record IsNameFront (octets : List ℕ) (n : ℕ) : Type 0 where
  pub inside : n ≤ length octets
  pub name : IsAbsoluteWire (take n octets)
  pub only : (name rest : List ℕ) → IsAbsoluteWire name → octets ≡ name ++ rest → length name ≡ n

-- The octets begin with no uncompressed name.
abbrev pub HasNoNameFront : List ℕ → Type 0
HasNoNameFront octets =
    (name rest : List ℕ) → IsAbsoluteWire name → octets ≡ name ++ rest → ⊥

-- The first n octets are the second name, or nothing where there is one name.
abbrev pub IsSecondFront : ℕ → List ℕ → ℕ → Type 0
IsSecondFront names octets n =
    ((names ≡ 1) × (n ≡ 0)) ⊎ ((names ≡ 2) × IsNameFront octets n)

-- There is neither one name, nor a second one that the octets begin with.
abbrev pub HasNoSecondFront : ℕ → List ℕ → Type 0
HasNoSecondFront names octets = (names ≢ 1) × ((names ≡ 2) → HasNoNameFront octets)

-- `found` octets are the second name, or nothing; or there is neither.
abbrev pub FindsSecondFront : (found : Option ℕ) → ℕ → List ℕ → Type 0
FindsSecondFront found names octets =
    MatchOption found (HasNoSecondFront names octets) (IsSecondFront names octets)

-- The octets are data of this type with these fields.
abbrev pub AreDataOf : ℕ → List ℕ → NamedData → Type 0
AreDataOf rtype octets d = IsNamed rtype (found_fields d) × (whole (found_fields d) ≡ octets)
