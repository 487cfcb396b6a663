-- Fields of record data in a message. `m` is the message up to the end of the data, p the offset at which a field
-- begins, e the offset after it.
use Rattle.std.specs.Prelude.{◌≡◌, ◌⊎◌, ℕ, ◌+◌, ◌≤◌, ◌<◌, true, List, [], ◌∷◌, length, slice_index, slice_range}
use Rattle.std.specs.Char.{is_ascii_alphanumeric}
use Rattle.std.specs.List.{list_all}
use Rattle.domain_header.specs.Numbers.{number16}
use Rattle.domain_reading.specs.Faults.{NameFaultAt}
use Rattle.domain_reading.specs.Grammar.{Names, EncodingEnds}
use Rattle.domain_descriptor.specs.Forms.{form}
use Rattle.domain_descriptor.specs.declared.fault.DataFault.{DataFault}
use Rattle.domain_descriptor.specs.declared.fault.DataFault.TheVariants as faults
use Rattle.domain_descriptor.specs.declared.form.FieldForm.{FieldForm}
use Rattle.domain_descriptor.specs.declared.form.FieldForm.TheVariants as forms
use Rattle.domain_descriptor.specs.declared.kind.FieldKind.{FieldKind}

-- So many octets.
abbrev pub OctetsAt : List ℕ → ℕ → ℕ → ℕ → Type 0
OctetsAt m p n e = (e ≡ p + n) × (e ≤ length m)

-- A name of at most 255 pointers; its encoding ends there (RFC 1035, 4.1.4).
abbrev pub NameAt : List ℕ → ℕ → ℕ → Type 0
NameAt m p e = ((ls : List (List ℕ)) × Names 255 m p ls) × EncodingEnds m p e

-- An octet that says how many follow, and these (RFC 1035, 3.3).
abbrev pub CountedAt : List ℕ → ℕ → ℕ → Type 0
CountedAt m p e = (p < length m) × (e ≡ p + 1 + slice_index m p) × (e ≤ length m)

-- The data ends in them, or before.
abbrev pub CountedCut : List ℕ → ℕ → Type 0
CountedCut m p = length m < p + 1 + slice_index m p

-- An octet that isn't zero and says how many follow, and these (RFC 5155, 3.1.6).
abbrev pub SomeCountedAt : List ℕ → ℕ → ℕ → Type 0
SomeCountedAt m p e = CountedAt m p e × (0 < slice_index m p)

-- They aren't there, and why.
abbrev pub SomeCountedFault : List ℕ → ℕ → DataFault → Type 0
SomeCountedFault m p why =
    ((why ≡ faults.ShortInput) × CountedCut m p)
    ⊎ ((why ≡ faults.EmptyHash) × (p < length m) × (slice_index m p ≡ 0))

-- As many octets as two octets tell, the high one first.
abbrev pub LongCountedAt : List ℕ → ℕ → ℕ → Type 0
LongCountedAt m p e = (p + 2 ≤ length m) × (e ≡ p + 2 + number16 m p) × (e ≤ length m)

abbrev pub LongCountedCut : List ℕ → ℕ → Type 0
LongCountedCut m p = (length m < p + 2) ⊎ ((p + 2 ≤ length m) × (length m < p + 2 + number16 m p))

-- Character strings one after another to the end of m, one or more (RFC 1035, 3.3.14).
pub data StringsAt (m : List ℕ) : ℕ → Type 0 where
  last : {p : ℕ} → CountedAt m p (length m) → StringsAt m p
  more : {p q : ℕ} → CountedAt m p q → StringsAt m q → StringsAt m p

-- After whole strings the data ends in one, or where one is due.
pub data StringsCut (m : List ℕ) : ℕ → Type 0 where
  here : {p : ℕ} → CountedCut m p → StringsCut m p
  later : {p q : ℕ} → CountedAt m p q → q < length m → StringsCut m q → StringsCut m p

-- The octets of a tag are letters and digits, one or more (RFC 8659, 4.1).
abbrev pub IsTag : List ℕ → Type 0
IsTag s = (0 < length s) × (list_all is_ascii_alphanumeric s ≡ true)

-- A tag as a character string.
abbrev pub TagAt : List ℕ → ℕ → ℕ → Type 0
TagAt m p e = CountedAt m p e × IsTag (slice_range m (p + 1) e)

abbrev pub TagFault : List ℕ → ℕ → DataFault → Type 0
TagFault m p why =
    ((why ≡ faults.ShortInput) × CountedCut m p)
    ⊎ ((why ≡ faults.InvalidTag) × ((e : ℕ) × CountedAt m p e × (IsTag (slice_range m (p + 1) e) → ⊥)))

-- A block of a type bitmap: its window, which is `least` or more, how many octets its bitmap has, 1 to 32, and these
-- (RFC 4034, 4.1.2).
abbrev pub BlockAt : List ℕ → ℕ → ℕ → ℕ → Type 0
BlockAt m p least e =
    (p + 2 ≤ length m) × (least ≤ slice_index m p) × (1 ≤ slice_index m (p + 1)) × (slice_index m (p + 1) ≤ 32)
    × (e ≡ p + 2 + slice_index m (p + 1)) × (e ≤ length m)

-- The first error in one, from the left.
abbrev pub BlockFault : List ℕ → ℕ → ℕ → DataFault → Type 0
BlockFault m p least why =
    ((why ≡ faults.ShortInput) × (length m < p + 2))
    ⊎ (((why ≡ faults.WindowOrder) × (p + 2 ≤ length m) × (slice_index m p < least))
    ⊎ (((why ≡ faults.BitmapLength) × (p + 2 ≤ length m) × (least ≤ slice_index m p)
    × ((slice_index m (p + 1) < 1) ⊎ (32 < slice_index m (p + 1))))
    ⊎ ((why ≡ faults.ShortInput) × (p + 2 ≤ length m) × (least ≤ slice_index m p) × (1 ≤ slice_index m (p + 1))
    × (slice_index m (p + 1) ≤ 32) × (length m < p + 2 + slice_index m (p + 1)))))

-- Blocks one after another to the end of m, or none, whose windows ascend from `least` on.
pub data BlocksAt (m : List ℕ) : ℕ → ℕ → Type 0 where
  none : {p least : ℕ} → length m ≤ p → BlocksAt m p least
  block : {p least e : ℕ} → BlockAt m p least e → BlocksAt m e (slice_index m p + 1) → BlocksAt m p least

-- After whole blocks there is an error in one.
pub data BlocksFault (m : List ℕ) : ℕ → ℕ → DataFault → Type 0 where
  here : {p least : ℕ} {why : DataFault} → p < length m → BlockFault m p least why → BlocksFault m p least why
  later : {p least e : ℕ} {why : DataFault} → BlockAt m p least e → BlocksFault m e (slice_index m p + 1) why → BlocksFault m p least why

-- A service parameter: its key, which is `least` or more, how many octets its value has, both as numbers of 16 bits,
-- and these (RFC 9460, 2.2).
abbrev pub ParamAt : List ℕ → ℕ → ℕ → ℕ → Type 0
ParamAt m p least e =
    (p + 4 ≤ length m) × (least ≤ number16 m p) × (e ≡ p + 4 + number16 m (p + 2)) × (e ≤ length m)

-- The first error in one, from the left.
abbrev pub ParamFault : List ℕ → ℕ → ℕ → DataFault → Type 0
ParamFault m p least why =
    ((why ≡ faults.ShortInput) × (length m < p + 2))
    ⊎ (((why ≡ faults.KeyOrder) × (p + 2 ≤ length m) × (number16 m p < least))
    ⊎ (((why ≡ faults.ShortInput) × (p + 2 ≤ length m) × (least ≤ number16 m p) × (length m < p + 4))
    ⊎ ((why ≡ faults.ShortInput) × (p + 4 ≤ length m) × (least ≤ number16 m p) × (length m < p + 4 + number16 m (p + 2)))))

-- Parameters one after another to the end of m, or none, whose keys ascend from `least` on.
pub data ParamsAt (m : List ℕ) : ℕ → ℕ → Type 0 where
  none : {p least : ℕ} → length m ≤ p → ParamsAt m p least
  param : {p least e : ℕ} → ParamAt m p least e → ParamsAt m e (number16 m p + 1) → ParamsAt m p least

-- After whole parameters there is an error in one.
pub data ParamsFault (m : List ℕ) : ℕ → ℕ → DataFault → Type 0 where
  here : {p least : ℕ} {why : DataFault} → p < length m → ParamFault m p least why → ParamsFault m p least why
  later : {p least e : ℕ} {why : DataFault} → ParamAt m p least e → ParamsFault m e (number16 m p + 1) why → ParamsFault m p least why

-- No such name is at p, and why.
abbrev pub NoNameAt : List ℕ → ℕ → DataFault → Type 0
NoNameAt m p (faults.Name f) = NameFaultAt 255 m p f
NoNameAt m p faults.ShortInput = ⊥
NoNameAt m p faults.InvalidTag = ⊥
NoNameAt m p faults.EmptyHash = ⊥
NoNameAt m p faults.WindowOrder = ⊥
NoNameAt m p faults.BitmapLength = ⊥
NoNameAt m p faults.KeyOrder = ⊥
NoNameAt m p faults.TrailingData = ⊥

-- A field that is read so is at p and ends before e.
abbrev pub FormAt : FieldForm → List ℕ → ℕ → ℕ → Type 0
FormAt (forms.Fixed n) m p e = OctetsAt m p n e
FormAt forms.Name m p e = NameAt m p e
FormAt forms.Counted m p e = CountedAt m p e
FormAt forms.OptionalCounted m p e = ((p ≡ length m) × (e ≡ p)) ⊎ CountedAt m p e
FormAt forms.SomeCounted m p e = SomeCountedAt m p e
FormAt forms.Strings m p e = (e ≡ length m) × StringsAt m p
FormAt forms.Tag m p e = TagAt m p e
FormAt forms.LongCounted m p e = LongCountedAt m p e
FormAt forms.Blocks m p e = (e ≡ length m) × (p < length m) × BlocksAt m p 0
FormAt forms.OptionalBlocks m p e = (e ≡ length m) × BlocksAt m p 0
FormAt forms.Params m p e = (e ≡ length m) × ParamsAt m p 0
FormAt forms.Rest m p e = (e ≡ length m) × (p ≤ e)

-- No such field is at p, and the first error from the left says why.
abbrev pub FormFault : FieldForm → List ℕ → ℕ → DataFault → Type 0
FormFault (forms.Fixed n) m p why = (why ≡ faults.ShortInput) × (length m < p + n)
FormFault forms.Name m p why = NoNameAt m p why
FormFault forms.Counted m p why = (why ≡ faults.ShortInput) × CountedCut m p
FormFault forms.OptionalCounted m p why = (why ≡ faults.ShortInput) × (p < length m) × CountedCut m p
FormFault forms.SomeCounted m p why = SomeCountedFault m p why
FormFault forms.Strings m p why = (why ≡ faults.ShortInput) × StringsCut m p
FormFault forms.Tag m p why = TagFault m p why
FormFault forms.LongCounted m p why = (why ≡ faults.ShortInput) × LongCountedCut m p
FormFault forms.Blocks m p why = ((why ≡ faults.ShortInput) × (length m ≤ p)) ⊎ BlocksFault m p 0 why
FormFault forms.OptionalBlocks m p why = BlocksFault m p 0 why
FormFault forms.Params m p why = ParamsFault m p 0 why
FormFault forms.Rest m p why = length m < p

-- A field of this kind is at p and ends before e.
abbrev pub FieldAt : FieldKind → List ℕ → ℕ → ℕ → Type 0
FieldAt kind m p e = FormAt (form kind) m p e

-- No field of this kind is at p, and why.
abbrev pub FieldFault : FieldKind → List ℕ → ℕ → DataFault → Type 0
FieldFault kind m p why = FormFault (form kind) m p why

-- Fields of these kinds are at p, one after another, and the last ends before e.
abbrev pub FieldsAt : List FieldKind → List ℕ → ℕ → ℕ → Type 0
FieldsAt [] m p e = e ≡ p
FieldsAt (kind ∷ kinds) m p e = (q : ℕ) × FieldAt kind m p q × FieldsAt kinds m q e

-- After the fields before it one of these isn't there, and why.
abbrev pub FieldsFault : List FieldKind → List ℕ → ℕ → DataFault → Type 0
FieldsFault [] m p why = ⊥
FieldsFault (kind ∷ kinds) m p why = FieldFault kind m p why ⊎ ((q : ℕ) × FieldAt kind m p q × FieldsFault kinds m q why)

-- Fields of these kinds are all octets of m from p on.
abbrev pub AreData : List FieldKind → List ℕ → ℕ → Type 0
AreData kinds m p = FieldsAt kinds m p (length m)

-- They aren't, and why: one isn't there, or octets are left after the last.
abbrev pub AreNoData : List FieldKind → List ℕ → ℕ → DataFault → Type 0
AreNoData kinds m p why =
    FieldsFault kinds m p why
    ⊎ ((why ≡ faults.TrailingData) × ((e : ℕ) × FieldsAt kinds m p e × (e < length m)))
