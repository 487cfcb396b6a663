-- What fields say.
use Rattle.std.specs.Prelude.{ℕ, ◌+◌, ◌*◌, List, slice_index, Option, Some, None}
use Rattle.domain_header.specs.Numbers.{number16, number32}
use Rattle.domain_descriptor.specs.Forms.{form}
use Rattle.domain_descriptor.specs.declared.form.FieldForm.{FieldForm}
use Rattle.domain_descriptor.specs.declared.form.FieldForm.TheVariants as forms
use Rattle.domain_descriptor.specs.declared.kind.FieldKind.{FieldKind}
use Rattle.domain_descriptor.specs.declared.kind.FieldKind.TheVariants as kinds

-- How many octets a field that is read so has at least: all of them, where their number is fixed.
abbrev pub width : FieldForm → ℕ
width (forms.Fixed n) = n
width forms.Name = 0
width forms.Counted = 0
width forms.OptionalCounted = 0
width forms.SomeCounted = 0
width forms.Strings = 0
width forms.Tag = 0
width forms.LongCounted = 0
width forms.Blocks = 0
width forms.OptionalBlocks = 0
width forms.Params = 0
width forms.Rest = 0

-- The same of a field of a kind.
abbrev pub size_of : FieldKind → ℕ
size_of kind = width (form kind)

-- The number that a field of this kind is, the high octet first (RFC 1035, 2.3.2), where it is one.
abbrev pub number_in : FieldKind → List ℕ → ℕ → Option ℕ
number_in kinds.Number8 m p = Some (slice_index m p)
number_in kinds.Number16 m p = Some (number16 m p)
number_in kinds.Number32 m p = Some (number32 m p)
number_in kinds.Number48 m p = Some (number16 m p * 4294967296 + number32 m (p + 2))
number_in kinds.Number64 m p = Some (number32 m p * 4294967296 + number32 m (p + 4))
number_in kinds.Ttl m p = Some (number32 m p)
number_in kinds.Serial m p = Some (number32 m p)
number_in kinds.Time m p = Some (number32 m p)
number_in kinds.Rtype m p = Some (number16 m p)
number_in kinds.Ipv4 m p = None
number_in kinds.Ipv6 m p = None
number_in kinds.Name m p = None
number_in kinds.CharString m p = None
number_in kinds.OptionalString m p = None
number_in kinds.CharStrings m p = None
number_in kinds.Tag m p = None
number_in kinds.QuotedText m p = None
number_in kinds.CountedBase16 m p = None
number_in kinds.CountedBase32 m p = None
number_in kinds.CountedBase64 m p = None
number_in kinds.TypeBitmaps m p = None
number_in kinds.OptionalTypeBitmaps m p = None
number_in kinds.SvcParams m p = None
number_in kinds.Base16 m p = None
number_in kinds.Base64 m p = None
number_in kinds.Octets m p = None
