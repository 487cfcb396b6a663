-- The numbers that calls return. The header dnsnames.h names them.
use Rattle.std.specs.Prelude.{ℕ, ℤ, pos, negsuc, Bool, true, false, Option, Some, None}
use Rattle.std.specs.declared.cmp.Ordering.{Ordering}
use Rattle.std.specs.declared.cmp.Ordering.TheVariants.{Less, Equal, Greater}
use Rattle.domain_buffer.specs.declared.push.PushFault.{PushFault}
use Rattle.domain_buffer.specs.declared.push.PushFault.TheVariants as push
use Rattle.domain_buffer.specs.declared.rows.RowFault.{RowFault}
use Rattle.domain_buffer.specs.declared.rows.RowFault.TheVariants as table
use Rattle.domain_builder.specs.declared.name_symbol.TextFault.{TextFault}
use Rattle.domain_builder.specs.declared.name_symbol.TextFault.TheVariants as text
use Rattle.domain_descriptor.specs.declared.fault.DataFault.{DataFault}
use Rattle.domain_descriptor.specs.declared.fault.DataFault.TheVariants as within
use Rattle.domain_descriptor.specs.declared.kind.FieldKind.{FieldKind}
use Rattle.domain_descriptor.specs.declared.kind.FieldKind.TheVariants as kinds
use Rattle.domain_flat.specs.declared.error.NameErrorKind.{NameErrorKind}
use Rattle.domain_flat.specs.declared.error.NameErrorKind.TheVariants.{BadLabel, CompressedName, LongName, RelativeName, TrailingData, ShortInput}
use Rattle.domain_flat.specs.declared.error.RelativeNameErrorKind.{RelativeNameErrorKind}
use Rattle.domain_flat.specs.declared.error.RelativeNameErrorKind.TheVariants as relative
use Rattle.domain_reading.specs.declared.fault.NameFault.{NameFault}
use Rattle.domain_reading.specs.declared.fault.NameFault.TheVariants as reading
use Rattle.domain_wire.specs.Refusals.{Refusal}
use Rattle.domain_wire.specs.Refusals.Refusal.{short_input, form}

-- of a name in a message
abbrev pub fault_number : NameFault → ℕ
fault_number reading.ShortInput = 1
fault_number reading.BadLabelType = 2
fault_number reading.TooManyPointers = 3
fault_number reading.LongName = 4

-- of octets that aren't data of a type
abbrev pub data_number : DataFault → ℕ
data_number within.ShortInput = 1
data_number (within.Name f) = fault_number f
data_number within.InvalidTag = 32
data_number within.EmptyHash = 33
data_number within.WindowOrder = 34
data_number within.BitmapLength = 35
data_number within.KeyOrder = 36
data_number within.TrailingData = 7

-- of a kind of fields
abbrev pub kind_number : FieldKind → ℕ
kind_number kinds.Number8 = 1
kind_number kinds.Number16 = 2
kind_number kinds.Number32 = 3
kind_number kinds.Number48 = 4
kind_number kinds.Number64 = 5
kind_number kinds.Ttl = 6
kind_number kinds.Serial = 7
kind_number kinds.Time = 8
kind_number kinds.Rtype = 9
kind_number kinds.Ipv4 = 10
kind_number kinds.Ipv6 = 11
kind_number kinds.Name = 12
kind_number kinds.CharString = 13
kind_number kinds.OptionalString = 14
kind_number kinds.CharStrings = 15
kind_number kinds.Tag = 16
kind_number kinds.QuotedText = 17
kind_number kinds.CountedBase16 = 18
kind_number kinds.CountedBase32 = 19
kind_number kinds.CountedBase64 = 20
kind_number kinds.TypeBitmaps = 21
kind_number kinds.OptionalTypeBitmaps = 22
kind_number kinds.SvcParams = 23
kind_number kinds.Base16 = 24
kind_number kinds.Base64 = 25
kind_number kinds.Octets = 26

-- of why no more entries were put into a table, or of none, where all were
abbrev pub table_number : Option RowFault → ℕ
table_number None = 0
table_number (Some (table.Name f)) = fault_number f
table_number (Some table.ShortInput) = 1
table_number (Some table.NoRoom) = 8

-- of octets that aren't what they are read as, or of what can't be written as an option
abbrev pub refusal_number : Refusal → ℕ
refusal_number short_input = 1
refusal_number (form text) = 28

-- of why a record wasn't pushed
abbrev pub push_number : PushFault → ℕ
push_number push.LaterSection = 24
push_number push.FullSection = 25
push_number push.NoRoom = 8

-- of octets that are no absolute name
abbrev pub absolute_number : NameErrorKind → ℕ
absolute_number ShortInput = 1
absolute_number (BadLabel e) = 2
absolute_number LongName = 4
absolute_number CompressedName = 5
absolute_number RelativeName = 6
absolute_number TrailingData = 7

-- of octets that are no relative name
abbrev pub relative_number : RelativeNameErrorKind → ℕ
relative_number relative.ShortInput = 1
relative_number (relative.BadLabel e) = 2
relative_number relative.LongName = 4
relative_number relative.CompressedName = 5
relative_number relative.AbsoluteName = 19

-- of a text
abbrev pub text_number : TextFault → ℕ
text_number text.ShortInput = 1
text_number text.LongName = 4
text_number text.BadEscape = 11
text_number text.BadSymbol = 12
text_number text.BinaryLabel = 13
text_number text.LongLabel = 14
text_number text.EmptyLabel = 15

-- of an order
abbrev pub order_number : Ordering → ℤ
order_number Less = negsuc 0
order_number Equal = pos 0
order_number Greater = pos 1

-- of a bit
abbrev pub bit_number : Bool → ℕ
bit_number false = 0
bit_number true = 1
