-- How fields are read.
use Rattle.domain_descriptor.specs.declared.kind.FieldKind.{FieldKind}
use Rattle.domain_descriptor.specs.declared.kind.FieldKind.TheVariants as kinds
use Rattle.domain_descriptor.specs.declared.form.FieldForm.{FieldForm}
use Rattle.domain_descriptor.specs.declared.form.FieldForm.TheVariants as forms

-- How a field of a kind is read.
abbrev pub form : FieldKind → FieldForm
form kinds.Number8 = forms.Fixed 1
form kinds.Number16 = forms.Fixed 2
form kinds.Number32 = forms.Fixed 4
form kinds.Number48 = forms.Fixed 6
form kinds.Number64 = forms.Fixed 8
form kinds.Ttl = forms.Fixed 4
form kinds.Serial = forms.Fixed 4
form kinds.Time = forms.Fixed 4
form kinds.Rtype = forms.Fixed 2
form kinds.Ipv4 = forms.Fixed 4
form kinds.Ipv6 = forms.Fixed 16
form kinds.Name = forms.Name
form kinds.CharString = forms.Counted
form kinds.OptionalString = forms.OptionalCounted
form kinds.CharStrings = forms.Strings
form kinds.Tag = forms.Tag
form kinds.QuotedText = forms.Rest
form kinds.CountedBase16 = forms.Counted
form kinds.CountedBase32 = forms.SomeCounted
form kinds.CountedBase64 = forms.LongCounted
form kinds.TypeBitmaps = forms.Blocks
form kinds.OptionalTypeBitmaps = forms.OptionalBlocks
form kinds.SvcParams = forms.Params
form kinds.Base16 = forms.Rest
form kinds.Base64 = forms.Rest
form kinds.Octets = forms.Rest
