-- How fields are written as text.
use Rattle.std.specs.Prelude.{Bool, true, false}
use Rattle.domain_descriptor.specs.declared.kind.FieldKind.{FieldKind}
use Rattle.domain_descriptor.specs.declared.kind.FieldKind.TheVariants as kinds
use Rattle.domain_rdata_text.specs.declared.form.TextForm.{TextForm}
use Rattle.domain_rdata_text.specs.declared.form.TextForm.TheVariants as forms

-- how a field of a kind is written
abbrev pub text_form : FieldKind → TextForm
text_form kinds.Number8 = forms.Number8
text_form kinds.Number16 = forms.Number16
text_form kinds.Number32 = forms.Number32
text_form kinds.Number48 = forms.Generic
text_form kinds.Number64 = forms.Generic
text_form kinds.Ttl = forms.Ttl
text_form kinds.Serial = forms.Number32
text_form kinds.Time = forms.Time
text_form kinds.Rtype = forms.Rtype
text_form kinds.Ipv4 = forms.Ipv4
text_form kinds.Ipv6 = forms.Ipv6
text_form kinds.Name = forms.Name
text_form kinds.CharString = forms.CharString
text_form kinds.OptionalString = forms.OptionalString
text_form kinds.CharStrings = forms.CharStrings
text_form kinds.Tag = forms.Tag
text_form kinds.QuotedText = forms.QuotedText
text_form kinds.CountedBase16 = forms.CountedBase16
text_form kinds.CountedBase32 = forms.CountedBase32
text_form kinds.CountedBase64 = forms.Generic
text_form kinds.TypeBitmaps = forms.Types
text_form kinds.OptionalTypeBitmaps = forms.OptionalTypes
text_form kinds.SvcParams = forms.Generic
text_form kinds.Base16 = forms.Base16
text_form kinds.Base64 = forms.Base64
text_form kinds.Octets = forms.Generic

-- whether a field that is written so may have no word
abbrev pub may_be_absent : TextForm → Bool
may_be_absent forms.Number8 = false
may_be_absent forms.Number16 = false
may_be_absent forms.Number32 = false
may_be_absent forms.Ttl = false
may_be_absent forms.Time = false
may_be_absent forms.Rtype = false
may_be_absent forms.Ipv4 = false
may_be_absent forms.Ipv6 = false
may_be_absent forms.Name = false
may_be_absent forms.CharString = false
may_be_absent forms.OptionalString = true
may_be_absent forms.CharStrings = false
may_be_absent forms.Tag = false
may_be_absent forms.QuotedText = false
may_be_absent forms.Base16 = false
may_be_absent forms.Base64 = false
may_be_absent forms.CountedBase16 = false
may_be_absent forms.CountedBase32 = false
may_be_absent forms.Types = false
may_be_absent forms.OptionalTypes = true
may_be_absent forms.Generic = false
