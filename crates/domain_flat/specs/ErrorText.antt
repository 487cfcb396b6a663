-- The errors of parsing that errors of names become.
use Rattle.std.specs.Prelude.{ℕ, List, codes}
use Rattle.domain_wire.specs.Refusals.{Refusal, short_input, form}
use Rattle.domain_label.specs.ErrorText.{label_type_text}
use Rattle.domain_label.specs.declared.split_error.SplitLabelError.{SplitLabelError}
use Rattle.domain_label.specs.declared.split_error.SplitLabelError.TheVariants as split
use Rattle.domain_flat.specs.declared.error.NameErrorKind.{NameErrorKind}
use Rattle.domain_flat.specs.declared.error.NameErrorKind.TheVariants.{BadLabel, CompressedName, LongName, RelativeName, TrailingData, ShortInput}
use Rattle.domain_flat.specs.declared.error.RelativeNameErrorKind.{RelativeNameErrorKind}
use Rattle.domain_flat.specs.declared.error.RelativeNameErrorKind.TheVariants as relative

-- as a form error
abbrev pub name_error_text : NameErrorKind → List ℕ
name_error_text (BadLabel label_type) = codes "unknown label type"
name_error_text CompressedName = codes "compressed domain name"
name_error_text LongName = codes "long domain name"
name_error_text RelativeName = codes "relative domain name"
name_error_text TrailingData = codes "trailing data in buffer"
name_error_text ShortInput = codes "unexpected end of buffer"

-- as an error of parsing
abbrev pub name_refusal : NameErrorKind → Refusal
name_refusal ShortInput = short_input
name_refusal kind = form (name_error_text kind)

-- the error of a name that an error of a label becomes
abbrev pub name_fault : SplitLabelError → NameErrorKind
name_fault (split.Pointer offset) = CompressedName
name_fault (split.BadType label_type) = BadLabel label_type
name_fault split.ShortInput = ShortInput

-- the same of a relative name
abbrev pub relative_name_fault : SplitLabelError → RelativeNameErrorKind
relative_name_fault (split.Pointer offset) = relative.CompressedName
relative_name_fault (split.BadType label_type) = relative.BadLabel label_type
relative_name_fault split.ShortInput = relative.ShortInput

-- what the errors show
abbrev pub name_error_shown : NameErrorKind → List ℕ
name_error_shown (BadLabel label_type) = label_type_text label_type
name_error_shown CompressedName = codes "compressed domain name"
name_error_shown LongName = codes "long domain name"
name_error_shown RelativeName = codes "relative name"
name_error_shown TrailingData = codes "trailing data"
name_error_shown ShortInput = codes "unexpected end of input"

-- the same of errors of relative names
abbrev pub relative_name_error_shown : RelativeNameErrorKind → List ℕ
relative_name_error_shown (relative.BadLabel label_type) = label_type_text label_type
relative_name_error_shown relative.CompressedName = codes "compressed domain name"
relative_name_error_shown relative.ShortInput = codes "unexpected end of input"
relative_name_error_shown relative.LongName = codes "long domain name"
relative_name_error_shown relative.AbsoluteName = codes "absolute domain name"
