-- The texts of errors.
use Rattle.std.specs.Prelude.{ℕ, List, codes}
use Rattle.domain_label.specs.LabelText.{label_error_kind}
use Rattle.domain_label.specs.ErrorText.{label_from_str_text}
use Rattle.domain_text.specs.TextErrors.{presentation_error_kind}
use Rattle.domain_text.specs.declared.error.PresentationErrorKind.{PresentationErrorKind}
use Rattle.domain_text.specs.declared.error.PresentationErrorKind.TheVariants.{BadLabel, EmptyLabel, LongName}
use Rattle.domain_text.specs.declared.error.FromStrError.{FromStrError}
use Rattle.domain_text.specs.declared.error.FromStrError.TheVariants.{Presentation, ShortBuf}
use Rattle.domain_text.specs.declared.error.RelativeFromStrError.{RelativeFromStrError}
use Rattle.domain_text.specs.declared.error.RelativeFromStrError.TheVariants.{FromStr, AbsoluteName}

-- the text of a fault of a name in presentation format (RFC 1035, 5.1)
abbrev pub presentation_text : PresentationErrorKind → List ℕ
presentation_text (BadLabel e) = label_from_str_text (label_error_kind e)
presentation_text EmptyLabel = codes "empty label"
presentation_text LongName = codes "long domain name"

-- the text of an error of reading an absolute name
abbrev pub from_str_text : FromStrError → List ℕ
from_str_text (Presentation e) = presentation_text (presentation_error_kind e)
from_str_text ShortBuf = codes "buffer size exceeded"

-- the text of an error of reading a relative name
abbrev pub relative_from_str_text : RelativeFromStrError → List ℕ
relative_from_str_text (FromStr e) = from_str_text e
relative_from_str_text AbsoluteName = codes "absolute domain name"
