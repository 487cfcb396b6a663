-- The texts of errors of labels, and the errors of parsing that they become.
use Rattle.std.specs.Prelude.{ℕ, ◌/◌, ◌%◌, List, [], ◌∷◌, ◌++◌, codes}
use Rattle.domain_label.specs.Hex.{hex_digit}
use Rattle.domain_wire.specs.Refusals.{Refusal, short_input, form}
use Rattle.domain_label.specs.declared.label_text.LabelFromStrErrorKind.{LabelFromStrErrorKind}
use Rattle.domain_label.specs.declared.label_text.LabelFromStrErrorKind.TheVariants.{SymbolChars, BadSymbol, BinaryLabel, LongLabel}
use Rattle.domain_label.specs.declared.split_error.SplitLabelError.{SplitLabelError}
use Rattle.domain_label.specs.declared.split_error.SplitLabelError.TheVariants.{Pointer, BadType, ShortInput}
use Rattle.domain_label.specs.declared.split_error.LabelTypeError.{LabelTypeError}
use Rattle.domain_label.specs.declared.split_error.LabelTypeError.TheVariants.{Undefined, Extended}
use Rattle.domain_label.specs.declared.symbol.SymbolCharsError.{SymbolCharsError}
use Rattle.domain_label.specs.declared.symbol.SymbolCharsError.TheVariants as broken

-- the text of an unknown label type
abbrev pub label_type_text : LabelTypeError → List ℕ
label_type_text Undefined = codes "undefined label type"
label_type_text (Extended head) =
    codes "unknown extended label 0x" ++ hex_digit (head / 16) ∷ hex_digit (head % 16) ∷ []

-- the text of an error of splitting off a label
abbrev pub split_text : SplitLabelError → List ℕ
split_text (Pointer offset) = codes "compressed domain name"
split_text (BadType label_type) = label_type_text label_type
split_text ShortInput = codes "unexpected end of input"

-- the same as an error of parsing
abbrev pub split_refusal : SplitLabelError → Refusal
split_refusal (Pointer offset) = form (codes "compressed domain name")
split_refusal (BadType label_type) = form (codes "invalid label type")
split_refusal ShortInput = short_input

-- the text of a broken escape
abbrev pub symbol_chars_text : SymbolCharsError → List ℕ
symbol_chars_text broken.ShortInput = codes "unexpected end of input"
symbol_chars_text broken.BadEscape = codes "illegal escape sequence"

-- the text of an error of reading a label
abbrev pub label_from_str_text : LabelFromStrErrorKind → List ℕ
label_from_str_text (SymbolChars e) = symbol_chars_text e
label_from_str_text (BadSymbol e) = codes "illegal character"
label_from_str_text BinaryLabel = codes "a binary label was encountered"
label_from_str_text LongLabel = codes "label length limit exceeded"
