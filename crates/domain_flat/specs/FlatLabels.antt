-- How contracts describe errors, and the iterator over labels.
use Rattle.std.specs.Prelude.{ℕ, List}
use Rattle.domain_label.specs.Wire.{labels_in}
use Rattle.domain_flat.specs.Faults.{AbsoluteFault, RelativeFault}
use Rattle.domain_flat.specs.declared.error.NameError.{NameError}
use Rattle.domain_flat.specs.declared.error.NameErrorKind.{NameErrorKind}
use Rattle.domain_flat.specs.declared.error.RelativeNameError.{RelativeNameError}
use Rattle.domain_flat.specs.declared.error.RelativeNameErrorKind.{RelativeNameErrorKind}
use Rattle.domain_flat.specs.declared.iter.NameIter.{NameIter}

-- why octets are no absolute name
abbrev pub name_error_kind : NameError → NameErrorKind
name_error_kind e = e.kind

-- why octets are no relative name
abbrev pub relative_name_error_kind : RelativeNameError → RelativeNameErrorKind
relative_name_error_kind e = e.kind

-- The octets o are no absolute name, and e says why.
abbrev pub TellsFault : List ℕ → NameError → Type 0
TellsFault o e = AbsoluteFault o (name_error_kind e)

-- The octets o are no relative name, and e says why.
abbrev pub TellsRelativeFault : List ℕ → RelativeNameError → Type 0
TellsRelativeFault o e = RelativeFault o (relative_name_error_kind e)

-- the labels that an iterator still gives
abbrev pub flat_labels_left : NameIter → List (List ℕ)
flat_labels_left it = labels_in it.octets.now
