-- What contracts say of names that are made of another name.
use Rattle.std.specs.Prelude.{◌≡◌, ℕ, List}
use Rattle.std.specs.Cow.{IsBorrowedSlice}
use Rattle.std.specs.declared.borrow.CowSlice.{CowSlice}
use Rattle.octseq.specs.declared.octets.Octets.{Ghosts}
use Rattle.domain_label.specs.Lowercase.{lowercase_labels}
use Rattle.domain_name.specs.Names.{name_labels, name_holder, relative_labels, relative_holder}
use Rattle.domain_name.specs.declared.absolute.Name.{Name}
use Rattle.domain_name.specs.declared.relative.RelativeName.{RelativeName}

-- The name is the canonical form of the labels: A to Z are a to z (RFC 4034, 6.2).
abbrev pub IsCanonicalOf : {O : Type 0} {g : Ghosts O} → List (List ℕ) → Name O g → Type 0
IsCanonicalOf ls name = name_labels name ≡ lowercase_labels ls

-- The same of a relative name.
abbrev pub IsRelativeCanonicalOf : {O : Type 0} {g : Ghosts O} → List (List ℕ) → RelativeName O g → Type 0
IsRelativeCanonicalOf ls name = relative_labels name ≡ lowercase_labels ls

-- The octets of the name are borrowed.
abbrev pub BorrowsOctets : {X Z : Type 0} {g : Ghosts (CowSlice X Z)} → Name (CowSlice X Z) g → Type 0
BorrowsOctets name = IsBorrowedSlice (name_holder name)

-- The same of a relative name.
abbrev pub BorrowsRelativeOctets : {X Z : Type 0} {g : Ghosts (CowSlice X Z)} → RelativeName (CowSlice X Z) g → Type 0
BorrowsRelativeOctets name = IsBorrowedSlice (relative_holder name)
