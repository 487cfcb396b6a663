-- How contracts describe the suffixes of a name.
use Rattle.std.specs.Prelude.{ℕ, List, [], Option, Some, None}
use Rattle.octseq.specs.declared.octets.Octets.{Ghosts}
use Rattle.domain_flat.specs.Flat.{suffix_lists}
use Rattle.domain_name.specs.declared.absolute.Name.{Name}
use Rattle.domain_name.specs.declared.suffixes.SuffixIter.{SuffixIter}
use Rattle.domain_name.specs.Names.{name_labels}

-- the labels of the name and of each of its suffixes, the longest first; none without a name
abbrev pub suffix_lists_from : {O : Type 0} {g : Ghosts O} → Option (Name O g) → List (List (List ℕ))
suffix_lists_from None = []
suffix_lists_from (Some name) = suffix_lists (name_labels name)

-- the lists of the remaining suffixes
abbrev pub suffix_lists_left : SuffixIter → List (List (List ℕ))
suffix_lists_left it = suffix_lists_from it.next
