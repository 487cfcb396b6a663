-- How contracts describe a name in a message, and the iterators over it.
use Rattle.std.specs.Prelude.{ℕ, Bool, List, [], ◌∷◌, if◌then◌else◌}
use Rattle.octseq.specs.declared.octets.Octets.{Ghosts}
use Rattle.domain_parsed.specs.declared.parsed.ParsedName.{ParsedName}
use Rattle.domain_parsed.specs.declared.iter.ParsedNameIter.{ParsedNameIter}
use Rattle.domain_parsed.specs.declared.suffixes.ParsedSuffixIter.{ParsedSuffixIter}
use Rattle.domain_reading.specs.Offsets.{labels_at_entries, table_labels}

-- the octets of the message that the name is in
abbrev pub parsed_octets : {O : Type 0} {g : Ghosts O} → ParsedName O g → List ℕ
parsed_octets {g = g} n = g.octets n.octets

-- its labels, the root among them: those at the offsets that remain
abbrev pub parsed_labels : {O : Type 0} {g : Ghosts O} → ParsedName O g → List (List ℕ)
parsed_labels {g = g} n = table_labels (g.octets n.octets) n.base n.entries n.dropped n.count

-- what `is_compressed` returns
abbrev pub may_be_compressed : {O : Type 0} {g : Ghosts O} → ParsedName O g → Bool
may_be_compressed n = n.compressed

-- the labels that an iterator still gives
abbrev pub labels_left : ParsedNameIter → List (List ℕ)
labels_left it = labels_at_entries it.octets.now it.base it.entries.now

-- what contracts say of a name: the octets of its message, `is_compressed` and its labels
abbrev pub parsed_model : {O : Type 0} {g : Ghosts O} → ParsedName O g → List ℕ × Bool × List (List ℕ)
parsed_model n = (parsed_octets n, may_be_compressed n, parsed_labels n)

-- names of these labels, of these without the first, and so on to the last, all in the same octets
abbrev pub suffixes : List ℕ → Bool → List (List ℕ) → List (List ℕ × Bool × List (List ℕ))
suffixes o c [] = []
suffixes o c (l ∷ ls) = (o, c, l ∷ ls) ∷ suffixes o c ls

-- the names that are its suffixes, itself among them
abbrev pub suffixes_of : {O : Type 0} {g : Ghosts O} → ParsedName O g → List (List ℕ × Bool × List (List ℕ))
suffixes_of n = suffixes (parsed_octets n) (may_be_compressed n) (parsed_labels n)

-- the names that an iterator still gives
abbrev pub suffixes_left : ParsedSuffixIter → List (List ℕ × Bool × List (List ℕ))
suffixes_left it = if it.ended then [] else suffixes_of it.name
