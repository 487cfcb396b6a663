-- What contracts see of tags.
use Rattle.std.specs.Prelude.{ℕ, List}
use Rattle.octseq.specs.declared.octets.Octets.{Ghosts}
use Rattle.domain_strings.specs.Views.{char_octets, char_holder}
use Rattle.domain_strings.specs.declared.char_string.CharString.{CharString}
use Rattle.domain_strings.specs.declared.tag.Tag.{Tag}

-- the octets of a tag, without the one that tells their number
abbrev pub tag_octets : {O : Type 0} {g : Ghosts O} → Tag O g → List ℕ
tag_octets it = char_octets it.string

-- the string that it is
abbrev pub tag_string : {O : Type 0} {g : Ghosts O} → Tag O g → CharString O g
tag_string it = it.string

-- what holds its octets
abbrev pub tag_holder : {O : Type 0} {g : Ghosts O} → Tag O g → O
tag_holder it = char_holder it.string
