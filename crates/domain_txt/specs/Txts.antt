-- What contracts see of text in a record: its strings.
use Rattle.std.specs.Prelude.{ℕ, List}
use Rattle.octseq.specs.declared.octets.Octets.{Ghosts}
use Rattle.domain_txt.specs.declared.txt.Txt.{Txt}
use Rattle.domain_txt.specs.Strings.{strings_in}

-- what holds the octets
abbrev pub txt_holder : {O : Type 0} {g : Ghosts O} → Txt O g → O
txt_holder it = it.octets

-- the octets of the data
abbrev pub txt_octets : {O : Type 0} {g : Ghosts O} → Txt O g → List ℕ
txt_octets {g = g} it = g.octets it.octets

-- the strings
abbrev pub txt_strings : {O : Type 0} {g : Ghosts O} → Txt O g → List (List ℕ)
txt_strings it = strings_in (txt_octets it)
