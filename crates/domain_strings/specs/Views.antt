-- What contracts see of fields that are octets.
use Rattle.std.specs.Prelude.{ℕ, List}
use Rattle.octseq.specs.declared.octets.Octets.{Ghosts}
use Rattle.domain_strings.specs.declared.char_string.CharString.{CharString}
use Rattle.domain_strings.specs.declared.last_octets.LastOctets.{LastOctets}
use Rattle.domain_strings.specs.declared.quoted.Quoted.{Quoted}

-- the octets of a character string, without the one that tells their number
abbrev pub char_octets : {O : Type 0} {g : Ghosts O} → CharString O g → List ℕ
char_octets {g = g} it = g.octets it.octets

-- what holds them
abbrev pub char_holder : {O : Type 0} {g : Ghosts O} → CharString O g → O
char_holder it = it.octets

-- the octets that were left
abbrev pub last_octets : {text : ℕ} {O : Type 0} {g : Ghosts O} → LastOctets text O g → List ℕ
last_octets {g = g} it = g.octets it.octets

-- what holds them
abbrev pub last_holder : {text : ℕ} {O : Type 0} {g : Ghosts O} → LastOctets text O g → O
last_holder it = it.octets

-- the octets that are shown between quotes
abbrev pub quoted_octets : Quoted → List ℕ
quoted_octets it = it.octets.now
