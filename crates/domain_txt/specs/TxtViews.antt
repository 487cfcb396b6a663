-- What contracts see of character strings.
use denote.Ref.{Bor}
use Rattle.std.specs.Prelude.{ℕ, List}
use Rattle.domain_txt.specs.declared.txt_iter.TxtIter.{TxtIter}
use Rattle.domain_txt.specs.Strings.{strings_in}

-- the octets of a string
abbrev pub string_of : Bor (List ℕ) → List ℕ
string_of s = s.now

-- the strings that an iterator has left
abbrev pub strings_left : TxtIter → List (List ℕ)
strings_left it = strings_in it.octets.now
