-- Character strings (RFC 1035, 3.3).
use Rattle.std.specs.Prelude.{◌≡◌, ℕ, zero, suc, ◌<◌, ◌≤◌, List, [], ◌∷◌, ◌++◌, length, take, drop, ⊤}

-- A character string has at most 255 octets, which one octet tells (RFC 1035, 3.3).
abbrev pub IsString : List ℕ → Type 0
IsString s = length s ≤ 255

-- Each is a character string.
abbrev pub AreStrings : List (List ℕ) → Type 0
AreStrings [] = ⊤
AreStrings (s ∷ ss) = IsString s × AreStrings ss

-- Each string as one octet that tells its length, and then that many octets (RFC 1035, 3.3).
abbrev pub string_octets : List (List ℕ) → List ℕ
string_octets [] = []
string_octets (s ∷ ss) = length s ∷ (s ++ string_octets ss)

-- The strings at the first n length octets of o.
abbrev pub cut_strings : ℕ → List ℕ → List (List ℕ)
cut_strings zero o = []
cut_strings (suc n) [] = []
cut_strings (suc n) (len ∷ o) = take len o ∷ cut_strings n (drop len o)

-- The strings that o is made of, where it is made of strings: `strings_in (string_octets ss) ≡ ss`.
abbrev pub strings_in : List ℕ → List (List ℕ)
strings_in o = cut_strings (length o) o

-- o is character strings, one after another, and nothing else.
abbrev pub HasStrings : List ℕ → Type 0
HasStrings o = (string_octets (strings_in o) ≡ o) × AreStrings (strings_in o)

-- o begins with the strings ss, and rest is after them.
pub record StringsBefore (o : List ℕ) (ss : List (List ℕ)) (rest : List ℕ) : Type 0 where
  pub strings : AreStrings ss
  pub parts : o ≡ string_octets ss ++ rest

-- o ends inside of a string: after whole strings a length octet tells more octets than are left.
pub record EndsInside (o : List ℕ) : Type 0 where
  pub before : List (List ℕ)
  pub len : ℕ
  pub rest : List ℕ
  pub begins : StringsBefore o before (len ∷ rest)
  pub cut : length rest < len

-- o is a string s, and then strings in r.
pub record HasFirstString (o s r : List ℕ) : Type 0 where
  pub string : IsString s
  pub rest : HasStrings r
  pub parts : strings_in o ≡ s ∷ strings_in r
