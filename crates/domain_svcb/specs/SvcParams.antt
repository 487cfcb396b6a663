-- Service parameters (RFC 9460, 2.2).
use Rattle.std.specs.Prelude.{◌≡◌, ℕ, ◌+◌, ◌*◌, ◌/◌, ◌%◌, ◌≤◌, cond, nat_lt, nat_eq, List, [], ◌∷◌, ◌++◌, length, ⊤, Option, None, Some}
use Rattle.domain_svcb.specs.declared.params.SvcParamsError.{SvcParamsError}
use Rattle.domain_svcb.specs.declared.params.SvcParamsError.TheVariants.{ShortInput, KeyOrder}

-- the octets of parameters: of each its key and how many octets its value has, both in two octets with the high one
-- first, and the value
abbrev pub params_octets : List (ℕ × List ℕ) → List ℕ
params_octets [] = []
params_octets (p ∷ ps) = p.0 / 256 ∷ p.0 % 256 ∷ length p.1 / 256 ∷ length p.1 % 256 ∷ (p.1 ++ params_octets ps)

-- The key of a parameter is `least` or more, and both numbers have 16 bits.
abbrev pub IsParam : ℕ → ℕ × List ℕ → Type 0
IsParam least p = (least ≤ p.0) × ((p.0 ≤ 65535) × (length p.1 ≤ 65535))

-- Each is a parameter, and the keys strictly ascend from `least` on.
abbrev pub AreParams : ℕ → List (ℕ × List ℕ) → Type 0
AreParams least [] = ⊤
AreParams least (p ∷ ps) = IsParam least p × AreParams (p.0 + 1) ps

-- The octets o are those of the parameters ps, whose keys strictly ascend.
abbrev pub EncodesParams : List ℕ → List (ℕ × List ℕ) → Type 0
EncodesParams o ps = (o ≡ params_octets ps) × AreParams 0 ps

-- the octets o are such parameters, or none at all
abbrev pub HasParams : ℕ → List ℕ → Type 0
HasParams least o = (ps : List (ℕ × List ℕ)) × (o ≡ params_octets ps) × AreParams least ps

-- the least key that may come after parameters
abbrev pub next_key : ℕ → List (ℕ × List ℕ) → ℕ
next_key least [] = least
next_key least (p ∷ ps) = next_key (p.0 + 1) ps

-- What is wrong after a key: the octets end before those that tell the length, or within the value.
abbrev pub value_fault : List ℕ → Option SvcParamsError
value_fault [] = Some ShortInput
value_fault (high ∷ []) = Some ShortInput
value_fault (high ∷ low ∷ rest) = cond (nat_lt (length rest) (high * 256 + low)) (Some ShortInput) None

-- What is wrong with the first of parameters whose key is `least` or more, from the left: the octets end within the
-- key, it is less, or something is wrong after it. Where no octet is left no parameter is due.
abbrev pub param_fault : ℕ → List ℕ → Option SvcParamsError
param_fault least [] = None
param_fault least (high ∷ []) = Some ShortInput
param_fault least (high ∷ low ∷ rest) = cond (nat_lt (high * 256 + low) least) (Some KeyOrder) (value_fault rest)

-- The octets o are no parameters: after whole ones something is wrong with the next.
pub record NoParams (o : List ℕ) (why : SvcParamsError) : Type 0 where
  pub before : List (ℕ × List ℕ)
  pub rest : List ℕ
  pub parts : o ≡ params_octets before ++ rest
  pub are : AreParams 0 before
  pub none : param_fault (next_key 0 before) rest ≡ Some why

-- Octets begin with a parameter: its key, its value, and the octets after it.
pub record FirstParam (least : ℕ) (o : List ℕ) (key : ℕ) (value rest : List ℕ) : Type 0 where
  pub parts : o ≡ key / 256 ∷ key % 256 ∷ length value / 256 ∷ length value % 256 ∷ (value ++ rest)
  pub param : IsParam least (key, value)

-- Octets begin with a number of 16 bits, the high octet first.
pub record FirstNumber (o : List ℕ) (n : ℕ) (rest : List ℕ) : Type 0 where
  pub parts : o ≡ n / 256 ∷ n % 256 ∷ rest
  pub size : n ≤ 65535

-- the value of the parameter with this key
abbrev pub value_with : ℕ → List (ℕ × List ℕ) → Option (List ℕ)
value_with key [] = None
value_with key (p ∷ ps) = cond (nat_eq p.0 key) (Some p.1) (value_with key ps)
