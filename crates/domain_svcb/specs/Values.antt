-- Values as their keys want them, as text (RFC 9460, 7 and 8).
use Rattle.std.specs.Prelude.{ℕ, ◌+◌, ◌*◌, cond, nat_eq, List, [], ◌∷◌, ◌++◌, codes, Option, None, Some}
use Rattle.std.specs.Fmt.{decimal}
use Rattle.base64.specs.Engines.{standard}
use Rattle.base64.specs.GeneralPurpose.{encode_of}
use Rattle.domain_strings.specs.Quoted.{quoted}
use Rattle.domain_svcb.specs.Lists.{key_text, item_texts, with_commas, is_list}
use Rattle.domain_svcb.specs.declared.list.ListKind.{ListKind}
use Rattle.domain_svcb.specs.declared.list.ListKind.TheVariants.{Keys, Protocols, Ipv4Hints, Ipv6Hints}

-- a sign of equality and a text between quotes
abbrev pub given : List ℕ → List ℕ
given text = 61 ∷ 34 ∷ (text ++ 34 ∷ [])

-- a sign of equality and the octets of a value between quotes, and nothing where it has none
abbrev pub octets_value : List ℕ → List ℕ
octets_value [] = []
octets_value (c ∷ cs) = 61 ∷ quoted (c ∷ cs)

-- a list of one item or more, with a comma between two
abbrev pub list_value : ListKind → List ℕ → Option (List ℕ)
list_value kind v = cond (is_list kind v) (Some (given (with_commas (item_texts kind v)))) None

-- no value
abbrev pub no_value : List ℕ → Option (List ℕ)
no_value [] = Some []
no_value (c ∷ cs) = None

-- a number of 16 bits
abbrev pub number_value : List ℕ → Option (List ℕ)
number_value [] = None
number_value (a ∷ []) = None
number_value (a ∷ b ∷ []) = Some (given (decimal (a * 256 + b)))
number_value (a ∷ b ∷ c ∷ cs) = None

-- one octet or more, in base64
abbrev pub base64_value : List ℕ → Option (List ℕ)
base64_value [] = None
base64_value (c ∷ cs) = Some (given (encode_of standard (c ∷ cs)))

-- one octet or more, as they are
abbrev pub plain_value : List ℕ → Option (List ℕ)
plain_value [] = None
plain_value (c ∷ cs) = Some (octets_value (c ∷ cs))

-- The text of a value as its key wants it: keys for mandatory, protocols for alpn, nothing for no-default-alpn and
-- ohttp, a number for port, addresses for ipv4hint and ipv6hint, base64 for ech, a template for dohpath. None where
-- the value isn't as the key wants it, and for other keys.
abbrev pub value_of_key : ℕ → List ℕ → Option (List ℕ)
value_of_key key v =
    cond (nat_eq key 0) (list_value Keys v)
    (cond (nat_eq key 1) (list_value Protocols v)
    (cond (nat_eq key 2) (no_value v)
    (cond (nat_eq key 3) (number_value v)
    (cond (nat_eq key 4) (list_value Ipv4Hints v)
    (cond (nat_eq key 5) (base64_value v)
    (cond (nat_eq key 6) (list_value Ipv6Hints v)
    (cond (nat_eq key 7) (plain_value v)
    (cond (nat_eq key 8) (no_value v) None))))))))

-- a parameter by its mnemonic, or by the number of its key and the octets of its value
abbrev pub either_text : ℕ × List ℕ → Option (List ℕ) → List ℕ
either_text p (Some text) = key_text p.0 ++ text
either_text p None = codes "key" ++ (decimal p.0 ++ octets_value p.1)
