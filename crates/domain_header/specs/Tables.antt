-- The mnemonics of classes and codes, and how these are written: by their mnemonics, or by a word and the number.
use Rattle.std.specs.Prelude.{ℕ, ◌++◌, List, [], ◌∷◌, codes, unwrap_or}
use Rattle.std.specs.Fmt.{decimal}
use Rattle.domain_header.specs.Mnemonics.{Row, mnemonic, word_of}

-- classes (RFC 1035, 3.2.4 and 3.2.5; `NONE` and `ANY` RFC 2136, 2.4). These rows, like those of the codes below, are
-- those of the program once more: no definition tells what IANA registered. The rows of `conformance_messages` do, and
-- `evidence/compare/registries` compares both with a copy of the registry.
abbrev pub class_rows : List Row
class_rows = mnemonic 1 (codes "IN") ∷ mnemonic 3 (codes "CH") ∷ mnemonic 4 (codes "HS") ∷ mnemonic 254 (codes "NONE") ∷ mnemonic 255 (codes "ANY") ∷ mnemonic 255 (codes "*") ∷ []

-- kinds of query (RFC 1035, 4.1.1; `NOTIFY` RFC 1996, `UPDATE` RFC 2136, `DSO` RFC 8490)
abbrev pub opcode_rows : List Row
opcode_rows = mnemonic 0 (codes "QUERY") ∷ mnemonic 1 (codes "IQUERY") ∷ mnemonic 2 (codes "STATUS") ∷ mnemonic 4 (codes "NOTIFY") ∷ mnemonic 5 (codes "UPDATE") ∷ mnemonic 6 (codes "DSO") ∷ []

-- response codes (RFC 1035, 4.1.1; from 6 on RFC 2136, 2.2; `DSOTYPENI` RFC 8490, 10.3)
abbrev pub rcode_rows : List Row
rcode_rows = mnemonic 0 (codes "NOERROR") ∷ mnemonic 1 (codes "FORMERR") ∷ mnemonic 2 (codes "SERVFAIL") ∷ mnemonic 3 (codes "NXDOMAIN") ∷ mnemonic 4 (codes "NOTIMP") ∷ mnemonic 5 (codes "REFUSED")
    ∷ mnemonic 6 (codes "YXDOMAIN") ∷ mnemonic 7 (codes "YXRRSET") ∷ mnemonic 8 (codes "NXRRSET") ∷ mnemonic 9 (codes "NOTAUTH") ∷ mnemonic 10 (codes "NOTZONE")
    ∷ mnemonic 11 (codes "DSOTYPENI") ∷ []

-- Response codes, those past four bits too (RFC 6891, 6.1.3; `BADVERS` section 9, `BADCOOKIE` RFC 7873, 8).
abbrev pub response_rows : List Row
response_rows = rcode_rows ++ mnemonic 16 (codes "BADVERS") ∷ mnemonic 23 (codes "BADCOOKIE") ∷ []

-- the mnemonic of the number n, or this word and the number
abbrev pub text_of : List Row → List ℕ → ℕ → List ℕ
text_of rows word n = unwrap_or (word_of rows n) (word ++ decimal n)

-- `CLASS` and the number where there is no mnemonic (RFC 3597, 5)
abbrev pub class_text : ℕ → List ℕ
class_text n = text_of class_rows (codes "CLASS") n

-- `OPCODE` and the number where there is no mnemonic
abbrev pub opcode_text : ℕ → List ℕ
opcode_text n = text_of opcode_rows (codes "OPCODE") n

-- `RCODE` and the number where there is no mnemonic
abbrev pub rcode_text : ℕ → List ℕ
rcode_text n = text_of rcode_rows (codes "RCODE") n

-- The mnemonic of a response code, those past four bits too, or `RCODE` and the number where there is none.
abbrev pub response_text : ℕ → List ℕ
response_text n = text_of response_rows (codes "RCODE") n
