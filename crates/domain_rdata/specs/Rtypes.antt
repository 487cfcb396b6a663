-- What contracts see of the type of a record: its number.
use Rattle.std.specs.Prelude.{ℕ, Bool, nat_eq, List, [], ◌∷◌}
use Rattle.std.specs.List.{list_any}
use Rattle.domain_rdata.specs.declared.rtype.Rtype.{Rtype}

-- the 16 bits of the type (RFC 1035, 3.2.2)
abbrev pub rtype_number : Rtype → ℕ
rtype_number rtype = rtype.0

-- The types whose names are in lowercase in the canonical form (RFC 4034, 6.2, without NSEC and HINFO: RFC 6840, 5.1).
-- The types of RFC 1035 among them are NS, CNAME, SOA, PTR, MX, MINFO, MB, MD, MF, MG and MR. The later types among
-- them are SRV, DNAME, KX, NAPTR, RP, AFSDB, RT, PX, A6, RRSIG, SIG and NXT.
abbrev pub lowercase_types : List ℕ
lowercase_types = 2 ∷ 3 ∷ 4 ∷ 5 ∷ 6 ∷ 7 ∷ 8 ∷ 9 ∷ 12 ∷ 14 ∷ 15 ∷ 17 ∷ 18 ∷ 21 ∷ 24 ∷ 26 ∷ 30 ∷ 33 ∷ 35 ∷ 36 ∷ 38 ∷ 39 ∷ 46 ∷ []

-- whether the type with this number is one of them
abbrev pub has_lowercase_names : ℕ → Bool
has_lowercase_names t = list_any (λ n. nat_eq n t) lowercase_types
