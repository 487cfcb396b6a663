-- The mnemonics of types of records, and how types are written.
use Rattle.std.specs.Prelude.{ℕ, List, [], ◌∷◌, codes}
use Rattle.domain_header.specs.Mnemonics.{Row, mnemonic}
use Rattle.domain_header.specs.Tables.{text_of}

-- types (RFC 1035, 3.2.2 and 3.2.3; the others as IANA registered them). These rows are those of the program once
-- more; the rows of `conformance_messages` test them, and `evidence/compare/registries` compares both with a copy of
-- the registry.
abbrev pub rtype_rows : List Row
rtype_rows = mnemonic 1 (codes "A") ∷ mnemonic 2 (codes "NS") ∷ mnemonic 3 (codes "MD") ∷ mnemonic 4 (codes "MF")
    ∷ mnemonic 5 (codes "CNAME") ∷ mnemonic 6 (codes "SOA") ∷ mnemonic 7 (codes "MB") ∷ mnemonic 8 (codes "MG")
    ∷ mnemonic 9 (codes "MR") ∷ mnemonic 10 (codes "NULL") ∷ mnemonic 11 (codes "WKS") ∷ mnemonic 12 (codes "PTR")
    ∷ mnemonic 13 (codes "HINFO") ∷ mnemonic 14 (codes "MINFO") ∷ mnemonic 15 (codes "MX")
    ∷ mnemonic 16 (codes "TXT") ∷ mnemonic 17 (codes "RP") ∷ mnemonic 18 (codes "AFSDB") ∷ mnemonic 19 (codes "X25")
    ∷ mnemonic 20 (codes "ISDN") ∷ mnemonic 21 (codes "RT") ∷ mnemonic 22 (codes "NSAP")
    ∷ mnemonic 23 (codes "NSAP-PTR") ∷ mnemonic 24 (codes "SIG") ∷ mnemonic 25 (codes "KEY")
    ∷ mnemonic 26 (codes "PX") ∷ mnemonic 27 (codes "GPOS") ∷ mnemonic 28 (codes "AAAA") ∷ mnemonic 29 (codes "LOC")
    ∷ mnemonic 30 (codes "NXT") ∷ mnemonic 31 (codes "EID") ∷ mnemonic 32 (codes "NIMLOC")
    ∷ mnemonic 33 (codes "SRV") ∷ mnemonic 34 (codes "ATMA") ∷ mnemonic 35 (codes "NAPTR")
    ∷ mnemonic 36 (codes "KX") ∷ mnemonic 37 (codes "CERT") ∷ mnemonic 38 (codes "A6") ∷ mnemonic 39 (codes "DNAME")
    ∷ mnemonic 40 (codes "SINK") ∷ mnemonic 41 (codes "OPT") ∷ mnemonic 42 (codes "APL") ∷ mnemonic 43 (codes "DS")
    ∷ mnemonic 44 (codes "SSHFP") ∷ mnemonic 45 (codes "IPSECKEY") ∷ mnemonic 46 (codes "RRSIG")
    ∷ mnemonic 47 (codes "NSEC") ∷ mnemonic 48 (codes "DNSKEY") ∷ mnemonic 49 (codes "DHCID")
    ∷ mnemonic 50 (codes "NSEC3") ∷ mnemonic 51 (codes "NSEC3PARAM") ∷ mnemonic 52 (codes "TLSA")
    ∷ mnemonic 53 (codes "SMIMEA") ∷ mnemonic 55 (codes "HIP") ∷ mnemonic 56 (codes "NINFO")
    ∷ mnemonic 57 (codes "RKEY") ∷ mnemonic 58 (codes "TALINK") ∷ mnemonic 59 (codes "CDS")
    ∷ mnemonic 60 (codes "CDNSKEY") ∷ mnemonic 61 (codes "OPENPGPKEY") ∷ mnemonic 62 (codes "CSYNC")
    ∷ mnemonic 63 (codes "ZONEMD") ∷ mnemonic 64 (codes "SVCB") ∷ mnemonic 65 (codes "HTTPS")
    ∷ mnemonic 66 (codes "DSYNC") ∷ mnemonic 67 (codes "HHIT") ∷ mnemonic 68 (codes "BRID")
    ∷ mnemonic 99 (codes "SPF") ∷ mnemonic 100 (codes "UINFO") ∷ mnemonic 101 (codes "UID")
    ∷ mnemonic 102 (codes "GID") ∷ mnemonic 103 (codes "UNSPEC") ∷ mnemonic 104 (codes "NID")
    ∷ mnemonic 105 (codes "L32") ∷ mnemonic 106 (codes "L64") ∷ mnemonic 107 (codes "LP")
    ∷ mnemonic 108 (codes "EUI48") ∷ mnemonic 109 (codes "EUI64") ∷ mnemonic 128 (codes "NXNAME") ∷ mnemonic 249 (codes "TKEY")
    ∷ mnemonic 250 (codes "TSIG") ∷ mnemonic 251 (codes "IXFR") ∷ mnemonic 252 (codes "AXFR")
    ∷ mnemonic 253 (codes "MAILB") ∷ mnemonic 254 (codes "MAILA") ∷ mnemonic 255 (codes "ANY")
    ∷ mnemonic 255 (codes "*")
    ∷ mnemonic 256 (codes "URI") ∷ mnemonic 257 (codes "CAA") ∷ mnemonic 258 (codes "AVC")
    ∷ mnemonic 259 (codes "DOA") ∷ mnemonic 260 (codes "AMTRELAY") ∷ mnemonic 261 (codes "RESINFO")
    ∷ mnemonic 262 (codes "WALLET") ∷ mnemonic 263 (codes "CLA") ∷ mnemonic 264 (codes "IPN")
    ∷ mnemonic 32768 (codes "TA")
    ∷ mnemonic 32769 (codes "DLV") ∷ []

-- `TYPE` and the number where there is no mnemonic (RFC 3597, 5)
abbrev pub rtype_text : ℕ → List ℕ
rtype_text n = text_of rtype_rows (codes "TYPE") n
