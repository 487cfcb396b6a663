-- What is shown is read back.
use Rattle.std.specs.Prelude.{◌≡◌, ℕ, ◌<◌, ◌≤◌, List, length, Option, None, Some, Ok}
use Rattle.std.specs.List.{AllByRecursion}
use Rattle.domain_descriptor.specs.declared.kind.FieldKind.{FieldKind}
use Rattle.domain_label.specs.Wire.{IsAbsoluteWire}
use Rattle.domain_rdata_text.specs.Bitmaps.{has_type, bitmaps_of, types_of_bitmaps}
use Rattle.domain_rdata_text.specs.Names.{read_name}
use Rattle.domain_rdata_text.specs.Texts.{data_text, text_octets_with, IsPlain}
use Rattle.domain_rdata_text.specs.Values.{Val, vals_octets, ValuesAt}

-- all are octets
abbrev pub AreOctets : List ℕ → Type 0
AreOctets s = AllByRecursion (λ c. c < 256) s

-- What the fields of data hold, of at most 65,535 octets, is written as a text that says the same octets, with any
-- origin and without one.
abbrev pub AreReadBack : List FieldKind → List ℕ → ℕ → List Val → ℕ → Type 0
AreReadBack kinds m p vs e =
    AreOctets m → ValuesAt kinds m p vs e → length (vals_octets vs) ≤ 65535
    → (origin : Option (List ℕ)) → text_octets_with origin kinds (data_text vs) ≡ Ok (vals_octets vs)

-- What the fields of data hold has octets that are data with these fields, and no name in it is compressed.
abbrev pub ArePlain : List FieldKind → List ℕ → ℕ → List Val → ℕ → Type 0
ArePlain kinds m p vs e = AreOctets m → p ≤ length m → ValuesAt kinds m p vs e → IsPlain kinds (vals_octets vs)

-- In the bitmaps of types some are found, and they are the same types, in whatever order.
abbrev pub AreFound : List ℕ → Type 0
AreFound ts = (us : List ℕ) × (types_of_bitmaps (bitmaps_of ts) ≡ Some us) × ((t : ℕ) → has_type t us ≡ has_type t ts)

-- The origin is in wire format (RFC 1035, 3.1), if there is one.
abbrev pub IsOrigin : Option (List ℕ) → Type 0
IsOrigin None = Unit {0}
IsOrigin (Some os) = IsAbsoluteWire os

-- Each name that a word is, is in wire format, if the origin is.
abbrev pub IsNamed : Option (List ℕ) → List ℕ → Type 0
IsNamed origin word = IsOrigin origin → (os : List ℕ) → read_name origin word ≡ Some os → IsAbsoluteWire os
