-- What is composed for a field is read back as the very same, and so are fields one after the other.
use Rattle.std.specs.Prelude.{◌≡◌, ℕ, ◌+◌, ◌<◌, ◌^◌, Bool, List, ◌++◌, length, refl}
use Rattle.std.specs.Int.{w8, w16, w32, from_be_bytes, to_be_bytes}
use Rattle.std.proofs.Common.{arith, sym, subst}
use Rattle.std.proofs.lemmas.Nat.{from_be_bytes-to_be_bytes_2, from_be_bytes-to_be_bytes_4}
use Rattle.domain_label.specs.Wire.{wire, IsAbsoluteName}
use Rattle.domain_reading.specs.Grammar.{root}
use Rattle.domain_reading.specs.Limits.{max_pointers}
use Rattle.domain_reading.proofs.Reading.{names_within}
use Rattle.domain_reading.proofs.UncompressedIsRead.{plain_names, plain_front}
use Rattle.domain_rdata.specs.RecordData.{NameOctets}
use Rattle.domain_wire.specs.Addresses.{exactly_len, exactly_whole, ipv4_octets, ipv4_of, ipv6_octets, ipv6_of}
use Rattle.domain_wire.specs.Values.{FixedAt}
use Rattle.domain_wire.specs.declared.net.Ipv4Addr.{Ipv4Addr}
use Rattle.domain_wire.specs.declared.net.Ipv6Addr.{Ipv6Addr}
use Rattle.domain_fields.specs.Names.{NameFieldAt}
use Rattle.domain_fields.specs.ReadBack.{IsReadBack, IsReadBackWhole, fixed_read_back, name_read_back, last_read_back, both_last_read_back}
use Rattle.domain_fields.specs.Sequences.{BothComposed, BothAt}
use Rattle.domain_data_laws.specs.SameData.{IgnoringCase, WithCase}

number8 : (n : ℕ) → n < 2 ^ 8 → IsReadBack (λ _ _ s. s ≡ to_be_bytes w8 n) (FixedAt 1 (from_be_bytes w8)) (λ seen. seen ≡ n)
number8 n fits = fixed_read_back 1 (from_be_bytes w8) (to_be_bytes w8 n) (λ seen. seen ≡ n) refl (omega (arith, fits))

number16 : (n : ℕ) → n < 2 ^ 16 → IsReadBack (λ _ _ s. s ≡ to_be_bytes w16 n) (FixedAt 2 (from_be_bytes w16)) (λ seen. seen ≡ n)
number16 n fits = fixed_read_back 2 (from_be_bytes w16) (to_be_bytes w16 n) (λ seen. seen ≡ n) refl (from_be_bytes-to_be_bytes_2 n fits)

number32 : (n : ℕ) → n < 2 ^ 32 → IsReadBack (λ _ _ s. s ≡ to_be_bytes w32 n) (FixedAt 4 (from_be_bytes w32)) (λ seen. seen ≡ n)
number32 n fits = fixed_read_back 4 (from_be_bytes w32) (to_be_bytes w32 n) (λ seen. seen ≡ n) refl (from_be_bytes-to_be_bytes_4 n fits)

-- a name that is never compressed keeps its case
whole_name : (ls : List (List ℕ)) → IsAbsoluteName ls → IsReadBack (λ _ _ s. s ≡ wire ls) NameFieldAt (WithCase ls)
whole_name ls name compresses t s u same =
    let front = plain_front t u ls name in
    let stands : NameFieldAt (t ++ wire ls ++ u) (length t) ls (length t + length (wire ls)) = record { named = names_within max_pointers (plain_names t u ls name) (omega arith); front = (front.0, root, front.1) } in
    (ls, subst (λ o. NameFieldAt (t ++ o ++ u) (length t) ls (length t + length o)) (sym same) stands, refl)

-- the last field
pub last_number32 : (n : ℕ) → n < 2 ^ 32 → IsReadBackWhole (λ _ _ s. s ≡ to_be_bytes w32 n) (FixedAt 4 (from_be_bytes w32)) (λ seen. seen ≡ n)
last_number32 n fits = last_read_back _ (FixedAt 4 (from_be_bytes w32)) _ (number32 n fits)

pub last_ipv4 : (it : Ipv4Addr) → IsReadBackWhole (λ _ _ s. s ≡ ipv4_octets it) (FixedAt 4 ipv4_of) (λ seen. ipv4_octets seen ≡ ipv4_octets it)
last_ipv4 it =
    last_read_back _ (FixedAt 4 ipv4_of) _
    (fixed_read_back 4 ipv4_of (ipv4_octets it) (λ seen. ipv4_octets seen ≡ ipv4_octets it) (exactly_len 4 it.octets) (exactly_whole 4 (ipv4_octets it) (exactly_len 4 it.octets)))

pub last_ipv6 : (it : Ipv6Addr) → IsReadBackWhole (λ _ _ s. s ≡ ipv6_octets it) (FixedAt 16 ipv6_of) (λ seen. ipv6_octets seen ≡ ipv6_octets it)
last_ipv6 it =
    last_read_back _ (FixedAt 16 ipv6_of) _
    (fixed_read_back 16 ipv6_of (ipv6_octets it) (λ seen. ipv6_octets seen ≡ ipv6_octets it) (exactly_len 16 it.octets) (exactly_whole 16 (ipv6_octets it) (exactly_len 16 it.octets)))

pub last_name : (ls : List (List ℕ)) → IsReadBackWhole (NameOctets ls) NameFieldAt (IgnoringCase ls)
last_name ls = last_read_back _ NameFieldAt _ (name_read_back ls)

pub last_whole_name : (ls : List (List ℕ)) → IsAbsoluteName ls → IsReadBackWhole (λ _ _ s. s ≡ wire ls) NameFieldAt (WithCase ls)
last_whole_name ls name = last_read_back _ NameFieldAt _ (whole_name ls name)

-- a field before others
pub number8_before : {B : Type 0} (Rest : Bool → List ℕ → List ℕ → Type 0) (RestAt : List ℕ → ℕ → B → ℕ → Type 0) (Like : B → Type 0) (n : ℕ) → n < 2 ^ 8 → IsReadBackWhole Rest RestAt Like
    → IsReadBackWhole (λ c. BothComposed (λ t s. s ≡ to_be_bytes w8 n) (Rest c)) (BothAt (FixedAt 1 (from_be_bytes w8)) RestAt) (λ it. (it.0 ≡ n) × Like it.1)
number8_before Rest RestAt Like n fits rest = both_last_read_back (λ _ _ s. s ≡ to_be_bytes w8 n) Rest (FixedAt 1 (from_be_bytes w8)) RestAt (λ seen. seen ≡ n) Like (number8 n fits) rest

pub number16_before : {B : Type 0} (Rest : Bool → List ℕ → List ℕ → Type 0) (RestAt : List ℕ → ℕ → B → ℕ → Type 0) (Like : B → Type 0) (n : ℕ) → n < 2 ^ 16 → IsReadBackWhole Rest RestAt Like
    → IsReadBackWhole (λ c. BothComposed (λ t s. s ≡ to_be_bytes w16 n) (Rest c)) (BothAt (FixedAt 2 (from_be_bytes w16)) RestAt) (λ it. (it.0 ≡ n) × Like it.1)
number16_before Rest RestAt Like n fits rest = both_last_read_back (λ _ _ s. s ≡ to_be_bytes w16 n) Rest (FixedAt 2 (from_be_bytes w16)) RestAt (λ seen. seen ≡ n) Like (number16 n fits) rest

pub number32_before : {B : Type 0} (Rest : Bool → List ℕ → List ℕ → Type 0) (RestAt : List ℕ → ℕ → B → ℕ → Type 0) (Like : B → Type 0) (n : ℕ) → n < 2 ^ 32 → IsReadBackWhole Rest RestAt Like
    → IsReadBackWhole (λ c. BothComposed (λ t s. s ≡ to_be_bytes w32 n) (Rest c)) (BothAt (FixedAt 4 (from_be_bytes w32)) RestAt) (λ it. (it.0 ≡ n) × Like it.1)
number32_before Rest RestAt Like n fits rest = both_last_read_back (λ _ _ s. s ≡ to_be_bytes w32 n) Rest (FixedAt 4 (from_be_bytes w32)) RestAt (λ seen. seen ≡ n) Like (number32 n fits) rest

pub name_before : {B : Type 0} (Rest : Bool → List ℕ → List ℕ → Type 0) (RestAt : List ℕ → ℕ → B → ℕ → Type 0) (Like : B → Type 0) (ls : List (List ℕ)) → IsReadBackWhole Rest RestAt Like
    → IsReadBackWhole (λ c. BothComposed (NameOctets ls c) (Rest c)) (BothAt NameFieldAt RestAt) (λ it. IgnoringCase ls it.0 × Like it.1)
name_before Rest RestAt Like ls rest = both_last_read_back (NameOctets ls) Rest NameFieldAt RestAt (IgnoringCase ls) Like (name_read_back ls) rest

pub whole_name_before : {B : Type 0} (Rest : Bool → List ℕ → List ℕ → Type 0) (RestAt : List ℕ → ℕ → B → ℕ → Type 0) (Like : B → Type 0) (ls : List (List ℕ)) → IsAbsoluteName ls → IsReadBackWhole Rest RestAt Like
    → IsReadBackWhole (λ c. BothComposed (λ t s. s ≡ wire ls) (Rest c)) (BothAt NameFieldAt RestAt) (λ it. WithCase ls it.0 × Like it.1)
whole_name_before Rest RestAt Like ls name rest = both_last_read_back (λ _ _ s. s ≡ wire ls) Rest NameFieldAt RestAt (WithCase ls) Like (whole_name ls name) rest

-- octets that are the same wherever they stand, as those of a string or a tag
pub octets_before : {A B : Type 0} (octets : List ℕ) (FirstAt : List ℕ → ℕ → A → ℕ → Type 0) (LikeFirst : A → Type 0) (Rest : Bool → List ℕ → List ℕ → Type 0) (RestAt : List ℕ → ℕ → B → ℕ → Type 0) (Like : B → Type 0) → IsReadBack (λ _ _ s. s ≡ octets) FirstAt LikeFirst → IsReadBackWhole Rest RestAt Like
    → IsReadBackWhole (λ c. BothComposed (λ t s. s ≡ octets) (Rest c)) (BothAt FirstAt RestAt) (λ it. LikeFirst it.0 × Like it.1)
octets_before octets FirstAt LikeFirst Rest RestAt Like first rest = both_last_read_back (λ _ _ s. s ≡ octets) Rest FirstAt RestAt LikeFirst Like first rest
