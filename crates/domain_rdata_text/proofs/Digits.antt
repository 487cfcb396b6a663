-- Octets in hexadecimal digits are read back.
use Rattle.std.proofs.Common.{◌≡◌, ℕ, ◌+◌, ◌*◌, ◌/◌, ◌%◌, ◌<◌, true, ◌==◌, List, [], ◌∷◌, ◌++◌, Some, None, refl, sym, ap, ◌∙◌, append_assoc, append-nil}
use Rattle.std.proofs.lemmas.Bool.{agree_below_at, cond-true, eqb-true}
use Rattle.domain_rdata_text.specs.declared.words.Mode.TheVariants.{Bare}
use Rattle.domain_rdata_text.specs.declared.hex.Half.TheVariants.{Even, High}
use Rattle.domain_rdata_text.specs.Hex.{hex_digit, hex_octet, hex_text, is_hex, hex_value, hex_from}
use Rattle.domain_rdata_text.specs.Laws.{AreOctets}
use Rattle.domain_rdata_text.proofs.Tables.{is_bare}
use Rattle.domain_rdata_text.proofs.Splitting.{Stays, stays_append, stays_each, bare_one}

high_hex : (c : ℕ) → c < 256 → is_hex (hex_digit (c / 16)) ≡ true
high_hex c h = agree_below_at (λ n. is_hex (hex_digit (n / 16))) (λ n. true) 256 c refl h

low_hex : (c : ℕ) → c < 256 → is_hex (hex_digit (c % 16)) ≡ true
low_hex c h = agree_below_at (λ n. is_hex (hex_digit (n % 16))) (λ n. true) 256 c refl h

hex_is : (c : ℕ) → c < 256 → hex_value (hex_digit (c / 16)) * 16 + hex_value (hex_digit (c % 16)) ≡ c
hex_is c h = eqb-true (hex_value (hex_digit (c / 16)) * 16 + hex_value (hex_digit (c % 16))) c
    (agree_below_at (λ n. hex_value (hex_digit (n / 16)) * 16 + hex_value (hex_digit (n % 16)) == n) (λ n. true) 256 c refl h)

high_bare : (c : ℕ) → c < 256 → is_bare (hex_digit (c / 16)) ≡ true
high_bare c h = agree_below_at (λ n. is_bare (hex_digit (n / 16))) (λ n. true) 256 c refl h

low_bare : (c : ℕ) → c < 256 → is_bare (hex_digit (c % 16)) ≡ true
low_bare c h = agree_below_at (λ n. is_bare (hex_digit (n % 16))) (λ n. true) 256 c refl h

hex_octet_back : (c : ℕ) → c < 256 → (os rest : List ℕ) → hex_from os Even (hex_octet c ++ rest) ≡ hex_from (os ++ c ∷ []) Even rest
hex_octet_back c h os rest =
    let a = hex_digit (c / 16) in
    let b = hex_digit (c % 16) in
    cond-true (is_hex a) (hex_from os (High (hex_value a)) (b ∷ rest)) None (high_hex c h)
    ∙ (cond-true (is_hex b) (hex_from (os ++ (hex_value a * 16 + hex_value b) ∷ []) Even rest) None (low_hex c h)
    ∙ ap (λ (x : ℕ). hex_from (os ++ x ∷ []) Even rest) (hex_is c h))

pub hex_back : (os : List ℕ) → AreOctets os → (ks : List ℕ) → hex_from ks Even (hex_text os) ≡ Some (ks ++ os)
hex_back [] b ks = ap Some (sym (append-nil ks))
hex_back (c ∷ os) b ks = hex_octet_back c b.0 ks (hex_text os) ∙ (hex_back os b.1 (ks ++ c ∷ []) ∙ ap Some (append_assoc ks (c ∷ []) os))

bare_hex_octet : (c : ℕ) → c < 256 → Stays Bare (hex_octet c)
bare_hex_octet c h = stays_append Bare (hex_digit (c / 16) ∷ []) (hex_digit (c % 16) ∷ []) (bare_one (hex_digit (c / 16)) (high_bare c h)) (bare_one (hex_digit (c % 16)) (low_bare c h))

pub bare_hex : (os : List ℕ) → AreOctets os → Stays Bare (hex_text os)
bare_hex os b = stays_each Bare hex_octet bare_hex_octet os b
