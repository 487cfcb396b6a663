-- Octets in base64 are read back.
use Rattle.std.proofs.Common.{◌≡◌, ℕ, zero, suc, ◌+◌, ◌*◌, ◌/◌, ◌%◌, ◌<◌, true, false, ◌==◌, List, [], ◌∷◌, ◌++◌, length, replicate, get_or, Some, None, Result, Ok, Err, refl, ap, arith}
use Rattle.std.specs.Result.{result_ok}
use Rattle.std.proofs.lemmas.Bool.{agree_below_at}
use Rattle.base64.proofs.EngineFacts.{decode_of-encode_of}
use Rattle.base64.specs.declared.decode.DecodeError.{DecodeError}
use Rattle.base64.specs.Engines.{standard}
use Rattle.base64.specs.GeneralPurpose.{engine_symbols, decode_of}
use Rattle.base64.specs.Rfc4648.{encode_symbols, padding_len}
use Rattle.domain_rdata_text.specs.declared.words.Mode.TheVariants.{Bare}
use Rattle.domain_rdata_text.specs.Base64.{base64_text, read_base64}
use Rattle.domain_rdata_text.specs.Laws.{AreOctets}
use Rattle.domain_rdata_text.proofs.Splitting.{Stays, stays_nil, stays_append, bare_one}
use Rattle.domain_rdata_text.proofs.Tables.{is_bare}

each_octet : (s : List ℕ) → AreOctets s → (k : ℕ) → get_or s k 0 < 256
each_octet [] h k = omega arith
each_octet (c ∷ s) h zero = h.0
each_octet (c ∷ s) h (suc k) = each_octet s h.1 k

pub base64_back : (os : List ℕ) → AreOctets os → read_base64 (base64_text os) ≡ Some os
unfolding read_base64 base64_text
base64_back os b = ap (λ (x : Result (List ℕ) DecodeError). result_ok x) (decode_of-encode_of standard os refl (each_octet os b))

-- what was decoded, and what wasn't
pub was_decoded : (text os : List ℕ) → decode_of standard text ≡ Ok os → read_base64 text ≡ Some os
unfolding read_base64
was_decoded text os e = ap (λ (x : Result (List ℕ) DecodeError). result_ok x) e

pub was_refused : (text : List ℕ) (why : DecodeError) → decode_of standard text ≡ Err why → read_base64 text ≡ None
unfolding read_base64
was_refused text why e = ap (λ (x : Result (List ℕ) DecodeError). result_ok x) e

-- ---- it is a word, and no mark
abbrev symbols : List ℕ
symbols = engine_symbols standard

abbrev symbol : ℕ → ℕ
symbol n = get_or symbols n 0

symbol_bare : (n : ℕ) → n < 64 → Stays Bare (symbol n ∷ [])
symbol_bare n h = bare_one (symbol n) (agree_below_at (λ k. is_bare (symbol k)) (λ k. true) 64 n refl h)

symbol_plain : (n : ℕ) → n < 64 → (symbol n == 92) ≡ false
symbol_plain n h = agree_below_at (λ k. symbol k == 92) (λ k. false) 64 n refl h

two_bare : (i j : ℕ) → i < 64 → j < 64 → Stays Bare (symbol i ∷ symbol j ∷ [])
two_bare i j hi hj = stays_append Bare (symbol i ∷ []) (symbol j ∷ []) (symbol_bare i hi) (symbol_bare j hj)

three_bare : (i j k : ℕ) → i < 64 → j < 64 → k < 64 → Stays Bare (symbol i ∷ symbol j ∷ symbol k ∷ [])
three_bare i j k hi hj hk = stays_append Bare (symbol i ∷ []) (symbol j ∷ symbol k ∷ []) (symbol_bare i hi) (two_bare j k hj hk)

four_bare : (i j k l : ℕ) → i < 64 → j < 64 → k < 64 → l < 64 → Stays Bare (symbol i ∷ symbol j ∷ symbol k ∷ symbol l ∷ [])
four_bare i j k l hi hj hk hl = stays_append Bare (symbol i ∷ []) (symbol j ∷ symbol k ∷ symbol l ∷ []) (symbol_bare i hi) (three_bare j k l hj hk hl)

symbols_bare : (os : List ℕ) → AreOctets os → Stays Bare (encode_symbols symbols os)
unfolding encode_symbols
symbols_bare [] h = stays_nil Bare
symbols_bare (a ∷ []) h = two_bare (a / 4) (a % 4 * 16) (omega (arith, h.0)) (omega arith)
symbols_bare (a ∷ b ∷ []) h = three_bare (a / 4) (a % 4 * 16 + b / 16) (b % 16 * 4) (omega (arith, h.0)) (omega (arith, h.1.0)) (omega arith)
symbols_bare (a ∷ b ∷ c ∷ rest) h =
    stays_append Bare (symbol (a / 4) ∷ symbol (a % 4 * 16 + b / 16) ∷ symbol (b % 16 * 4 + c / 64) ∷ symbol (c % 64) ∷ []) (encode_symbols symbols rest)
    (four_bare (a / 4) (a % 4 * 16 + b / 16) (b % 16 * 4 + c / 64) (c % 64) (omega (arith, h.0)) (omega (arith, h.1.0)) (omega (arith, h.1.1.0)) (omega arith))
    (symbols_bare rest h.1.1.1)

padding_bare : (n : ℕ) → Stays Bare (replicate n 61)
padding_bare zero = stays_nil Bare
padding_bare (suc n) = stays_append Bare (61 ∷ []) (replicate n 61) (bare_one 61 refl) (padding_bare n)

pub bare_base64 : (os : List ℕ) → AreOctets os → Stays Bare (base64_text os)
unfolding base64_text
bare_base64 os h = stays_append Bare (encode_symbols symbols os) (replicate (padding_len (length os)) 61) (symbols_bare os h) (padding_bare (padding_len (length os)))

-- it begins with a symbol
abbrev pub BeginsSymbol : List ℕ → Type 0
BeginsSymbol u = (c : ℕ) × (v : List ℕ) × (u ≡ c ∷ v) × ((c == 92) ≡ false)

symbols_begin : (a : ℕ) (os w : List ℕ) → a < 256 → BeginsSymbol (encode_symbols symbols (a ∷ os) ++ w)
unfolding encode_symbols
symbols_begin a [] w h = (symbol (a / 4), symbol (a % 4 * 16) ∷ w, refl, symbol_plain (a / 4) (omega (arith, h)))
symbols_begin a (b ∷ []) w h = (symbol (a / 4), symbol (a % 4 * 16 + b / 16) ∷ symbol (b % 16 * 4) ∷ w, refl, symbol_plain (a / 4) (omega (arith, h)))
symbols_begin a (b ∷ c ∷ rest) w h =
    (symbol (a / 4), symbol (a % 4 * 16 + b / 16) ∷ symbol (b % 16 * 4 + c / 64) ∷ symbol (c % 64) ∷ (encode_symbols symbols rest ++ w), refl, symbol_plain (a / 4) (omega (arith, h)))

pub base64_begins : (a : ℕ) (os : List ℕ) → a < 256 → BeginsSymbol (base64_text (a ∷ os))
unfolding base64_text
base64_begins a os h = symbols_begin a os (replicate (padding_len (length (a ∷ os))) 61) h

pub base64_some : (a : ℕ) (os : List ℕ) → a < 256 → 0 < length (base64_text (a ∷ os))
base64_some a os h =
    let s = base64_begins a os h in
    omega (arith, ap (λ (x : List ℕ). length x) s.2)
