-- The octets of a number are read back as the number.
use Rattle.std.proofs.Common.{◌≡◌, ℕ, zero, suc, ◌+◌, ◌-◌, ◌*◌, ◌/◌, ◌%◌, ◌^◌, ◌<◌, slice_index, refl, ap, sym, ◌∙◌, add_assoc, arith, Fits, lit<}
use Rattle.std.proofs.Math.Facts.{Fits-of_z, Fits-lt-pow}
use Rattle.std.specs.Int.{Width, w8, w16, w32, w64, w128, bytes_high_first, byte_at, byte_worth, byte_len, sum_through, cast_unsigned, cast_signed}
use Rattle.std.proofs.Math.Nat.{mod-eq_of_lt, pow-succ', suc-sub-suc, sub-zero}
use Rattle.std.proofs.Math.Arith.{mod-mul}
use Rattle.std.proofs.lemmas.Int.{to_z-of_z}
use Rattle.domain_wire.specs.Numbers.{UnsignedReadBack, SignedReadBack}

-- a sum, its first part first
sum_through-front : (f : ℕ → ℕ) (k : ℕ) → sum_through f (suc k) ≡ f 0 + sum_through (λ i. f (suc i)) k
sum_through-front f zero = refl
sum_through-front f (suc k) = ap (λ s. s + f (suc (suc k))) (sum_through-front f k) ∙ add_assoc (f 0) (sum_through (λ i. f (suc i)) k) (f (suc (suc k)))

sum_through-same : (f g : ℕ → ℕ) → ((i : ℕ) → f i ≡ g i) → (k : ℕ) → sum_through f k ≡ sum_through g k
sum_through-same f g same zero = same 0
sum_through-same f g same (suc k) = λ j. sum_through-same f g same k j + same (suc k) j

power_positive : (k : ℕ) → 0 < 256 ^ k
power_positive zero = lit< tt
power_positive (suc k) = let step = pow-succ' 256 k in let below = power_positive k in omega arith

-- the lowest octets of n, the high one first, are n's remainder
octets_read_back : (k n : ℕ) → sum_through (λ i. byte_worth (k - i) (slice_index (bytes_high_first (suc k) n) i)) k ≡ n % 256 ^ suc k
octets_read_back zero n = refl
octets_read_back (suc k) n =
    let worth : ℕ → ℕ = λ i. byte_worth (suc k - i) (slice_index (bytes_high_first (suc (suc k)) n) i) in
    let lower : ℕ → ℕ = λ i. byte_worth (k - i) (slice_index (bytes_high_first (suc k) n) i) in
    let highest : worth 0 ≡ (n / 256 ^ suc k % 256) * 256 ^ suc k = ap (λ j. byte_worth j (byte_at (suc k) n)) (sub-zero (suc k)) in
    let others : (i : ℕ) → worth (suc i) ≡ lower i = λ i. ap (λ j. byte_worth j (slice_index (bytes_high_first (suc k) n) i)) (suc-sub-suc k i) in
    sum_through-front worth k ∙ (λ j. highest j + (sum_through-same (λ i. worth (suc i)) lower others k ∙ octets_read_back k n) j)
    ∙ sym (mod-mul n (lit< tt) (power_positive (suc k))) ∙ ap (λ m. n % m) (sym (pow-succ' 256 (suc k)))

pub unsigned_read_back : UnsignedReadBack
unsigned_read_back w8 n fits = octets_read_back 0 n ∙ mod-eq_of_lt fits
unsigned_read_back w16 n fits = octets_read_back 1 n ∙ mod-eq_of_lt fits
unsigned_read_back w32 n fits = octets_read_back 3 n ∙ mod-eq_of_lt fits
unsigned_read_back w64 n fits = octets_read_back 7 n ∙ mod-eq_of_lt fits
unsigned_read_back w128 n fits = octets_read_back 15 n ∙ mod-eq_of_lt fits

-- what fits the bits of a type fits its octets
fits_octets : (w : Width) (n : ℕ) → Fits w n → n < 2 ^ (8 * byte_len w)
fits_octets w8 n fits = Fits-lt-pow fits
fits_octets w16 n fits = Fits-lt-pow fits
fits_octets w32 n fits = Fits-lt-pow fits
fits_octets w64 n fits = Fits-lt-pow fits
fits_octets w128 n fits = Fits-lt-pow fits

pub signed_read_back : SignedReadBack
signed_read_back w z fits = ap (cast_signed w) (unsigned_read_back w (cast_unsigned w z) (fits_octets w (cast_unsigned w z) (Fits-of_z fits))) ∙ to_z-of_z w z fits
