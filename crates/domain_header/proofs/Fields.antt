-- Setting a field of bits.
use Rattle.std.proofs.Common.{◌≡◌, ℕ, ◌+◌, ◌*◌, ◌/◌, ◌%◌, ◌<◌, ◌≤◌, arith, ap, ◌∙◌}
use Rattle.std.proofs.lemmas.Nat.{div-mul-add, mod-mul-add, div-add-mod'}
use Rattle.std.proofs.Math.Nat.{mod-lt, mul-le-mul_right, lt_of_mul-lt-mul_right}
use Rattle.domain_header.specs.Bits.{SetsBits}

-- the octet with the field set
abbrev pub field_set : ℕ → ℕ → ℕ → ℕ → ℕ
field_set weight values value octet = octet / (weight * values) * (weight * values) + value * weight + octet % weight

-- the field and what is below it take less than the field's span
within : (weight values value rest : ℕ) → value < values → rest < weight → value * weight + rest < weight * values
within weight values value rest small below =
    let most : (value + 1) * weight ≤ values * weight = mul-le-mul_right weight (omega (arith, small)) in
    omega (arith, most, below)

-- counted by the weight
by_weight : (weight values value q rest : ℕ) → q * (weight * values) + value * weight + rest ≡ (q * values + value) * weight + rest
by_weight weight values value q rest = omega arith

pub field_fits : (weight values value octet : ℕ) → 0 < weight → value < values → 256 % (weight * values) ≡ 0 → octet < 256 → field_set weight values value octet < 256
field_fits weight values value octet some small whole fits =
    let span = weight * values in
    let q = octet / span in
    let k = 256 / span in
    let rest = within weight values value (octet % weight) small (mod-lt octet some) in
    let parts : k * span + 256 % span ≡ 256 = div-add-mod' 256 span in
    let under : q * span + octet % span ≡ octet = div-add-mod' octet span in
    let fewer : q < k = lt_of_mul-lt-mul_right span (omega (arith, parts, under, whole, fits)) in
    let most : (q + 1) * span ≤ k * span = mul-le-mul_right span (omega (arith, fewer)) in
    omega (arith, most, rest, parts, whole)

pub field_sets : (weight values value octet : ℕ) → 0 < weight → value < values → SetsBits weight values value octet (field_set weight values value octet)
field_sets weight values value octet some small =
    let q = octet / (weight * values) in
    let r = octet % weight in
    let low : r < weight = mod-lt octet some in
    let counted = by_weight weight values value q r in
    let split : q * (weight * values) + value * weight + r ≡ q * (weight * values) + (value * weight + r) = omega arith in
    record {
      set = ap (λ n. n / weight % values) counted ∙ (ap (λ n. n % values) (div-mul-add (q * values + value) weight r low) ∙ mod-mul-add q values value small);
      below = ap (λ n. n % weight) counted ∙ mod-mul-add (q * values + value) weight r low;
      above = ap (λ n. n / (weight * values)) split ∙ div-mul-add q (weight * values) (value * weight + r) (within weight values value r small low);
    }
