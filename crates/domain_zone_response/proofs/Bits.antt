-- The octets of flags after each field was set.
use Rattle.std.proofs.Common.{◌≡◌, ℕ, ◌<◌, arith}
use Rattle.std.specs.Prelude.{Bool, true, false, IsTrue, ◌↔◌}
use Rattle.std.proofs.Common.{refl, sym}
use Rattle.std.proofs.lemmas.Bool.{false≢true}
use Rattle.domain_header.specs.Bits.{bit, bits, bit_of, SetsBits}

-- the bit that was read is the bit that is set
pub bit_back : (b : Bool) (v : ℕ) → v < 2 → IsTrue b ↔ (v ≡ 1) → bit_of b ≡ v
bit_back true v small said = sym (said.0 refl)
bit_back false v small said = let not : v ≡ 1 → ⊥ = λ h. false≢true (said.1 h) in omega (arith, small, not)

-- the octet with QR set, an opcode, AA, TC and RD
pub record HighBits (op aa tc rd f : ℕ) : Type 0 where
  pub qr : bit 128 f ≡ 1
  pub opcode : bits 8 16 f ≡ op
  pub aa_is : bit 4 f ≡ aa
  pub tc_is : bit 2 f ≡ tc
  pub rd_is : bit 1 f ≡ rd

pub high_bits : (a b c d e f op aa tc rd : ℕ) → SetsBits 128 2 1 a b → SetsBits 8 16 op b c → SetsBits 4 2 aa c d → SetsBits 2 2 tc d e → SetsBits 1 2 rd e f → HighBits op aa tc rd f
high_bits a b c d e f op aa tc rd v w x y z = record {
  qr = omega (arith, v.set, w.above, x.above, y.above, z.above);
  opcode = omega (arith, w.set, x.above, y.above, z.above);
  aa_is = omega (arith, x.set, y.above, z.above);
  tc_is = omega (arith, y.set, z.above);
  rd_is = z.set;
}

-- the octet with a response code alone
pub record LowBits (rcode d : ℕ) : Type 0 where
  pub ra : bit 128 d ≡ 0
  pub z : bit 64 d ≡ 0
  pub ad : bit 32 d ≡ 0
  pub cd_is : bit 16 d ≡ 0
  pub rcode_is : bits 1 16 d ≡ rcode

pub low_bits : (a b rcode : ℕ) → a ≡ 0 → SetsBits 1 16 rcode a b → LowBits rcode b
low_bits a b rcode zero x = record {
  ra = omega (arith, zero, x.above);
  z = omega (arith, zero, x.above);
  ad = omega (arith, zero, x.above);
  cd_is = omega (arith, zero, x.above);
  rcode_is = x.set;
}

-- a bit is 0 or 1
pub small_low : (n : ℕ) → bit 1 n < 2
small_low n = omega arith
