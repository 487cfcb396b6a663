-- SipHash-2-4 (J.-P. Aumasson, D. J. Bernstein: SipHash, a fast short-input PRF; 2012, section 2). A word is a number
-- of 64 bits.
use Rattle.std.specs.Prelude.{ℕ, zero, suc, ◌+◌, ◌*◌, ◌/◌, ◌-◌, ◌%◌, ◌^◌, List, [], ◌∷◌, ◌++◌, length, take, drop, replicate, bit_xor}
use Rattle.std.specs.Int.{w64, rotate_left, from_le_bytes}
use Rattle.domain_siphash.specs.declared.state.State.{State}

-- the sum of two words, modulo 2^64
abbrev pub plus : ℕ → ℕ → ℕ
plus x y = (x + y) % 2 ^ 64

-- initialization: the words of the key, each against two constants
unfoldable pub sip_start : ℕ → ℕ → State
sip_start k0 k1 = record {
  v0 = bit_xor k0 0x736f6d6570736575;
  v1 = bit_xor k1 0x646f72616e646f6d;
  v2 = bit_xor k0 0x6c7967656e657261;
  v3 = bit_xor k1 0x7465646279746573;
}

-- SipRound: the left half, the right half, and both again with their partners changed
unfoldable pub sip_round : State → State
sip_round s =
    let a0 = plus s.v0 s.v1 in
    let a1 = bit_xor (rotate_left w64 s.v1 13) a0 in
    let a2 = plus s.v2 s.v3 in
    let a3 = bit_xor (rotate_left w64 s.v3 16) a2 in
    let b0 = plus (rotate_left w64 a0 32) a3 in
    let b2 = plus a2 a1 in
    record { v0 = b0; v1 = bit_xor (rotate_left w64 a1 17) b2; v2 = rotate_left w64 b2 32; v3 = bit_xor (rotate_left w64 a3 21) b0 }

-- compression of one word: against v3, two rounds, against v0
unfoldable pub sip_absorb : State → ℕ → State
sip_absorb s m =
    let t = sip_round (sip_round (record { v0 = s.v0; v1 = s.v1; v2 = s.v2; v3 = bit_xor s.v3 m })) in
    record { v0 = bit_xor t.v0 m; v1 = t.v1; v2 = t.v2; v3 = t.v3 }

-- finalization: 255 against v2, four rounds, and all four words against one another
unfoldable pub sip_finish : State → ℕ
sip_finish s =
    let t = sip_round (sip_round (sip_round (sip_round (record { v0 = s.v0; v1 = s.v1; v2 = bit_xor s.v2 255; v3 = s.v3 })))) in
    bit_xor (bit_xor (bit_xor t.v0 t.v1) t.v2) t.v3

-- the eight octets from p on as a word, the low one first
unfoldable pub word : List ℕ → ℕ → ℕ
word octets p = from_le_bytes w64 (take 8 (drop p octets))

-- what makes the octets whole words: zero octets, and as the last octet how many octets there are, modulo 256
abbrev pub padding : ℕ → List ℕ
padding len = replicate (7 - len % 8) 0 ++ (len % 256) ∷ []

-- the state after the first n words of the octets
abbrev pub after_words : State → List ℕ → ℕ → State
after_words s octets zero = s
after_words s octets (suc n) = sip_absorb (after_words s octets n) (word octets (8 * n))

-- the hash of octets under a key
abbrev pub siphash : List ℕ → List ℕ → ℕ
siphash key octets = sip_finish (after_words (sip_start (word key 0) (word key 8)) (octets ++ padding (length octets)) (length octets / 8 + 1))
