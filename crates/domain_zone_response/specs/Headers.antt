-- The header of a response.
use Rattle.std.specs.Prelude.{◌≡◌, ℕ, Bool}
use Rattle.domain_header.specs.Bits.{bit, bits, bit_of}
use Rattle.domain_header.specs.Headers.{header_id, header_high, header_low}
use Rattle.domain_header.specs.declared.flags.Header.{Header}

-- The header of a response to a query with this identifier and this first octet of flags. The opcode and RD are those
-- of the query, and QR is set (RFC 1035, 4.1.1). AD and CD are clear (RFC 4035, 3.1.6). RA and Z are clear: no
-- recursion is done. AA, TC and the lower four bits of the response code are given.
pub record IsResponseHeader (id high : ℕ) (aa tc : Bool) (rcode : ℕ) (h : Header) : Type 0 where
  pub id_is : header_id h ≡ id
  pub qr : bit 128 (header_high h) ≡ 1
  pub opcode : bits 8 16 (header_high h) ≡ bits 8 16 high
  pub aa_is : bit 4 (header_high h) ≡ bit_of aa
  pub tc_is : bit 2 (header_high h) ≡ bit_of tc
  pub rd : bit 1 (header_high h) ≡ bit 1 high
  pub ra : bit 128 (header_low h) ≡ 0
  pub z : bit 64 (header_low h) ≡ 0
  pub ad : bit 32 (header_low h) ≡ 0
  pub cd : bit 16 (header_low h) ≡ 0
  pub rcode_is : bits 1 16 (header_low h) ≡ rcode

-- The header is one of a response to a query with this header.
abbrev pub RespondsTo : Header → Bool → Bool → ℕ → Header → Type 0
RespondsTo query aa tc rcode h = IsResponseHeader (header_id query) (header_high query) aa tc rcode h
