use Rattle.std.proofs.Common.{◌≡◌, ◌++◌, length}
use Rattle.domain_rdata_text.specs.Base32.{IsLow, base32_rest, base32_text}
use Rattle.domain_rdata_text.proofs.base32.append_base32.Given as goal

abbrev pub invariant-octet : goal.invariant-octet
invariant-octet l = record {
  text : l.initial.text.items ++ base32_text l.fn.octets ≡ l.text.items ++ base32_rest l.low l.rest;
  low : IsLow l.low;
}

abbrev pub decreases-octet : goal.decreases-octet
decreases-octet l = length l.rest
