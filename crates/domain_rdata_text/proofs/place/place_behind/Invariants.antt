use Rattle.std.proofs.Common.{◌≡◌, ◌+◌, ◌≤◌, length}
use Rattle.domain_rdata_text.specs.Places.{place_after}
use Rattle.domain_rdata_text.proofs.place.place_behind.Given as goal

abbrev pub invariant-octet : goal.invariant-octet
invariant-octet l = record {
  place : place_after 1 1 l.fn.octets ≡ place_after l.line l.column l.rest;
  line : l.line + length l.rest ≤ length l.fn.octets + 1;
  column : l.column + length l.rest ≤ length l.fn.octets + 1;
}

abbrev pub decreases-octet : goal.decreases-octet
decreases-octet l = length l.rest
