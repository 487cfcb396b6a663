use Rattle.std.proofs.Common.{◌≡◌, length}
use Rattle.domain_rdata_text.specs.declared.base32.High.TheVariants.{Whole}
use Rattle.domain_rdata_text.specs.Base32.{IsHigh, base32_from}
use Rattle.domain_rdata_text.proofs.base32.push_base32.Given as goal

abbrev pub invariant-digit : goal.invariant-digit
invariant-digit l = record {
  digits : base32_from l.initial.made.items Whole l.fn.word ≡ base32_from l.made.items l.high l.rest;
  high : IsHigh l.high;
}

abbrev pub decreases-digit : goal.decreases-digit
decreases-digit l = length l.rest
