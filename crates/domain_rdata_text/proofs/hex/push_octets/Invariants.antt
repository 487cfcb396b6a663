use Rattle.std.proofs.Common.{◌≡◌, length}
use Rattle.domain_rdata_text.specs.Hex.{hex_from, IsHalf}
use Rattle.domain_rdata_text.specs.declared.hex.Half.TheVariants.{Even}
use Rattle.domain_rdata_text.proofs.hex.push_octets.Given as goal

abbrev pub invariant-digit : goal.invariant-digit
invariant-digit l = record { digits : hex_from l.initial.made.items Even l.fn.word ≡ hex_from l.made.items l.half l.rest; half : IsHalf l.half }

abbrev pub decreases-digit : goal.decreases-digit
decreases-digit l = length l.rest
