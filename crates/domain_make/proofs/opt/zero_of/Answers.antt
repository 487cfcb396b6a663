use Rattle.std.proofs.Common.{refl}
use Rattle.domain_make.proofs.Opting.{zero_parts}
use Rattle.domain_make.proofs.opt.zero_of.Goals as goal

pub returns-in_default-hex_octet-2-clause-none : goal.returns-in_default-hex_octet-2-clause-none
returns-in_default-hex_octet-2-clause-none c = λ _ n rest is. c.in_default-hex_octet-2.ensures.none refl _ (zero_parts _ _ rest n c.in-Some.ensures is).low

pub returns-in_default-after-clause-none : goal.returns-in_default-after-clause-none
returns-in_default-after-clause-none c = λ _ n rest is. c.in_default-after.ensures rest (zero_parts _ _ rest n c.in-Some.ensures is).ends
