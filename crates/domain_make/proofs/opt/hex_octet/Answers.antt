use Rattle.std.proofs.Common.{refl}
use Rattle.domain_make.proofs.Opting.{octet_parts, octet_of}
use Rattle.domain_make.proofs.opt.hex_octet.Goals as goal

pub returns-in_default-clause-none : goal.returns-in_default-clause-none
returns-in_default-clause-none c = λ _ octet is. c.in_default.ensures.none refl _ (octet_parts _ _ octet is).0

pub returns-in_default-hex_value-clause-none : goal.returns-in_default-hex_value-clause-none
returns-in_default-hex_value-clause-none c = λ _ octet is. c.in_default-hex_value.ensures.none refl _ (octet_parts _ _ octet is).1

pub returns-clause-some : goal.returns-clause-some
returns-clause-some c = octet_of _ _ _ _ c.in-Some.ensures.some c.in-Some-hex_value.ensures.some
