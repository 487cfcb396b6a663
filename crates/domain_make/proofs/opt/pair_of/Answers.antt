use Rattle.std.proofs.Common.{arith, refl}
use Rattle.domain_make.proofs.Opting.{pair_is, pair_parts}
use Rattle.domain_make.proofs.opt.pair_of.Goals as goal

pub returns-in_default-clause-none : goal.returns-in_default-clause-none
returns-in_default-clause-none c = λ _ octet rest is. absurd (omega (arith, (pair_parts c.args.text.now octet rest is).long))

pub returns-then-space-ne32-clause-none : goal.returns-then-space-ne32-clause-none
returns-then-space-ne32-clause-none c = λ _ octet rest is. c.if-space-ne32.true (pair_parts c.args.text.now octet rest is).space

pub returns-in_default-hex_octet-clause-none : goal.returns-in_default-hex_octet-clause-none
returns-in_default-hex_octet-clause-none c = λ _ octet rest is. c.in_default-hex_octet.ensures.none refl octet (pair_parts c.args.text.now octet rest is).hex

pub returns-clause-some : goal.returns-clause-some
returns-clause-some c = pair_is c.args.text.now _ (omega arith) c.if-space-ne32.false c.in-Some.ensures.some
