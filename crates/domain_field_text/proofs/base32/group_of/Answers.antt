use Rattle.domain_field_text.proofs.Digits.{eight_ascii}
use Rattle.domain_field_text.proofs.base32.group_of.Goals as goal

pub returns-clause-ascii : goal.returns-clause-ascii
returns-clause-ascii c =
    eight_ascii _ _ _ _ _ _ _ _ c.base32_digit.ensures.ascii c.base32_digit-2.ensures.ascii c.base32_digit-3.ensures.ascii c.base32_digit-4.ensures.ascii c.base32_digit-5.ensures.ascii
    c.base32_digit-6.ensures.ascii c.base32_digit-7.ensures.ascii c.base32_digit-8.ensures.ascii
