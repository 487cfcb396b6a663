use Rattle.domain_zone_answer.proofs.SoaLaws.{no_rname, no_numbers}
use Rattle.domain_zone_answer.proofs.soa.minimum.Goals as goal

pub returns-in_default-after_name : goal.returns-in_default-after_name
returns-in_default-after_name c = λ m d.
    no_rname c.args.data.now c.in-Some.rname.now c.in-Some.ensures.0 m c.in-Some.ensures.1 c.in-Some.ensures.2 (λ ks more a e. c.in_default-after_name.ensures ks more a e) d

pub returns-then-numbers-ne-NUMBERS_LEN : goal.returns-then-numbers-ne-NUMBERS_LEN
returns-then-numbers-ne-NUMBERS_LEN c = λ m d.
    no_numbers c.args.data.now c.in-Some.rname.now c.in-Some-after_name.numbers.now c.in-Some.ensures.0 c.in-Some-after_name.ensures.0 m
    c.in-Some.ensures.1 c.in-Some.ensures.2 c.in-Some-after_name.ensures.1 c.in-Some-after_name.ensures.2 c.if-numbers-ne-NUMBERS_LEN.true d
