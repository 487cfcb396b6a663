use Rattle.std.proofs.Common.{◌≡◌, length, arith, refl, ap, ◌∙◌}
use Rattle.std.specs.Int.{w16, to_be_bytes}
use Rattle.domain_make.proofs.Opting.{no_option_word, no_option_colon, no_option_code, no_option_pairs, no_long_option, option_is, append_three}
use Rattle.domain_make.proofs.opt.push_option.Goals as goal

pub returns-in_default-clause-ok : goal.returns-in_default-clause-ok
returns-in_default-clause-ok c = (λ octets. no_option_word _ octets c.in_default.ensures, refl)

pub returns-in_default-parted-clause-ok : goal.returns-in_default-parted-clause-ok
returns-in_default-parted-clause-ok c = (λ octets. no_option_colon _ _ octets c.in-Some.ensures (c.in_default-parted.ensures.none refl), refl)

pub returns-in_default-number_below-clause-ok : goal.returns-in_default-number_below-clause-ok
returns-in_default-number_below-clause-ok c =
    (λ octets. no_option_code _ _ _ _ octets c.in-Some.ensures c.in-Some-parted.ensures.some c.in-Some-parted.ensures.first (c.in_default-number_below.ensures.none refl), refl)

pub returns-in_default-2-clause-ok : goal.returns-in_default-2-clause-ok
returns-in_default-2-clause-ok c =
    (λ octets. no_option_pairs _ _ _ _ octets c.in-Some.ensures c.in-Some-parted.ensures.some c.in-Some-parted.ensures.first ((rw c.in_default-2.is at c.in_ok-octets.ensures.none) refl), refl)

pub returns-then-len-gt65535-clause-ok : goal.returns-then-len-gt65535-clause-ok
returns-then-len-gt65535-clause-ok c =
    (λ octets. no_long_option _ _ _ _ _ octets c.in-Some.ensures c.in-Some-parted.ensures.some c.in-Some-parted.ensures.first (rw c.in-Some-2.is at c.in_ok-octets.ensures.some) (omega arith), refl)

pub returns-clause-ok : goal.returns-clause-ok
returns-clause-ok c =
    let same : c.len-2.result ≡ length c.in-Some-2.octets.items = omega arith in (
      _,
      option_is _ _ _ _ _ _ c.in-Some.ensures c.in-Some-parted.ensures.some c.in-Some-number_below.ensures.some (rw c.in-Some-2.is at c.in_ok-octets.ensures.some) (omega arith),
      append_three _ _ _ _ _ _ _ _ _ _ c.to_be_bytes.ensures (c.to_be_bytes-2.ensures ∙ ap (λ n. to_be_bytes w16 n) same) c.as_slice.ensures.value c.in_ok-append.ensures.ok c.in_ok-append-2.ensures.ok c.in_ok-append-3.ensures.ok,
    )
