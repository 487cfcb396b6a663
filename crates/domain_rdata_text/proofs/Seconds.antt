-- Points in time that are shown are read back.
use Rattle.std.proofs.Common.{◌≡◌, ◌∙◌, ℕ, ◌<◌, ◌≤◌, ◌==◌, length, Some, arith}
use Rattle.std.specs.Fmt.{decimal}
use Rattle.std.proofs.lemmas.Bool.{cond-false, ne_eqb}
use Rattle.std.proofs.lemmas.Fmt.{length-decimal-le}
use Rattle.domain_rdata_text.specs.Numbers.{read_number}
use Rattle.domain_rdata_text.specs.Times.{read_moment, read_time}
use Rattle.domain_rdata_text.proofs.Reading.{number_back}

pub time_back : (n : ℕ) → n < 4294967296 → read_time (decimal n) ≡ Some n
time_back n h =
    let short : length (decimal n) ≤ 10 = length-decimal-le 10 n (omega arith) (omega (arith, h)) (omega (arith, h)) in
    cond-false (length (decimal n) == 14) (read_moment (decimal n)) (read_number 4294967296 (decimal n)) (ne_eqb (length (decimal n)) 14 (λ e. omega (arith, short, e)))
    ∙ number_back 4294967296 n h (omega (arith, h))
