use Rattle.std.proofs.Common.{arith, inl, inr}
use Rattle.domain_message.specs.KnownOptions.IsLengthFault.{second}
use Rattle.domain_message.proofs.known_options.Cookie.check.Goals.{then-len-lt8-via-then-len-lt8, then-len-lt8-via-else-len-lt8+then-len-gt32}
use Rattle.domain_message.proofs.known_options.Cookie.check.Goals as goal

pub returns-then-len-lt8-clause-err : goal.returns-then-len-lt8-clause-err
returns-then-len-lt8-clause-err c =
    second c.in-Some.server c.in-Some.is (omega (arith, c.if-self-ne8.false)) (elim c.then-len-lt8.branch [
      | then-len-lt8-via-then-len-lt8 w ↦ inl (omega (arith, w.if-len-lt8))
      | then-len-lt8-via-else-len-lt8+then-len-gt32 w ↦ inr (omega (arith, w.if-len-gt32))
    ]) c.form_error-then-len-lt8.ensures
