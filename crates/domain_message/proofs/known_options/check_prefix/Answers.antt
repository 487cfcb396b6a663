use Rattle.std.proofs.Common.{arith, sym, ◌∙◌}
use Rattle.domain_message.specs.KnownOptions.IsPrefixFault.{long}
use Rattle.domain_message.proofs.known_options.check_prefix.Goals as goal

pub returns-then-most-source-clause-err : goal.returns-then-most-source-clause-err
returns-then-most-source-clause-err c =
    long c.in-Some.most (sym c.bits_of_family.ensures ∙ c.in-Some.is) (omega (arith, c.if-most-source.true)) c.form_error-then-most-source.ensures
