use Rattle.std.proofs.Common.{subst}
use Rattle.domain_make.specs.Opts.{IsLineOf}
use Rattle.domain_make.specs.Taking.LeadsBelow.{option, cut}
use Rattle.domain_make.proofs.Refusing.{no_option_line}
use Rattle.domain_make.proofs.line.take_option.Goals as goal

pub returns-in-Whole-clause-ok : goal.returns-in-Whole-clause-ok
returns-in-Whole-clause-ok c =
    let is = subst (λ k. IsLineOf c.trimmed.result.now k) c.in-Whole.is c.in_ok-option_line.ensures.ok in
    option _ is.0 c.trimmed.ensures is.1

pub returns-in-Cut-clause-ok : goal.returns-in-Cut-clause-ok
returns-in-Cut-clause-ok c =
    let is = subst (λ k. IsLineOf c.trimmed.result.now k) c.in-Cut.is c.in_ok-option_line.ensures.ok in
    cut _ is.0 c.trimmed.ensures is.1

pub returns-in-Other-clause-none : goal.returns-in-Other-clause-none
returns-in-Other-clause-none c = λ _. no_option_line _ _ c.trimmed.ensures (subst (λ k. IsLineOf c.trimmed.result.now k) c.in-Other.is c.in_ok-option_line.ensures.ok)
