use Rattle.std.proofs.Common.{sym, ◌∙◌}
use Rattle.domain_make.specs.Words.{word_at}
use Rattle.domain_make.proofs.Entering.{stated_ttl_alone, stated_class_alone}
use Rattle.domain_make.proofs.entry.stated_by.Goals as goal

pub returns-in-Err-class_of-clause-err : goal.returns-in-Err-class_of-clause-err
returns-in-Err-class_of-clause-err c =
    stated_ttl_alone (word_at c.args.first.now) (word_at c.args.second.now) _ _ (sym c.begins_with_digit.ensures ∙ c.if-begins_with_digit.true) c.in-Ok.ensures.ok c.in-Err-class_of.ensures.err

pub returns-in-Err-number32_of-clause-err : goal.returns-in-Err-number32_of-clause-err
returns-in-Err-number32_of-clause-err c =
    stated_class_alone (word_at c.args.first.now) (word_at c.args.second.now) _ _ (sym c.begins_with_digit.ensures ∙ c.if-begins_with_digit.false) c.in-Ok-class_of-2.ensures.ok c.in-Err-number32_of.ensures.err
