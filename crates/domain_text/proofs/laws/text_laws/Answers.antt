use Rattle.domain_text.proofs.OneOutcome.{one_name, one_relative, appends_by_grammar}
use Rattle.domain_text.proofs.Outcomes.{spells_one_name, spells_one_relative}
use Rattle.domain_text.proofs.DisplayedIsRead.{dotted_spells, shown_spells, text_spells}
use Rattle.domain_text.proofs.laws.text_laws.Goals as goal

pub returns-clause-names : goal.returns-clause-names
returns-clause-names c = one_name

pub returns-clause-relative : goal.returns-clause-relative
returns-clause-relative c = one_relative

pub returns-clause-texts : goal.returns-clause-texts
returns-clause-texts c = spells_one_name

pub returns-clause-relative_texts : goal.returns-clause-relative_texts
returns-clause-relative_texts c = spells_one_relative

pub returns-clause-appends : goal.returns-clause-appends
returns-clause-appends c = appends_by_grammar

pub returns-clause-shown : goal.returns-clause-shown
returns-clause-shown c = λ ls b. (λ n. (dotted_spells ls n b, shown_spells ls n b), λ n. text_spells ls n b)
