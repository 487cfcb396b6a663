use Rattle.std.proofs.Common.{◌≡◌, sym, subst, arith, ◌∙◌}
use Rattle.std.proofs.lemmas.Bool.{false≢true}
use Rattle.domain_message.specs.declared.section.Section.{Section}
use Rattle.domain_make.specs.Refusals.{IsOutside}
use Rattle.domain_make.specs.Remarks.{settled}
use Rattle.domain_make.specs.declared.remark.Stage.{Stage}
use Rattle.domain_make.specs.declared.remark.Stage.TheVariants.{Questions, Records}
use Rattle.domain_make.specs.Words.{AreWords, words_at}
use Rattle.domain_make.proofs.Drafting.{section_ok, takes_nothing}
use Rattle.domain_make.proofs.Refusing.{refuses_words, refuses_outside_first, section_err, only_questions}
use Rattle.domain_make.proofs.Telling.{passed_on, if_refused}
use Rattle.domain_make.proofs.line.take_entry.Goals as goal

pub returns-in_err-found-clause-err : goal.returns-in_err-found-clause-err
returns-in_err-found-clause-err g c = passed_on _ _ _ c.from_residual.ensures.1 (if_refused _ _ _ (λ f k lack. refuses_words _ _ _ _ f k c.requires lack) c.in_err-found.ensures.err)

pub returns-in_err-words-clause-err : goal.returns-in_err-words-clause-err
returns-in_err-words-clause-err g c = passed_on _ _ _ c.from_residual-in_err-words.ensures.1 (if_refused _ _ _ (λ f k lack. refuses_words _ _ _ _ f k c.requires lack) c.in_err-words.ensures.err)

pub returns-then-words-eq0-clause-ok : goal.returns-then-words-eq0-clause-ok
returns-then-words-eq0-clause-ok g c = takes_nothing _ _ _ _ _ c.requires c.if-words-eq0.true (subst (λ ws. AreWords c.args.line.now 0 (words_at ws)) (sym c.as_slice-words.ensures.value) c.in_ok-words.ensures.ok)

pub returns-then-is_outside-clause-err : goal.returns-then-is_outside-clause-err
returns-then-is_outside-clause-err g c =
    refuses_outside_first _ _ _ _ _ _ (c.is_outside.ensures.0 c.if-is_outside.true) c.requires (subst (λ ws. AreWords c.args.line.now 0 (words_at ws)) (sym c.as_slice-words.ensures.value) c.in_ok-words.ensures.ok) (omega arith)

pub returns-in-Records-clause-ok : goal.returns-in-Records-clause-ok
returns-in-Records-clause-ok g c = section_ok _ _ _ _ _ _ _ c.in-Records.ensures c.take_record.ensures.ok

pub returns-in-Records-clause-err : goal.returns-in-Records-clause-err
returns-in-Records-clause-err g c = section_err _ _ _ _ _ _ c.in-Records.ensures c.take_record.ensures.err

-- Where no records are, questions are.
asks : (s place : Stage) → (IsOutside s → ⊥) → place ≡ settled s → ((section : Section) → place ≡ Records section → ⊥) → s ≡ Questions
asks s place out same never = only_questions s out (λ section e. never section (same ∙ e))

pub returns-clause-ok : goal.returns-clause-ok
returns-clause-ok g c =
    let at : c.args.stage ≡ Questions = asks c.args.stage c.settled.result (λ out. false≢true (sym c.if-is_outside.false ∙ c.is_outside.ensures.1 out)) c.settled.ensures c.in_default.not-Records in
    rw at c.take_question.ensures.ok

pub returns-clause-err : goal.returns-clause-err
returns-clause-err g c =
    let at : c.args.stage ≡ Questions = asks c.args.stage c.settled.result (λ out. false≢true (sym c.if-is_outside.false ∙ c.is_outside.ensures.1 out)) c.settled.ensures c.in_default.not-Records in
    rw at c.take_question.ensures.err
