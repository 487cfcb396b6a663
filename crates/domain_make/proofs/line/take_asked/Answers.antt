use Rattle.std.proofs.Common.{sym, subst}
use Rattle.domain_make.specs.Words.{AreWords, words_at}
use Rattle.domain_make.proofs.Drafting.{on_ok, takes_asked}
use Rattle.domain_make.proofs.Refusing.{refuses_asked, refuses_asked_words}
use Rattle.domain_make.proofs.Telling.{passed_on, if_err, if_refused}
use Rattle.domain_make.proofs.line.take_asked.Goals as goal

pub returns-in_err-found-clause-err : goal.returns-in_err-found-clause-err
returns-in_err-found-clause-err g c = passed_on _ _ _ c.from_residual.ensures.1 (if_refused _ _ _ (λ f k lack. refuses_asked_words _ _ _ f k c.requires lack) c.in_err-found.ensures.err)

pub returns-in_err-words-clause-err : goal.returns-in_err-words-clause-err
returns-in_err-words-clause-err g c = passed_on _ _ _ c.from_residual-in_err-words.ensures.1 (if_refused _ _ _ (λ f k lack. refuses_asked_words _ _ _ f k c.requires lack) c.in_err-words.ensures.err)

pub returns-clause-ok : goal.returns-clause-ok
returns-clause-ok g c = on_ok _ _ _ (λ h. takes_asked _ _ _ _ _ _ c.requires (subst (λ ws. AreWords c.args.line.now 1 (words_at ws)) (sym c.as_slice.ensures.value) c.in_ok-words.ensures.ok) h.1 h.2) c.push_question.ensures.ok

pub returns-clause-err : goal.returns-clause-err
returns-clause-err g c =
    if_err _ _ _ (λ f k lack. refuses_asked _ _ _ _ f k c.requires (subst (λ ws. AreWords c.args.line.now 1 (words_at ws)) (sym c.as_slice.ensures.value) c.in_ok-words.ensures.ok) lack) c.push_question.ensures.err
