use Rattle.std.proofs.Common.{arith, get_or, refl, subst, sym}
use Rattle.domain_make.specs.Entries.{AreStated, IsTypeWord}
use Rattle.domain_make.specs.Words.{word_at}
use Rattle.domain_make.proofs.Entering.{no_word, four, record_no_owner, record_no_stated, record_no_type, record_no_data, begins_record, long_data}
use Rattle.domain_make.proofs.Telling.{passed_on}
use Rattle.domain_make.proofs.entry.record_of.Goals as goal

pub returns-in_err-name-clause-err : goal.returns-in_err-name-clause-err
returns-in_err-name-clause-err c = passed_on _ _ _ c.from_residual.ensures.1 (record_no_owner _ _ _ _ _ _ _ _ (four c.args.words.now (omega arith)) c.in_err-name.ensures.err)

pub returns-in_err-stated-clause-err : goal.returns-in_err-stated-clause-err
returns-in_err-stated-clause-err c = passed_on _ _ _ c.from_residual-in_err-stated.ensures.1 (record_no_stated _ _ _ _ _ _ _ _ _ (four c.args.words.now (omega arith)) c.in_ok-name.ensures.ok c.in_err-stated.ensures.err)

pub returns-in_err-rtype-clause-err : goal.returns-in_err-rtype-clause-err
returns-in_err-rtype-clause-err c =
    passed_on _ _ _ c.from_residual-in_err-rtype.ensures.1 (record_no_type _ _ _ _ _ _ _ _ _ _ _ (four c.args.words.now (omega arith)) c.in_ok-name.ensures.ok c.in_ok-stated.ensures.ok c.in_err-rtype.ensures.err)

pub returns-in_err-data-clause-err : goal.returns-in_err-data-clause-err
returns-in_err-data-clause-err c =
    passed_on _ _ _ c.from_residual-in_err-data.ensures.1
    (record_no_data _ _ _ _ _ _ _ (begins_record _ _ _ _ _ _ _ _ _ _ (four c.args.words.now (omega arith)) c.in_ok-name.ensures.ok (subst (λ n. AreStated (word_at (get_or c.args.words.now 1 no_word)) (word_at (get_or c.args.words.now 2 no_word)) c.in_ok-stated.stated.seconds n) (sym c.to_int-2.ensures) c.in_ok-stated.ensures.ok) (subst (λ n. IsTypeWord (get_or c.args.words.now 3 no_word).octets.now n) (sym c.to_int.ensures) c.in_ok-rtype.ensures.ok)) c.in_err-data.ensures.err)

pub returns-in_default-from_octets-clause-err : goal.returns-in_default-from_octets-clause-err
returns-in_default-from_octets-clause-err c =
    long_data _ _ _ _ _ _ _ _ _ _ _ _ (begins_record _ _ _ _ _ _ _ _ _ _ (four c.args.words.now (omega arith)) c.in_ok-name.ensures.ok c.in_ok-stated.ensures.ok c.in_ok-rtype.ensures.ok)
    refl refl c.to_int.ensures c.to_int-2.ensures c.in_ok-data.ensures.ok (c.in_default-from_octets.ensures.long.0 refl) c.first_column-in_default-from_octets.ensures
