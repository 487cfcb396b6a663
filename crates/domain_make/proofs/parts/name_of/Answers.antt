use Rattle.std.proofs.Common.{subst, sym, refl, ◌∙◌}
use Rattle.std.specs.Str.{chars}
use Rattle.std.proofs.lemmas.Bool.{false≢true}
use Rattle.domain_builder.specs.TextGrammar.{IsTextOfName}
use Rattle.domain_name.specs.Names.{name_labels}
use Rattle.domain_make.specs.Stops.NoName.{no_dot}
use Rattle.domain_make.specs.Words.{word_at}
use Rattle.domain_make.proofs.Naming.{name_no_text, name_no_name}
use Rattle.domain_make.proofs.parts.name_of.Goals as goal

pub returns-then-not-ends_in_dot-clause-err : goal.returns-then-not-ends_in_dot-clause-err
returns-then-not-ends_in_dot-clause-err c = no_dot (λ h. false≢true (sym c.if-not-ends_in_dot.true ∙ c.ends_in_dot.ensures.1 h)) (refl, refl)

pub returns-in-Err-clause-err : goal.returns-in-Err-clause-err
returns-in-Err-clause-err c = name_no_text (word_at c.args.word.now) _ (c.ends_in_dot.ensures.0 c.if-not-ends_in_dot.false) c.in-Err.ensures.no_text c.in-Err.ensures.err

pub returns-in_default-clause-err : goal.returns-in_default-clause-err
returns-in_default-clause-err c = name_no_name (word_at c.args.word.now) c.in-Ok.text.now c.in-Ok.ensures.ok.0 (c.ends_in_dot.ensures.0 c.if-not-ends_in_dot.false) c.in_default.ensures.err

pub returns-clause-ok : goal.returns-clause-ok
returns-clause-ok c = record {
  absolute = c.ends_in_dot.ensures.0 c.if-not-ends_in_dot.false;
  utf8 = c.in-Ok.ensures.ok.1;
  text = subst (λ t. IsTextOfName (chars t) (name_labels c.in-Ok-name_from_text.name)) c.in-Ok.ensures.ok.0 c.in-Ok-name_from_text.ensures.ok;
}
