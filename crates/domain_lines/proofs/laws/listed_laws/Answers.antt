use Rattle.domain_lines.specs.Listed.{question_is_listed, listed_is_question, record_is_listed, listed_is_record}
use Rattle.domain_lines.proofs.laws.listed_laws.Goals as goal

pub returns : goal.returns
returns c = record {
  question_listed = λ m p e it. question_is_listed m p it e;
  listed_question = λ m p e line. listed_is_question m p line e;
  record_listed = λ m p e it. record_is_listed m p it e;
  listed_record = λ m p e line. listed_is_record m p line e;
}
