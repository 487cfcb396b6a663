use Rattle.domain_message.specs.Readings.{question_once, question_decided, record_once, record_decided}
use Rattle.domain_message.proofs.laws.entry_laws.Goals as goal

pub returns : goal.returns
returns c = record { question_once = question_once; question_decided = question_decided; record_once = record_once; record_decided = record_decided }
