use Rattle.domain_message.proofs.DataStanding.{record_and_data_read_back}
use Rattle.domain_message.specs.ReadsBack.{question_reads_back}
use Rattle.domain_message.proofs.laws.reads_back_laws.Goals as goal

pub returns-clause-question : goal.returns-clause-question
returns-clause-question g c = question_reads_back

pub returns-clause-record : goal.returns-clause-record
returns-clause-record g c = λ it compresses. record_and_data_read_back (g.D.ComposeRecordData.composed it compresses) compresses
