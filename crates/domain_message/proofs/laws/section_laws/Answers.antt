use Rattle.std.proofs.Common.{refl}
use Rattle.std.specs.Prelude.{Some}
use Rattle.domain_message.specs.AliasLaws.{chain_once, many_go_round, within_once, within_ends, within_enough}
use Rattle.domain_message.proofs.OneList.{questions_are_one_list, records_are_one_list, first_is_kept, none_is_kept}
use Rattle.domain_message.proofs.laws.section_laws.Goals as goal

pub returns : goal.returns
returns c = record {
  questions = questions_are_one_list;
  records = records_are_one_list;
  first = first_is_kept;
  none = none_is_kept;
  chain = chain_once;
  long = many_go_round;
  within = record { once = within_once; ends = λ rs limit name end. within_ends rs limit name (Some end) end refl; enough = within_enough };
}
