use Rattle.domain_reading.proofs.Reading.{reads_once, reads_more, names_absolute}
use Rattle.domain_reading.proofs.NameOrFault.{name_or_fault, names_or_fault, one_fault}
use Rattle.domain_reading.proofs.OneEncoding.{front_once, base_once, names_skips, skips_not_both, one_skip_fault}
use Rattle.domain_reading.proofs.LabelsAt.{labels_named}
use Rattle.domain_reading.proofs.Skipping.{skips_or_not}
use Rattle.domain_reading.proofs.UncompressedIsRead.{plain_names, plain_front}
use Rattle.domain_reading.proofs.laws.reads_laws.Goals as goal

pub returns : goal.returns
returns c = record {
  once = λ m p j k xs ys a b. reads_once a b;
  more = λ m u p k ls r. reads_more u r;
  absolute = λ n m p ls x. names_absolute x;
  labels = λ m p ls x. labels_named x;
  some = name_or_fault;
  not_both = λ n m p ls e x f. names_or_fault x f;
  one_fault = λ n m p d e f g. one_fault f g;
  one_front = λ m p xs ys c d e f a b. front_once a b;
  one_base = λ m p b c x y. base_once x y;
  plain = plain_names;
  plain_front = plain_front;
  skips = λ n m p ls x. names_skips x;
  same_end = λ m p e f x s. (front_once x.2 s.front).2;
  skips_or_not = skips_or_not;
  skips_not_both = λ m p e d s f. skips_not_both s f;
  one_skip_fault = λ m p d e f g. one_skip_fault f g;
}
