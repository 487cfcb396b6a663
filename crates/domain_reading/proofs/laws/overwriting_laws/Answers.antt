use Rattle.domain_reading.proofs.Touching.{reads_kept, touches_inside, after_kept, after_more, names_kept, names_after, labels_after, pointer_after}
use Rattle.domain_reading.proofs.laws.overwriting_laws.Goals as goal

pub returns : goal.returns
returns c = record {
  kept = λ m w p k ls r same. (reads_kept w r same).reads;
  inside = λ m p k ls r. touches_inside r;
  after = λ n m w p ls x e. after_kept w x e;
  more = λ n m u p ls x. after_more u x;
  name = λ n k m w p xs ls x e name. names_kept w x e name;
  flat = λ m p ls x. names_after x;
  labels = λ n m p r fs ls le f x. labels_after fs p le f x;
  pointer = λ n m p q ls le x lt rest. pointer_after le x lt rest;
}
