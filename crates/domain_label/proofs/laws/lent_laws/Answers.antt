use Rattle.domain_label.proofs.OwnedLemmas.{front-written}
use Rattle.domain_label.proofs.laws.lent_laws.Goals as goal

pub returns : goal.returns
returns c = λ l ws e. front-written l.wire ws e
