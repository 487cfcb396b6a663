use Rattle.domain_label.proofs.OwnedLemmas.{front-low}
use Rattle.domain_label.proofs.owned.OwnedLabel.make_canonical.Goals as goal

pub returns : goal.returns
returns c = rw c.make_ascii_lowercase.ensures.after (front-low c.args.self.now.wire)
