use Rattle.domain_label.proofs.CanonicalForm.{lowered_relative}
use Rattle.domain_name.proofs.relative.RelativeName.make_canonical.Goals as goal

pub invariant_of-self : goal.invariant_of-self
invariant_of-self g c = record { relative = (lowered_relative _ _ c.args.self.now.relative c.make_lowercase.ensures.octets).0 }

pub returns-clause-labels : goal.returns-clause-labels
returns-clause-labels g c = (lowered_relative _ _ c.args.self.now.relative c.make_lowercase.ensures.octets).1
