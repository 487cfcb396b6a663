use Rattle.domain_label.proofs.CanonicalForm.{lowered_absolute}
use Rattle.domain_name.proofs.absolute.Name.make_canonical.Goals as goal

pub invariant_of-self : goal.invariant_of-self
invariant_of-self g c = record { absolute = (lowered_absolute _ _ c.args.self.now.absolute c.make_lowercase.ensures.octets).0 }

pub returns-clause-labels : goal.returns-clause-labels
returns-clause-labels g c = (lowered_absolute _ _ c.args.self.now.absolute c.make_lowercase.ensures.octets).1
