use Rattle.domain_nsec3.proofs.Reading.{packed}
use Rattle.domain_nsec3.proofs.label.octets_of.Goals as goal

pub returns-clause-digits : goal.returns-clause-digits
returns-clause-digits c = packed c.args.a c.args.b c.args.c c.args.d c.args.e c.args.f c.args.g c.args.h c.requires
