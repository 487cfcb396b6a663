use Rattle.std.proofs.Common.{refl}
use Rattle.domain_make.proofs.Once.{no_class}
use Rattle.domain_make.proofs.entry.class_of.Goals as goal

pub returns-in_default-clause-err : goal.returns-in_default-clause-err
returns-in_default-clause-err c = ((refl, refl), no_class c.in_ok-text.text.now c.args.word.now.octets.now c.in_ok-text.ensures.ok.0 c.in_default.ensures)
