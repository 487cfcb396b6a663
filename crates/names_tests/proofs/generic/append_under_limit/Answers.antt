use Rattle.octseq.proofs.Limits.{taken_within_limit}
use Rattle.names_tests.proofs.generic.append_under_limit.Goals as goal

pub returns-clause-fits : goal.returns-clause-fits
returns-clause-fits g c =
    taken_within_limit _ _ _ _
    (g.met.B.OctetsBuilder.fixed c.append_slice.new.self)
    c.append_slice.ensures.full
