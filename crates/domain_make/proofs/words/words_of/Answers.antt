use Rattle.domain_make.proofs.Once.{are_words}
use Rattle.domain_make.proofs.words.words_of.Goals as goal

pub returns-in-Ok-clause-ok : goal.returns-in-Ok-clause-ok
returns-in-Ok-clause-ok c = are_words _ _ _ _ _ c.requires.found c.as_slice.ensures.value c.in-Ok.ensures.ok
