use Rattle.std.proofs.Common.{List, ℕ, map, refl, Bor}
use Rattle.dnswalk.proofs.Failing.{asks_neither}
use Rattle.dnswalk.proofs.engine.asked_for.Goals as goal

pub returns-in-None-clause-none : goal.returns-in-None-clause-none
returns-in-None-clause-none c = λ _. asks_neither (map {A = Bor (List ℕ)} {B = List ℕ} (λ word. word.now) c.args.words.now) (c.in_default.ensures.none refl) (c.in-None.ensures.none refl)
