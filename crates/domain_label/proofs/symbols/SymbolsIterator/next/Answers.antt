use Rattle.std.proofs.Common.{Ok, Err, refl}
use Rattle.domain_label.proofs.Scanning.{at_end, at_char, at_escape}
use Rattle.domain_label.proofs.symbols.SymbolsIterator.next.Goals as goal

pub returns-in-None-clause-steps : goal.returns-in-None-clause-steps
returns-in-None-clause-steps g c = at_end g.I.Iterator.next_gives _ _ _ c.if-self.false refl c.in-None.ensures.steps

pub returns-in-Ok-clause-steps : goal.returns-in-Ok-clause-steps
returns-in-Ok-clause-steps g c = at_escape g.I.Iterator.next_gives _ _ _ c.in-Some-eq92.field-0 c.if-self.false (Ok c.in-Ok.symbol) c.in-Some-eq92.field-0-test c.in-Some-eq92.ensures.steps c.in-Ok.ensures.escape c.if-self.false

pub returns-in-Err-clause-steps : goal.returns-in-Err-clause-steps
returns-in-Err-clause-steps g c = at_escape g.I.Iterator.next_gives _ _ _ c.in-Some-eq92.field-0 c.if-self.false (Err c.in-Err.error) c.in-Some-eq92.field-0-test c.in-Some-eq92.ensures.steps c.in-Err.ensures.escape refl

pub returns-in-Some-clause-steps : goal.returns-in-Some-clause-steps
returns-in-Some-clause-steps g c = at_char g.I.Iterator.next_gives _ _ _ c.in-Some.c c.if-self.false c.if-self.false refl c.in-Some.c-test.1 c.in-Some.ensures.steps
