use Rattle.domain_text.proofs.SymbolsInHand.{gives_whole}
use Rattle.domain_text.proofs.whole.WholeSymbols.new.Goals as goal

pub returns-clause-items : goal.returns-clause-items
returns-clause-items g c = λ ss h. gives_whole g.I.Iterator.next_gives ss _ h
