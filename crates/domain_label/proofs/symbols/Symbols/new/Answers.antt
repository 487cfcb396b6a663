use Rattle.std.proofs.Common.{refl}
use Rattle.domain_label.proofs.Scanning.{gives_items}
use Rattle.domain_label.proofs.symbols.Symbols.new.Goals as goal

pub returns-clause-items : goal.returns-clause-items
returns-clause-items g c = λ cs items h reads. gives_items g.I.Iterator.next_gives items _ cs refl h reads
