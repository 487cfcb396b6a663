use Rattle.std.proofs.Common.{List}
use Rattle.std.specs.Iterator.{AlwaysYields}
use Rattle.domain_text.specs.Buffer.{buffer_view, IsBuffer}
use Rattle.domain_text.proofs.Reading.{Item, IsRead}
use Rattle.domain_text.proofs.buffer.add_symbols.Given as goal

abbrev pub invariant-loop-item : goal.invariant-loop-item
invariant-loop-item g l = IsBuffer l.octets l.ends.head l.ends.open_len × ((all : List Item) → AlwaysYields g.I.Iterator.next_gives (λ x. x) l.fn.items all → (rest : List Item) × AlwaysYields g.I.Iterator.next_gives (λ x. x) l.item-iterator rest × IsRead all rest (buffer_view l.fn.octets l.fn.ends.head l.fn.ends.open_len) (buffer_view l.octets l.ends.head l.ends.open_len))
