use Rattle.std.proofs.Common.{sym, ap, ◌∙◌}
use Rattle.std.proofs.lemmas.Result.{err_from_is_err_and}
use Rattle.domain_label.proofs.Scanning.{given_some, given_none}
use Rattle.domain_text.specs.BuilderState.{symbol_fault, after}
use Rattle.domain_text.specs.Buffer.{buffer_view}
use Rattle.domain_text.proofs.Reading.{read_none, read_more, read_stops, read_all}
use Rattle.domain_text.proofs.buffer.add_symbols.Goals as goal

pub loop-item-init : goal.loop-item-init
loop-item-init g c = (c.requires.inside, λ all h. (all, rw c.into_iter-item-iterator.ensures.into_iter_gives h, read_none all (buffer_view c.args.octets.now c.args.ends.now.head c.args.ends.now.open_len)))

pub loop-item-preserved : goal.loop-item-preserved
loop-item-preserved g c = (
  c.in_ok-add_symbol.ensures.inside,
  λ all h.
      let b = buffer_view c.args.octets.now c.args.ends.now.head c.args.ends.now.open_len in
      let m = buffer_view c.loop-item.octets c.loop-item.ends.head c.loop-item.ends.open_len in
      let now = c.loop-item.invariant.1 all h in
      let n = given_some g.I.Iterator.next_gives c.loop-item.item-iterator c.next.new.self c.in-Some.item now.0 now.1 c.in-Some.ensures.steps in
      (n.0, n.2, read_more all now.0 n.0 c.in-Some.item b m (buffer_view c.add_symbol.new.octets c.add_symbol.new.ends.head c.add_symbol.new.ends.open_len) now.2 n.1 (ap (symbol_fault m) (sym c.name_symbol_of.ensures) ∙ c.in_ok-add_symbol.ensures.taken) (c.in_ok-add_symbol.ensures.made ∙ ap (after m) c.name_symbol_of.ensures)),
)

pub returns-in_err-add_symbol-clause-read : goal.returns-in_err-add_symbol-clause-read
returns-in_err-add_symbol-clause-read g c = λ all h.
    let b = buffer_view c.args.octets.now c.args.ends.now.head c.args.ends.now.open_len in
    let m = buffer_view c.loop-item.octets c.loop-item.ends.head c.loop-item.ends.open_len in
    let now = c.loop-item.invariant.1 all h in
    let n = given_some g.I.Iterator.next_gives c.loop-item.item-iterator c.next.new.self c.in-Some.item now.0 now.1 c.in-Some.ensures.steps in
    let p = err_from_is_err_and c.from_residual.result c.from_residual.ensures.1 in
    rw p.1 (read_stops all now.0 n.0 c.in-Some.item b m (buffer_view c.add_symbol.new.octets c.add_symbol.new.ends.head c.add_symbol.new.ends.open_len) p.0 now.2 n.1 (rw p.2 (ap (symbol_fault m) (sym c.name_symbol_of.ensures) ∙ c.in_err-add_symbol.ensures.err)) c.in_err-add_symbol.ensures.unchanged)

pub returns-clause-read : goal.returns-clause-read
returns-clause-read g c = λ all h.
    let now = c.loop-item.invariant.1 all h in
    read_all all now.0 (buffer_view c.args.octets.now c.args.ends.now.head c.args.ends.now.open_len) (buffer_view c.loop-item.octets c.loop-item.ends.head c.loop-item.ends.open_len) now.2 (given_none g.I.Iterator.next_gives c.loop-item.item-iterator c.next.new.self now.0 now.1 c.in-None.ensures.steps)
