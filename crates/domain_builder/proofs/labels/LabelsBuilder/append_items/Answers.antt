use Rattle.std.proofs.Common.{sym, ap, ◌∙◌, arith}
use Rattle.std.proofs.lemmas.Result.{err_from_is_err_and}
use Rattle.domain_label.proofs.Scanning.{given_some, given_none}
use Rattle.domain_text.specs.BuilderState.{symbol_fault, after}
use Rattle.domain_text.proofs.Reading.{read_none, read_more, read_all}
use Rattle.domain_builder.specs.Inside.{room}
use Rattle.domain_builder.proofs.Pushes.{takes_stop}
use Rattle.domain_builder.proofs.labels.LabelsBuilder.append_items.Goals as goal

pub loop-item-init : goal.loop-item-init
loop-item-init g c =
    record {
      takes = λ all h. (all, rw c.into_iter-item-iterator.ensures.into_iter_gives h, read_none all c.args.self.now.built);
      capacity = omega arith;
    }

pub loop-item-preserved : goal.loop-item-preserved
loop-item-preserved g c =
    record {
      takes = λ all h.
          let now = c.loop-item.invariant.takes all h in
          let n = given_some g.I.Iterator.next_gives c.loop-item.item-iterator c.next.new.self c.in-Some.item now.0 now.1 c.in-Some.ensures.steps in
          (n.0, n.2, read_more all now.0 n.0 c.in-Some.item c.args.self.now.built c.loop-item.self.built c.push_name_symbol.new.self.built now.2 n.1 (ap (symbol_fault c.loop-item.self.built) (sym c.name_symbol_of.ensures) ∙ c.in_ok-push_name_symbol.ensures.takes.0) (c.in_ok-push_name_symbol.ensures.takes.1 ∙ ap (after c.loop-item.self.built) c.name_symbol_of.ensures));
      capacity = omega (arith, c.loop-item.invariant.capacity, c.push_name_symbol.ensures.capacity);
    }

pub returns-in_err-push_name_symbol-clause-takes : goal.returns-in_err-push_name_symbol-clause-takes
returns-in_err-push_name_symbol-clause-takes g c = λ all h.
    let now = c.loop-item.invariant.takes all h in
    let n = given_some g.I.Iterator.next_gives c.loop-item.item-iterator c.next.new.self c.in-Some.item now.0 now.1 c.in-Some.ensures.steps in
    let p = err_from_is_err_and c.from_residual.result c.from_residual.ensures.1 in
    rw p.1 (takes_stop all now.0 n.0 c.in-Some.item (room g.B.Octets.limit c.push_name_symbol.new.self) c.args.self.now.built c.loop-item.self.built c.push_name_symbol.new.self.built c.name_symbol_of.result p.0 now.2 n.1 c.name_symbol_of.ensures (rw p.2 c.in_err-push_name_symbol.ensures.takes))

pub returns-clause-takes : goal.returns-clause-takes
returns-clause-takes g c = λ all h.
    let now = c.loop-item.invariant.takes all h in
    read_all all now.0 c.args.self.now.built c.loop-item.self.built now.2 (given_none g.I.Iterator.next_gives c.loop-item.item-iterator c.next.new.self now.0 now.1 c.in-None.ensures.steps)
