use Rattle.std.proofs.Common.{◌≢◌, sym, ap, ◌∙◌}
use Rattle.std.proofs.lemmas.Result.{err_from_is_err_and}
use Rattle.domain_label.proofs.Scanning.{given_some, given_none}
use Rattle.domain_text.specs.BuilderState.{symbol_fault, after}
use Rattle.domain_text.specs.NameSymbols.{name_symbol}
use Rattle.domain_text.specs.declared.name_symbol.NameSymbol.TheVariants.{Dot}
use Rattle.domain_text.proofs.Reading.{name_empty, name_dot, name_dot_first, name_first_refused, name_rest}
use Rattle.domain_text.proofs.text.read_name_text.Goals as goal

pub returns-in-None : goal.returns-in-None
returns-in-None g c = λ all h. name_empty all (given_none g.I.Iterator.next_gives c.args.items c.next.new.self all h c.in-None.ensures.steps)

pub returns-in-None-next : goal.returns-in-None-next
returns-in-None-next g c = λ all h.
    let n = given_some g.I.Iterator.next_gives c.args.items c.next.new.self c.in-Some.item all h c.in-Some.ensures.steps in
    name_dot all n.0 c.in-Some.item c.args.buffer.now c.requires.empty n.1 (given_none g.I.Iterator.next_gives c.next.new.self _ n.0 n.2 c.in-None-next.ensures.steps) (sym c.name_symbol_of-first.ensures ∙ c.if-is_dot.ensures)

pub returns-in-Some-next : goal.returns-in-Some-next
returns-in-Some-next g c = λ all h.
    let n = given_some g.I.Iterator.next_gives c.args.items c.next.new.self c.in-Some.item all h c.in-Some.ensures.steps in
    let m = given_some g.I.Iterator.next_gives c.next.new.self _ _ n.0 n.2 c.in-Some-next.ensures.steps in
    name_dot_first all n.0 m.0 c.in-Some.item _ n.1 m.1 (sym c.name_symbol_of-first.ensures ∙ c.if-is_dot.ensures)

pub returns : goal.returns
returns g c = λ all h.
    let n = given_some g.I.Iterator.next_gives c.args.items c.next.new.self c.in-Some.item all h c.in-Some.ensures.steps in
    let other : name_symbol c.in-Some.item ≢ Dot = λ e. c.if-is_dot.ensures (c.name_symbol_of-first.ensures ∙ e) in
    name_rest all n.0 c.in-Some.item c.args.buffer.now c.push_name_symbol.new.self c.push_name_symbols.new.self c.push_name_symbols.result c.requires.empty n.1 other (ap (symbol_fault c.args.buffer.now) (sym c.name_symbol_of-first.ensures) ∙ c.in_ok-push_name_symbol.ensures.taken) (c.in_ok-push_name_symbol.ensures.made ∙ ap (after c.args.buffer.now) c.name_symbol_of-first.ensures) (c.push_name_symbols.ensures n.0 n.2)

pub returns-in_err-push_name_symbol : goal.returns-in_err-push_name_symbol
returns-in_err-push_name_symbol g c = λ all h.
    let n = given_some g.I.Iterator.next_gives c.args.items c.next.new.self c.in-Some.item all h c.in-Some.ensures.steps in
    let other : name_symbol c.in-Some.item ≢ Dot = λ e. c.if-is_dot.ensures (c.name_symbol_of-first.ensures ∙ e) in
    let p = err_from_is_err_and c.from_residual.result c.from_residual.ensures.1 in
    rw p.1 (name_first_refused all n.0 c.in-Some.item c.args.buffer.now p.0 c.requires.empty n.1 other (rw p.2 (ap (symbol_fault c.args.buffer.now) (sym c.name_symbol_of-first.ensures) ∙ c.in_err-push_name_symbol.ensures.err)))
