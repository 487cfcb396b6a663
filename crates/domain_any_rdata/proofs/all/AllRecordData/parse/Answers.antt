use Rattle.std.proofs.Common.{ℕ, ◌-◌, ◌≤◌, List, length, take, drop, ap, sym, ◌∙◌, arith, length-drop}
use Rattle.std.proofs.lemmas.List.{take_all}
use Rattle.domain_descriptor.specs.Rdatas.{rdata_message}
use Rattle.domain_any_rdata.proofs.Named.{known_kinds, data_certain, data_named}
use Rattle.domain_any_rdata.proofs.all.AllRecordData.parse.Goals as goal

pub invariant_of-result : goal.invariant_of-result
invariant_of-result c =
    let m = c.args.message.now in
    let it = c.in-Ok.rdata in
    let is = c.in-Ok.ensures.ok in
    record {
      whole = take_all (length m - c.args.begin) (drop c.args.begin m) (omega (arith, length-drop c.args.begin m))
          ∙ ap (λ (x : List ℕ). drop c.args.begin x) (sym is.octets) ∙ ap (λ (x : ℕ). drop x (rdata_message it)) (sym is.begins);
      known = known_kinds _ _ _ _ it c.in-Ok.ensures.ok;
      certain = data_certain _ _ _ _ it c.in-Ok.ensures.ok c.in-Ok.ensures.whole;
      named = data_named _ _ _ _ it c.in-Ok.ensures.ok c.in-Ok.ensures.whole;
    }
