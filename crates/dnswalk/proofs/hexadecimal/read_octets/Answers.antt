use Rattle.std.proofs.Common.{sym, subst, arith, ◌≡◌, ◌∙◌, [], take, drop, length-set, append-nil}
use Rattle.std.proofs.Math.ListN.{drop_of_length-le}
use Rattle.dnswalk.specs.Hexadecimal.{IsHexText}
use Rattle.dnswalk.specs.Hexadecimal.IsHexText.{nothing}
use Rattle.dnswalk.proofs.HexTexts.{reads_white, reads_octet, left_behind, still_left, fault_after_white, fault_after_octet, fault_here, after_feed, after_other}
use Rattle.dnswalk.proofs.hexadecimal.read_octets.Goals as goal
use Rattle.dnswalk.proofs.hexadecimal.read_octets.Goals.{then-octet-eq10, else-octet-eq10}

pub loop-at-preserved-then-is_white : goal.loop-at-preserved-then-is_white
loop-at-preserved-then-is_white c =
    let found = c.is_white.ensures.0 c.if-is_white.true in
    let before = c.loop-at.invariant in
    record {
      written = omega arith;
      inside = omega arith;
      lines = elim c.if-octet-eq10.branch [ then-octet-eq10 w ↦ omega (arith, w.line-is, before.lines) | else-octet-eq10 w ↦ omega (arith, w.line-is, before.lines) ];
      columns = elim c.if-octet-eq10.branch [ then-octet-eq10 w ↦ omega (arith, w.column-is, before.columns) | else-octet-eq10 w ↦ omega (arith, w.column-is, before.columns) ];
      rest = still_left 1 c.loop-at.at c.loop-at.text c.args.text.now before.rest;
      read = reads_white c.args.text.now c.loop-at.text c.args.text.now c.loop-at.at c.loop-at.count c.loop-at-test.true before.rest found before.read;
      fault = elim c.if-octet-eq10.branch [
        | then-octet-eq10 w ↦ fault_after_white _ _ _ c.args.text.now c.loop-at.text c.args.text.now c.loop-at.at c.loop-at-test.true before.rest found (after_feed _ _ _ _ _ w.if-octet-eq10.true w.line-is w.column-is) before.fault
        | else-octet-eq10 w ↦ fault_after_white _ _ _ c.args.text.now c.loop-at.text c.args.text.now c.loop-at.at c.loop-at-test.true before.rest found (after_other _ _ _ _ _ w.if-octet-eq10.false w.line-is w.column-is) before.fault
      ];
    }

pub returns-in-Err-clause-err : goal.returns-in-Err-clause-err
returns-in-Err-clause-err c = fault_here _ _ _ c.loop-at.text c.args.text.now c.loop-at.at _ _ c.loop-at.invariant.rest c.in-Err.ensures.err c.loop-at.invariant.fault

pub loop-at-preserved : goal.loop-at-preserved
loop-at-preserved c =
    let before = c.loop-at.invariant in
    record {
      written = omega arith;
      inside = omega (arith, c.in-Ok.ensures.whole, length-set c.loop-at.text c.loop-at.count c.in-Ok.read);
      lines = omega arith;
      columns = omega arith;
      rest = left_behind c.loop-at.text c.args.text.now c.loop-at.at c.loop-at.count c.in-Ok.read before.written before.rest;
      read = reads_octet c.args.text.now c.loop-at.text c.args.text.now c.loop-at.at c.loop-at.count c.in-Ok.read before.written c.in-Ok.ensures.whole before.rest c.in-Ok.ensures.ok before.read;
      fault = fault_after_octet _ _ c.args.text.now c.loop-at.text c.args.text.now c.loop-at.at c.in-Ok.read c.in-Ok.ensures.whole before.rest c.in-Ok.ensures.ok before.fault;
    }

pub returns-clause-ok : goal.returns-clause-ok
returns-clause-ok c =
    let end : drop c.loop-at.at c.args.text.now ≡ [] = sym c.loop-at.invariant.rest ∙ drop_of_length-le c.loop-at.text c.loop-at-test.false in
    let whole = c.loop-at.invariant.read [] (subst (λ t. IsHexText t []) (sym end) nothing) in
    subst (λ t. IsHexText c.args.text.now t) (append-nil (take c.loop-at.count c.loop-at.text)) whole
