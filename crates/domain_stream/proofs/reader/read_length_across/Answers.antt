use Rattle.std.proofs.Common.{◌≡◌, ◌<◌, length, sym, ◌∙◌, arith}
use Rattle.std.proofs.lemmas.Bool.{eqb-true, eqb-false}
use Rattle.domain_stream.proofs.Cutting.{field-append}
use Rattle.domain_stream.proofs.Holding.{across_second, across_none, across_both}
use Rattle.domain_stream.proofs.reader.read_length_across.Goals as goal

pub returns-then-held-ge2 : goal.returns-then-held-ge2
returns-then-held-ge2 c =
    c.read_length.ensures ∙ sym (field-append c.args.held.now c.args.piece.now (omega arith))

pub returns-then-is_empty : goal.returns-then-is_empty
returns-then-is_empty c =
    let none : length c.args.held.now ≡ 0 = eqb-true _ _ (sym c.is_empty.ensures ∙ c.if-is_empty.true) in
    c.read_length-then-is_empty.ensures ∙ across_second c.args.held.now c.args.piece.now none

pub returns-then-is_empty-2 : goal.returns-then-is_empty-2
returns-then-is_empty-2 c =
    let none : length c.args.piece.now ≡ 0 = eqb-true _ _ (sym c.is_empty-2.ensures ∙ c.if-is_empty-2.true) in
    across_none c.args.held.now c.args.piece.now (omega arith) none

pub returns : goal.returns
returns c =
    let some : 0 < length c.args.held.now = omega (arith, eqb-false (length c.args.held.now) 0 (sym c.is_empty.ensures ∙ c.if-is_empty.false)) in
    let also : 0 < length c.args.piece.now = omega (arith, eqb-false (length c.args.piece.now) 0 (sym c.is_empty-2.ensures ∙ c.if-is_empty-2.false)) in
    c.from_be_bytes.ensures ∙ across_both c.args.held.now c.args.piece.now (omega arith) some also
