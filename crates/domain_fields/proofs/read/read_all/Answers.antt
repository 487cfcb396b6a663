use Rattle.std.proofs.Common.{ap, arith, length}
use Rattle.domain_fields.specs.Data.NotAll.{trailing}
use Rattle.domain_fields.proofs.Parsers.{same_message}
use Rattle.domain_fields.proofs.read.read_all.Goals as goal

pub returns-then-pos-as_slice-clause-err : goal.returns-then-pos-as_slice-clause-err
returns-then-pos-as_slice-clause-err g c =
    let same = ap length (same_message _ _ _ c.in-Ok.ensures.moves) in
    let here = c.pos.ensures.offset in
    let octets = ap length c.as_slice.ensures in
    let less = c.if-pos-as_slice.true in
    trailing (g.F.ReadField.model c.in-Ok.value) _ c.in-Ok.ensures.ok (omega (arith, same, here, octets, less)) c.trailing_data.ensures
