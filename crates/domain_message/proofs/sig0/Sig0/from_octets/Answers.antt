use Rattle.std.proofs.Common.{◌≡◌, ◌-◌, arith, drop, inr, length, slice_range, subst}
use Rattle.std.proofs.lemmas.List.{take_all, length-drop}
use Rattle.domain_flat.specs.Faults.{StartFault}
use Rattle.domain_wire.specs.Refusals.{refusal}
use Rattle.domain_message.proofs.sig0.Sig0.from_octets.Goals as goal

pub returns-in-Err-clause-err : goal.returns-in-Err-clause-err
returns-in-Err-clause-err c =
    let octets = c.args.octets.now in
    let rest : slice_range octets 18 (length octets) ≡ drop 18 octets = take_all (length octets - 18) (drop 18 octets) (omega (arith, length-drop 18 octets)) in
    inr (omega (arith, c.if-octets-lt18.false), subst (λ o. StartFault o (refusal c.in-Err.e)) rest c.in-Err.ensures.err)
