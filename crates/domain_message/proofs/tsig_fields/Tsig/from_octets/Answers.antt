use Rattle.std.proofs.Common.{◌≡◌, ◌<◌, ◌∙◌, arith, false, length, refl, rules, inr, sym}
use Rattle.std.proofs.lemmas.Bool.{eqb-false}
use Rattle.domain_name.specs.Names.{name_labels}
use Rattle.domain_message.specs.TsigFields.IsPartsFault.{no_other, trailing}
use Rattle.domain_message.proofs.tsig_fields.Tsig.from_octets.Goals as goal

pub returns-in_default-split_counted-clause-err : goal.returns-in_default-split_counted-clause-err
returns-in_default-split_counted-clause-err c =
    inr (name_labels c.in-Ok.it.0, c.in-Ok.it.1.now, c.in-Ok.ensures.ok, no_other c.in-Some.mac.now c.in-Some.behind.now c.in-Some.ensures.some (c.in_default-split_counted.ensures.none refl) refl)

pub returns-then-not-is_empty-clause-err : goal.returns-then-not-is_empty-clause-err
returns-then-not-is_empty-clause-err c =
    let is : c.is_empty.result ≡ false = search rules in
    let some : 0 < length c.in-Some-split_counted.rest.now = omega (arith, eqb-false (length c.in-Some-split_counted.rest.now) 0 (sym c.is_empty.ensures ∙ is)) in
    inr (name_labels c.in-Ok.it.0, c.in-Ok.it.1.now, c.in-Ok.ensures.ok, trailing c.in-Some.mac.now c.in-Some.behind.now c.in-Some-split_counted.other.now c.in-Some-split_counted.rest.now c.in-Some.ensures.some c.in-Some-split_counted.ensures.some some c.form_error.ensures)
