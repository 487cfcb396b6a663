use Rattle.std.proofs.Common.{◌≡◌, [], length, refl, ap, arith}
use Rattle.domain_label.specs.Wire.{wire}
use Rattle.domain_label.proofs.WireLaws.{absolute_wire}
use Rattle.dnsnames_c.proofs.LabelOffsets.{one_more_before, size_before, taken_before}
use Rattle.dnsnames_c.proofs.label.offset_of.Goals as goal

pub labels-init : goal.labels-init
labels-init c = record { wire_form = absolute_wire c.requires.name; few = omega arith; parts = ([], refl, refl) }

pub labels-preserved : goal.labels-preserved
labels-preserved c =
    let p = c.labels.invariant.parts in
    record {
      wire_form = c.in-Some.ensures.rest;
      few = omega (arith, c.labels-test.true);
      parts = one_more_before _ p.0 _ _ _ _ p.1 c.in-Some.ensures.parts p.2;
    }

pub overflow_sub-result : goal.overflow_sub-result
overflow_sub-result c =
    let p = c.labels.invariant.parts in
    let s = size_before c.args.name.now c.labels.rest.now p.0 c.requires.name.0 p.1 c.labels.invariant.wire_form.0 in
    omega (arith, s)

pub returns : goal.returns
returns c =
    let p = c.labels.invariant.parts in
    let s = size_before c.args.name.now c.labels.rest.now p.0 c.requires.name.0 p.1 c.labels.invariant.wire_form.0 in
    let n : length p.0 ≡ c.args.index = omega (arith, p.2, c.labels.invariant.few, c.labels-test.false) in
    omega (arith, s, ap (λ ls. length (wire ls)) (taken_before _ p.0 _ _ p.1 n))
