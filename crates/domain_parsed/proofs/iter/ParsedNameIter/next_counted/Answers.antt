use Rattle.std.proofs.Common.{arith, refl}
use Rattle.domain_reading.proofs.LabelsOfTable.{labels_over, labels_taken, taken}
use Rattle.domain_parsed.proofs.iter.ParsedNameIter.next_counted.Goals as goal

pub returns-in_err-first-clause-first : goal.returns-in_err-first-clause-first
returns-in_err-first-clause-first g c =
    let s = c.args.self.now in
    let e = labels_over s.octets.now s.base s.entries.now c.in_err-first.ensures.cases in
    rw c.from_residual.ensures (e, e)

pub returns-in_err-first-clause-counted : goal.returns-in_err-first-clause-counted
returns-in_err-first-clause-counted g c = rw c.from_residual.ensures refl

pub entry_offset-offset-requires : goal.entry_offset-offset-requires
entry_offset-offset-requires g c =
    let s = c.args.self.now in
    let t = taken s.octets.now s.base _ _ _ c.in_ok-first.ensures.cases.0 s.labels_stand in
    omega (arith, t.here)

pub invariant_of-self : goal.invariant_of-self
invariant_of-self g c =
    let s = c.args.self.now in
    record { labels_stand = (taken s.octets.now s.base _ _ _ c.in_ok-first.ensures.cases.0 s.labels_stand).stand }

pub read_label-label-requires : goal.read_label-label-requires
read_label-label-requires g c =
    let s = c.args.self.now in
    rw c.entry_offset-offset.ensures (taken s.octets.now s.base _ _ _ c.in_ok-first.ensures.cases.0 s.labels_stand).here

pub returns-clause-first : goal.returns-clause-first
returns-clause-first g c =
    let s = c.args.self.now in
    labels_taken s.octets.now s.base _ _ _ _ _ c.in_ok-first.ensures.cases.0 c.entry_offset-offset.ensures c.read_label-label.ensures.label
