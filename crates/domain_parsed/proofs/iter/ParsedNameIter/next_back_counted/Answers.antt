use Rattle.std.proofs.Common.{arith}
use Rattle.domain_reading.proofs.LabelsOfTable.{labels_over, labels_taken_back, taken_back}
use Rattle.domain_parsed.proofs.iter.ParsedNameIter.next_back_counted.Goals as goal

pub returns-in_err-last-clause-last : goal.returns-in_err-last-clause-last
returns-in_err-last-clause-last g c =
    let s = c.args.self.now in
    let e = labels_over s.octets.now s.base s.entries.now c.in_err-last.ensures.cases in
    rw c.from_residual.ensures (e, e)

pub entry_offset-offset-requires : goal.entry_offset-offset-requires
entry_offset-offset-requires g c =
    let s = c.args.self.now in
    let t = taken_back s.octets.now s.base _ _ _ c.in_ok-last.ensures.cases.0 s.labels_stand in
    omega (arith, t.here)

pub invariant_of-self : goal.invariant_of-self
invariant_of-self g c =
    let s = c.args.self.now in
    record { labels_stand = (taken_back s.octets.now s.base _ _ _ c.in_ok-last.ensures.cases.0 s.labels_stand).stand }

pub read_label-label-requires : goal.read_label-label-requires
read_label-label-requires g c =
    let s = c.args.self.now in
    rw c.entry_offset-offset.ensures (taken_back s.octets.now s.base _ _ _ c.in_ok-last.ensures.cases.0 s.labels_stand).here

pub returns-clause-last : goal.returns-clause-last
returns-clause-last g c =
    let s = c.args.self.now in
    labels_taken_back s.octets.now s.base _ _ _ _ _ c.in_ok-last.ensures.cases.0 c.entry_offset-offset.ensures c.read_label-label.ensures.label
