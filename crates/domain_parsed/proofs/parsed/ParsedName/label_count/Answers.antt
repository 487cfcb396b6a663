use Rattle.std.proofs.Common.{sym, ◌∙◌, arith}
use Rattle.domain_reading.proofs.LabelsOfTable.{length-labels, slice_size}
use Rattle.domain_parsed.proofs.parsed.ParsedName.label_count.Goals as goal

pub returns : goal.returns
returns g c =
    let s = c.args.self.now in
    c.from.ensures ∙ (sym (slice_size s.entries s.dropped s.count (omega arith)) ∙ sym (length-labels _ s.base _))
