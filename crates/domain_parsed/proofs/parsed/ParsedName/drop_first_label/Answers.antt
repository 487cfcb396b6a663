use Rattle.std.proofs.Common.{◌≡◌, ◌+◌, length, slice_index, sym, ap, ◌∙◌, arith}
use Rattle.domain_label.specs.Labels.{label_octets}
use Rattle.domain_reading.specs.Offsets.{entry_offset, label_at}
use Rattle.domain_parsed.proofs.Parents.{many_labels, not_so}
use Rattle.domain_parsed.proofs.Dropping.{drop_first}
use Rattle.domain_parsed.proofs.Splitting.{standing, one_relative}
use Rattle.domain_parsed.proofs.parsed.ParsedName.drop_first_label.Goals as goal

pub entry_offset-start-requires : goal.entry_offset-start-requires
entry_offset-start-requires g c =
    let s = c.args.self.now in
    let o = g.Octs.Octets.octets s.octets in
    let d = drop_first o s.base s.entries s.dropped s.count s.dropped_len s.name_len s.compressed s.has_label (omega arith) s.labels_stand s.absolute s.is_sized s.contiguous (not_so c.is_root.ensures c.if-is_root.false) in
    let e = ap (λ xs. length xs) c.as_slice-octets.ensures.octets in
    rw c.from.ensures (omega (arith, d.here, d.is_entry, e))

pub label_at_offset-requires : goal.label_at_offset-requires
label_at_offset-requires g c =
    let s = c.args.self.now in
    let o = g.Octs.Octets.octets s.octets in
    let d = drop_first o s.base s.entries s.dropped s.count s.dropped_len s.name_len s.compressed s.has_label (omega arith) s.labels_stand s.absolute s.is_sized s.contiguous (not_so c.is_root.ensures c.if-is_root.false) in
    let here : c.entry_offset-start.result ≡ d.offset = c.entry_offset-start.ensures ∙ (ap (λ i. entry_offset s.base (slice_index s.entries i)) c.from.ensures ∙ sym d.is_entry) in
    rw (c.as_slice-octets.ensures.octets, here) d.here

pub overflow_sub-self : goal.overflow_sub-self
overflow_sub-self g c =
    let s = c.args.self.now in
    let o = g.Octs.Octets.octets s.octets in
    let d = drop_first o s.base s.entries s.dropped s.count s.dropped_len s.name_len s.compressed s.has_label (omega arith) s.labels_stand s.absolute s.is_sized s.contiguous (not_so c.is_root.ensures c.if-is_root.false) in
    let here : c.entry_offset-start.result ≡ d.offset = c.entry_offset-start.ensures ∙ (ap (λ i. entry_offset s.base (slice_index s.entries i)) c.from.ensures ∙ sym d.is_entry) in
    let label : label_octets c.label_at_offset.result ≡ d.label = c.label_at_offset.ensures ∙ (ap (λ m. label_at m c.entry_offset-start.result) c.as_slice-octets.ensures.octets ∙ (ap (λ p. label_at o p) here ∙ sym d.is_label)) in
    omega (arith, c.len.ensures, ap (λ l. length l) label, d.rest.fits)

pub overflow_add-result : goal.overflow_add-result
overflow_add-result g c =
    let s = c.args.self.now in
    let o = g.Octs.Octets.octets s.octets in
    let d = drop_first o s.base s.entries s.dropped s.count s.dropped_len s.name_len s.compressed s.has_label (omega arith) s.labels_stand s.absolute s.is_sized s.contiguous (not_so c.is_root.ensures c.if-is_root.false) in
    let here : c.entry_offset-start.result ≡ d.offset = c.entry_offset-start.ensures ∙ (ap (λ i. entry_offset s.base (slice_index s.entries i)) c.from.ensures ∙ sym d.is_entry) in
    let label : label_octets c.label_at_offset.result ≡ d.label = c.label_at_offset.ensures ∙ (ap (λ m. label_at m c.entry_offset-start.result) c.as_slice-octets.ensures.octets ∙ (ap (λ p. label_at o p) here ∙ sym d.is_label)) in
    omega (arith, c.len.ensures, ap (λ l. length l) label, d.here, d.head, here, ap (λ xs. length xs) c.as_slice-octets.ensures.octets, c.from-2.ensures)

pub invariant_of-self-clause-has_label : goal.invariant_of-self-clause-has_label
invariant_of-self-clause-has_label g c =
    let s = c.args.self.now in
    let o = g.Octs.Octets.octets s.octets in
    let d = drop_first o s.base s.entries s.dropped s.count s.dropped_len s.name_len s.compressed s.has_label (omega arith) s.labels_stand s.absolute s.is_sized s.contiguous (not_so c.is_root.ensures c.if-is_root.false) in
    d.some

pub invariant_of-self-clause-labels_stand : goal.invariant_of-self-clause-labels_stand
invariant_of-self-clause-labels_stand g c =
    let s = c.args.self.now in
    let o = g.Octs.Octets.octets s.octets in
    let d = drop_first o s.base s.entries s.dropped s.count s.dropped_len s.name_len s.compressed s.has_label (omega arith) s.labels_stand s.absolute s.is_sized s.contiguous (not_so c.is_root.ensures c.if-is_root.false) in
    d.stand

pub invariant_of-self-clause-absolute : goal.invariant_of-self-clause-absolute
invariant_of-self-clause-absolute g c =
    let s = c.args.self.now in
    let o = g.Octs.Octets.octets s.octets in
    let d = drop_first o s.base s.entries s.dropped s.count s.dropped_len s.name_len s.compressed s.has_label (omega arith) s.labels_stand s.absolute s.is_sized s.contiguous (not_so c.is_root.ensures c.if-is_root.false) in
    d.rest.absolute

pub invariant_of-self-clause-is_sized : goal.invariant_of-self-clause-is_sized
invariant_of-self-clause-is_sized g c =
    let s = c.args.self.now in
    let o = g.Octs.Octets.octets s.octets in
    let d = drop_first o s.base s.entries s.dropped s.count s.dropped_len s.name_len s.compressed s.has_label (omega arith) s.labels_stand s.absolute s.is_sized s.contiguous (not_so c.is_root.ensures c.if-is_root.false) in
    let here : c.entry_offset-start.result ≡ d.offset = c.entry_offset-start.ensures ∙ (ap (λ i. entry_offset s.base (slice_index s.entries i)) c.from.ensures ∙ sym d.is_entry) in
    let label : label_octets c.label_at_offset.result ≡ d.label = c.label_at_offset.ensures ∙ (ap (λ m. label_at m c.entry_offset-start.result) c.as_slice-octets.ensures.octets ∙ (ap (λ p. label_at o p) here ∙ sym d.is_label)) in
    let len : c.len.result ≡ length d.label = c.len.ensures ∙ ap (λ l. length l) label in
    rw len d.rest.sized

pub invariant_of-self-clause-short : goal.invariant_of-self-clause-short
invariant_of-self-clause-short g c =
    let s = c.args.self.now in
    let o = g.Octs.Octets.octets s.octets in
    let d = drop_first o s.base s.entries s.dropped s.count s.dropped_len s.name_len s.compressed s.has_label (omega arith) s.labels_stand s.absolute s.is_sized s.contiguous (not_so c.is_root.ensures c.if-is_root.false) in
    let here : c.entry_offset-start.result ≡ d.offset = c.entry_offset-start.ensures ∙ (ap (λ i. entry_offset s.base (slice_index s.entries i)) c.from.ensures ∙ sym d.is_entry) in
    let label : label_octets c.label_at_offset.result ≡ d.label = c.label_at_offset.ensures ∙ (ap (λ m. label_at m c.entry_offset-start.result) c.as_slice-octets.ensures.octets ∙ (ap (λ p. label_at o p) here ∙ sym d.is_label)) in
    let len : c.len.result ≡ length d.label = c.len.ensures ∙ ap (λ l. length l) label in
    rw len (omega (arith, s.short, d.rest.fits))

pub invariant_of-self-clause-contiguous : goal.invariant_of-self-clause-contiguous
invariant_of-self-clause-contiguous g c =
    let s = c.args.self.now in
    let o = g.Octs.Octets.octets s.octets in
    let d = drop_first o s.base s.entries s.dropped s.count s.dropped_len s.name_len s.compressed s.has_label (omega arith) s.labels_stand s.absolute s.is_sized s.contiguous (not_so c.is_root.ensures c.if-is_root.false) in
    let here : c.entry_offset-start.result ≡ d.offset = c.entry_offset-start.ensures ∙ (ap (λ i. entry_offset s.base (slice_index s.entries i)) c.from.ensures ∙ sym d.is_entry) in
    let label : label_octets c.label_at_offset.result ≡ d.label = c.label_at_offset.ensures ∙ (ap (λ m. label_at m c.entry_offset-start.result) c.as_slice-octets.ensures.octets ∙ (ap (λ p. label_at o p) here ∙ sym d.is_label)) in
    let len : c.len.result ≡ length d.label = c.len.ensures ∙ ap (λ l. length l) label in
    rw len d.flat

pub returns-clause-some : goal.returns-clause-some
returns-clause-some g c =
    let s = c.args.self.now in
    let o = g.Octs.Octets.octets s.octets in
    let d = drop_first o s.base s.entries s.dropped s.count s.dropped_len s.name_len s.compressed s.has_label (omega arith) s.labels_stand s.absolute s.is_sized s.contiguous (not_so c.is_root.ensures c.if-is_root.false) in
    let here : c.entry_offset-start.result ≡ d.offset = c.entry_offset-start.ensures ∙ (ap (λ i. entry_offset s.base (slice_index s.entries i)) c.from.ensures ∙ sym d.is_entry) in
    let label : label_octets c.label_at_offset.result ≡ d.label = c.label_at_offset.ensures ∙ (ap (λ m. label_at m c.entry_offset-start.result) c.as_slice-octets.ensures.octets ∙ (ap (λ p. label_at o p) here ∙ sym d.is_label)) in
    let len : c.from-2.result ≡ length d.label + 1 = omega (arith, c.from-2.ensures, c.len.ensures, ap (λ l. length l) label) in
    let t = standing o d.label d.offset c.from-2.result d.here d.head (sym d.is_label) len in
    record {
      label = d.label;
      labels = d.labels;
      relative = one_relative d.label d.rest.nonempty d.rest.short;
      ordered = omega arith;
      inside = rw here t.inside;
      stands = rw here t.stands;
    }

pub returns-clause-more : goal.returns-clause-more
returns-clause-more g c = λ _. many_labels _ c.args.self.now.absolute.0 (not_so c.is_root.ensures c.if-is_root.false)
