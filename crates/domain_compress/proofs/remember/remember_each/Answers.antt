use Rattle.std.proofs.Common.{List, ◌≡◌, subst, sym, ◌+◌, ◌∙◌, arith, length}
use Rattle.domain_compress.specs.Compressing.{RememberedLabel}
use Rattle.domain_compress.specs.Written.{all_remembered}
use Rattle.domain_compress.proofs.Remembering.{Remembered, remember_start, remember_next, remember_full, remember_root, remember_far, remember_all, remembered_size, remembered_push}
use Rattle.domain_compress.proofs.LabelHashes.{known_push, label_short, written_hash}
use Rattle.domain_compress.proofs.remember.remember_each.Goals as goal

pub slice_bounds-label-end : goal.slice_bounds-label-end
slice_bounds-label-end c =
    omega (arith, (label_short _ _ _ _ c.labels.invariant.done.meets c.labels-test.true).1, c.from-len.ensures)

pub labels-init : goal.labels-init
labels-init c = record {
  done = remember_start _ _ _ _ c.requires.labels;
  known = λ counts t there old. old;
  grown = omega arith;
  few = omega (arith, remembered_size c.args.written.now.items, c.remaining_capacity.ensures);
}

pub returns-then-remaining_capacity-eq0-clause-offsets : goal.returns-then-remaining_capacity-eq0-clause-offsets
returns-then-remaining_capacity-eq0-clause-offsets c =
    remember_full _ _ c.args.labels.now _ _ 0 (remember_start (all_remembered c.args.written.now.items) c.args.labels.now c.args.start c.args.end c.requires.labels) (omega (arith, remembered_size c.args.written.now.items, c.remaining_capacity.ensures))

pub returns-then-remaining_capacity-eq0-2-clause-offsets : goal.returns-then-remaining_capacity-eq0-2-clause-offsets
returns-then-remaining_capacity-eq0-2-clause-offsets c =
    remember_full _ _ _ _ _ _ c.labels.invariant.done (omega (arith, remembered_size c.labels.written.items, c.remaining_capacity-in-labels.ensures))

pub returns-then-len-eq0-clause-offsets : goal.returns-then-len-eq0-clause-offsets
returns-then-len-eq0-clause-offsets c = remember_root _ _ _ _ _ _ c.labels.invariant.done c.labels.invariant.few (sym c.from-len.ensures ∙ c.if-len-eq0.true)

pub returns-then-start-ge-OFFSETS_END-clause-offsets : goal.returns-then-start-ge-OFFSETS_END-clause-offsets
returns-then-start-ge-OFFSETS_END-clause-offsets c = remember_far _ _ _ _ _ _ c.labels.invariant.done c.labels.invariant.few (omega arith)

pub returns-then-start-at-ge-OFFSETS_END-clause-offsets : goal.returns-then-start-at-ge-OFFSETS_END-clause-offsets
returns-then-start-at-ge-OFFSETS_END-clause-offsets c = remember_far _ _ _ _ _ _ c.labels.invariant.done c.labels.invariant.few (omega arith)

pub labels-preserved : goal.labels-preserved
labels-preserved c =
    let P : List RememberedLabel → Type 0 = λ ws. Remembered (all_remembered c.args.written.now.items) ws c.args.labels.now c.args.start c.args.end (c.labels.at + 1 + c.from-len.result) in
    let size : length c.push.new.self.items ≡ length c.labels.written.items + 1 = c.push.ensures.len in
    record {
      done = subst P (sym (remembered_push _ _ _ c.push.ensures.items)) (remember_next _ _ _ _ _ _ _ c.labels.invariant.done c.labels-test.true (sym c.from-len.ensures) (omega arith) (omega arith));
      known = λ counts t there old.
          let here = written_hash t _ _ _ _ _ _ _ _ c.labels.invariant.done.meets c.labels-test.true c.from-len.ensures (c.hash_if.ensures counts) there in
          known_push t _ _ _ (c.labels.invariant.known counts t there old) here c.push.ensures.items;
      grown = omega (arith, c.labels.invariant.grown, size);
      few = omega (arith, remembered_size c.push.new.self.items, size, c.remaining_capacity-in-labels.ensures);
    }

pub returns-clause-offsets : goal.returns-clause-offsets
returns-clause-offsets c = remember_all _ _ _ _ _ _ c.labels.invariant.done c.labels.invariant.few (omega arith)
