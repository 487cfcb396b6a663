use Rattle.std.proofs.Common.{rules, ℕ, ◌≡◌, ◌+◌, ◌<◌, length, sym, ap, subst, ◌∙◌, arith, slice_set, slice_index, slice_range, length-set}
use Rattle.domain_compress.specs.Ends.{label_hash, first_hash, slot_of, IsMarked}
use Rattle.domain_compress.proofs.Marking.{label_kind, marked_here, marked_still}
use Rattle.domain_compress.proofs.Searching.{Passed, passed_start, passed_more, passed_all, ahead}
use Rattle.domain_compress.proofs.marks.mark_firsts.Goals as goal

pub ends-init : goal.ends-init
ends-init c = record { passed = passed_start _ _ c.requires; whole = search rules }

pub bounds-name-begin : goal.bounds-name-begin
bounds-name-begin c = (ahead _ _ c.requires c.ends.invariant.passed).inside

pub slice_bounds-hash-end : goal.slice_bounds-hash-end
slice_bounds-hash-end c = omega (arith, (ahead _ _ c.requires c.ends.invariant.passed).head_fits, c.from.ensures)

pub ends-preserved : goal.ends-preserved
ends-preserved c =
    let s = c.ends.invariant.passed in
    let marks = slice_set c.ends.marks c.slot.result 1 in
    let name = c.args.name.now in
    let here_label = ap (λ n. label_hash (slice_range name (c.ends.begin + 1) (c.ends.begin + 1 + n))) c.from.ensures in
    let k : c.slot.result ≡ slot_of (first_hash s.after) = c.slot.ensures ∙ ap slot_of (c.hash.ensures ∙ (here_label ∙ label_kind _ _ _ _ s.meets s.absolute)) in
    let fits : c.slot.result < length c.ends.marks = omega (arith, c.slot.ensures, c.ends.invariant.whole) in
    let here : IsMarked marks s.after = subst (λ i. slice_index marks i ≡ 1) k (marked_here c.ends.marks c.slot.result fits) in
    let P : ℕ → Type 0 = λ n. Passed (IsMarked marks) c.args.name.now (c.ends.begin + 1 + n) in
    record {
      passed = subst P (sym c.from.ensures) (passed_more _ _ (λ ys. marked_still c.ends.marks c.slot.result (slot_of (first_hash ys)) fits) s here c.ends-test.true);
      whole = length-set c.ends.marks c.slot.result 1 ∙ c.ends.invariant.whole;
    }

pub returns : goal.returns
returns c = passed_all _ _ c.ends.invariant.passed c.ends-test.false
