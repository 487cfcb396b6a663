use Rattle.std.proofs.Common.{ℕ, ◌+◌, List, refl, sym, subst, arith}
use Rattle.domain_label.specs.Wire.{labels_in, IsAbsoluteWire}
use Rattle.domain_compress.specs.Compressing.{NoneRemembered}
use Rattle.domain_compress.specs.Written.{all_remembered, FirstFound}
use Rattle.domain_compress.proofs.FirstFinds.{suffix_first}
use Rattle.domain_compress.proofs.Searching.{Passed, passed_start, passed_next, passed_all, ahead, after_all}
use Rattle.domain_compress.proofs.search.suffix_by_hashes.Goals as goal

pub ends-init : goal.ends-init
ends-init c = record { passed = passed_start _ _ c.requires.wire; few = omega arith }

pub bounds-name-begin : goal.bounds-name-begin
bounds-name-begin c = (ahead _ _ c.requires.wire c.ends.invariant.passed).inside

pub find_first-requires-clause-wire : goal.find_first-requires-clause-wire
find_first-requires-clause-wire c =
    subst IsAbsoluteWire (sym (after_all c.args.name.now c.ends.begin)) (ahead _ _ c.requires.wire c.ends.invariant.passed).wire_form

pub returns-in-Some-found : goal.returns-in-Some-found
returns-in-Some-found c =
    let s = c.ends.invariant.passed in
    let at = c.in-Some-found.at in
    let P : List (List ℕ) → Type 0 = λ ls. FirstFound c.args.octets.now c.args.written.now ls at.offset at.pointers in
    let here = subst (λ o. P (labels_in o)) (after_all c.args.name.now c.ends.begin) (rw c.in-Some-found.is at c.in-Some.ensures) in
    suffix_first _ _ _ _ _ c.requires.wire s c.ends-test.true refl (subst P (ahead _ _ c.requires.wire s).spelled here)

pub ends-preserved : goal.ends-preserved
ends-preserved c =
    let s = c.ends.invariant.passed in
    let None : List (List ℕ) → Type 0 = NoneRemembered c.args.octets.now (all_remembered c.args.written.now) in
    let there = subst (λ o. None (labels_in o)) (after_all c.args.name.now c.ends.begin) (rw c.in_default-found.is at c.in-Some.ensures) in
    let here : None s.after = subst None (ahead _ _ c.requires.wire s).spelled there in
    let P : ℕ → Type 0 = λ k. Passed None c.args.name.now (c.ends.begin + 1 + k) in
    record {
      passed = subst P (sym c.from.ensures) (passed_next _ _ s here c.ends-test.true);
      few = omega (arith, c.ends.invariant.few, c.if-suffixes-eq-MOST_SUFFIXES.false);
    }

pub returns : goal.returns
returns c = passed_all _ _ c.ends.invariant.passed c.ends-test.false
