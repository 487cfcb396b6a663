use Rattle.std.proofs.Common.{true, refl, arith}
use Rattle.domain_compress.proofs.FirstFinds.{nowhere_next, stands_first, hashed_otherwise}
use Rattle.domain_compress.proofs.LabelHashes.{known_first, known_rest}
use Rattle.domain_compress.proofs.search.find_first.Goals as goal

pub offsets-preserved-then-entry-first : goal.offsets-preserved-then-entry-first
offsets-preserved-then-entry-first c =
    let old = c.offsets.invariant in
    let is = c.in-Some.ensures.cases.0 in
    let w = c.in-Some.entry.now in
    let there = known_first true _ _ _ w is (λ _. old.hashed) refl in
    record {
      nowhere = nowhere_next _ _ _ _ _ w old.nowhere is (hashed_otherwise _ _ w _ _ c.requires.wire c.requires.some c.from-end.ensures c.hash-first.ensures there c.if-entry-first.true);
      hashed = known_rest true _ _ _ w is (λ _. old.hashed) refl;
      few = old.few;
    }

pub returns-in-Some-pointers_there : goal.returns-in-Some-pointers_there
returns-in-Some-pointers_there c =
    stands_first _ _ _ _ _ c.in-Some.entry.now _ c.requires.wire c.offsets.invariant.nowhere c.in-Some.ensures.cases.0 c.in-Some-pointers_there.ensures.through

pub offsets-preserved : goal.offsets-preserved
offsets-preserved c =
    let old = c.offsets.invariant in
    let is = c.in-Some.ensures.cases.0 in
    let w = c.in-Some.entry.now in
    record {
      nowhere = nowhere_next _ _ _ _ _ w old.nowhere is (c.in_default-pointers_there.ensures.none refl);
      hashed = known_rest true _ _ _ w is (λ _. old.hashed) refl;
      few = omega (arith, old.few, c.if-misses-eq-MOST_MISSES.false);
    }
