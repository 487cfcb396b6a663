use Rattle.std.proofs.Common.{inl, inr, sym, ◌∙◌, arith}
use Rattle.domain_compress.proofs.WireLength.{walked_start, walked_label, walked_pointer, none_broken, none_back, none_long, whole_size}
use Rattle.domain_compress.proofs.search.wire_len_at_with.Goals as goal

pub heads-init : goal.heads-init
heads-init g c = walked_start _ _

pub returns-in-Err-clause-none : goal.returns-in-Err-clause-none
returns-in-Err-clause-none g c = λ _. none_broken _ c.heads.invariant c.in-Err.ensures.found

pub returns-in-Root-clause-some : goal.returns-in-Root-clause-some
returns-in-Root-clause-some g c = whole_size c.heads.invariant (rw c.in-Root.is at c.in-Ok.ensures.found)

pub returns-then-len-more-gt-MAX_BEFORE_ROOT-clause-none : goal.returns-then-len-more-gt-MAX_BEFORE_ROOT-clause-none
returns-then-len-more-gt-MAX_BEFORE_ROOT-clause-none g c =
    let x = rw c.in-Label.is at c.in-Ok.ensures.found in
    λ _. none_long c.from-more.result c.heads.invariant (x.0, x.1 ∙ sym c.from-more.ensures, x.2) (omega arith)

pub heads-preserved-in-Label : goal.heads-preserved-in-Label
heads-preserved-in-Label g c =
    let x = rw c.in-Label.is at c.in-Ok.ensures.found in
    walked_label c.from-more.result c.heads.invariant (x.0, x.1 ∙ sym c.from-more.ensures, x.2) (omega arith)

pub returns-then-target-at-clause-none : goal.returns-then-target-at-clause-none
returns-then-target-at-clause-none g c = λ _. none_back c.heads.invariant (rw c.in-Pointer.is at c.in-Ok.ensures.found).0 (inl c.if-target-at.true)

pub returns-then-pointers-clause-none : goal.returns-then-pointers-clause-none
returns-then-pointers-clause-none g c = λ _. none_back c.heads.invariant (rw c.in-Pointer.is at c.in-Ok.ensures.found).0 (inr c.if-pointers.true)

pub heads-preserved : goal.heads-preserved
heads-preserved g c = walked_pointer c.heads.invariant (rw c.in-Pointer.is at c.in-Ok.ensures.found).0 (omega (arith, c.if-target-at.false)) (omega (arith, c.heads.invariant.few, c.if-pointers.false))
