use Rattle.std.proofs.Common.{inl, inr, arith, refl}
use Rattle.std.proofs.lemmas.Bool.{false≢true}
use Rattle.domain_compress.proofs.ComparedInMessage.{along_start, ahead_along, along_label, along_pointer, along_all, not_broken, not_back, not_root, not_long, not_same, stands_so}
use Rattle.domain_compress.proofs.search.pointers_at_with.Goals as goal

pub heads-init : goal.heads-init
heads-init g c = along_start _ _ _ c.requires.wire

pub returns-in-Err-clause-none : goal.returns-in-Err-clause-none
returns-in-Err-clause-none g c = λ _. not_broken _ _ c.heads.invariant c.in-Err.ensures.found

pub bounds-name-passed : goal.bounds-name-passed
bounds-name-passed g c = (ahead_along _ c.requires.wire c.heads.invariant).inside

pub returns-then-name-passed-ne0-clause-none : goal.returns-then-name-passed-ne0-clause-none
returns-then-name-passed-ne0-clause-none g c = λ _. not_root _ c.heads.invariant (rw c.in-Root.is at c.in-Ok.ensures.found) c.if-name-passed-ne0.true

pub returns-in-Root-clause-some : goal.returns-in-Root-clause-some
returns-in-Root-clause-some g c = stands_so _ c.requires.wire.1.1 (along_all _ c.heads.invariant (rw c.in-Root.is at c.in-Ok.ensures.found) c.if-name-passed-ne0.false)

pub returns-in-Root-clause-through : goal.returns-in-Root-clause-through
returns-in-Root-clause-through g c = along_all _ c.heads.invariant (rw c.in-Root.is at c.in-Ok.ensures.found) c.if-name-passed-ne0.false

pub bounds-name-passed-in-Label : goal.bounds-name-passed-in-Label
bounds-name-passed-in-Label g c = (ahead_along _ c.requires.wire c.heads.invariant).inside

pub returns-then-name-passed-clause-none : goal.returns-then-name-passed-clause-none
returns-then-name-passed-clause-none g c = λ _. not_long _ c.heads.invariant (rw c.in-Label.is at c.in-Ok.ensures.found) c.if-name-passed.true

pub returns-then-target-at-clause-none : goal.returns-then-target-at-clause-none
returns-then-target-at-clause-none g c = λ _. not_back _ c.heads.invariant (rw c.in-Pointer.is at c.in-Ok.ensures.found).0 (inl c.if-target-at.true)

pub returns-then-pointers-clause-none : goal.returns-then-pointers-clause-none
returns-then-pointers-clause-none g c = λ _. not_back _ c.heads.invariant (rw c.in-Pointer.is at c.in-Ok.ensures.found).0 (inr c.if-pointers.true)

pub heads-preserved : goal.heads-preserved
heads-preserved g c = along_pointer _ c.heads.invariant (rw c.in-Pointer.is at c.in-Ok.ensures.found).0 (omega (arith, c.if-target-at.false)) (omega (arith, c.heads.invariant.few, c.if-pointers.false))

pub slice_bounds-here-end : goal.slice_bounds-here-end
slice_bounds-here-end g c =
    omega (arith, (ahead_along _ c.requires.wire c.heads.invariant).head_fits, c.if-name-passed.false, c.from-size.ensures)

pub returns-then-not-same_octets-clause-none : goal.returns-then-not-same_octets-clause-none
returns-then-not-same_octets-clause-none g c = λ _. not_same _ _ c.heads.invariant (rw c.in-Label.is at c.in-Ok.ensures.found) c.if-name-passed.false c.from-size.ensures (λ e. false≢true (c.if-not-same_octets.ensures.1 e))

pub heads-preserved-in-Label : goal.heads-preserved-in-Label
heads-preserved-in-Label g c = along_label _ _ c.requires.wire c.heads.invariant (rw c.in-Label.is at c.in-Ok.ensures.found) c.if-name-passed.false c.from-size.ensures (c.if-not-same_octets.ensures.0 refl)
