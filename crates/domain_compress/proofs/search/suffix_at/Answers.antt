use Rattle.std.proofs.Common.{ℕ, ◌+◌, List, refl, sym, subst, arith}
use Rattle.domain_label.specs.Wire.{labels_in, IsAbsoluteWire}
use Rattle.domain_rdata.specs.ReadBack.{StandsAt}
use Rattle.domain_compress.specs.Written.{StandsThrough}
use Rattle.domain_compress.proofs.Searching.{Passed, passed_start, passed_next, passed_all, passed_upto, end_stands, ahead, after_all, meets_length}
use Rattle.domain_compress.proofs.search.suffix_at.Goals as goal
use Rattle.domain_compress.proofs.search.suffix_at.Goals.{then-name-begin+in_default-pointers_at, else-name-begin}

pub ends-init : goal.ends-init
ends-init c = passed_start _ _ c.requires

pub bounds-name-begin : goal.bounds-name-begin
bounds-name-begin c = (ahead _ _ c.requires c.ends.invariant).inside

pub returns-in_default-clause-none : goal.returns-in_default-clause-none
returns-in_default-clause-none c = λ _ xs ys e more lt. c.in_default.ensures.none refl ys

pub returns-then-name-begin-eq0-clause-none : goal.returns-then-name-begin-eq0-clause-none
returns-then-name-begin-eq0-clause-none c = λ _ xs ys e more lt. passed_all _ _ c.ends.invariant c.if-name-begin-eq0.true xs ys e more

pub pointers_at-requires : goal.pointers_at-requires
pointers_at-requires c =
    subst IsAbsoluteWire (sym (after_all c.args.name.now c.ends.begin)) (ahead _ _ c.requires c.ends.invariant).wire_form

pub returns-in-Some-pointers_at-clause-some : goal.returns-in-Some-pointers_at-clause-some
returns-in-Some-pointers_at-clause-some c =
    let P : List ℕ → Type 0 = λ o. StandsThrough c.args.octets.now c.args.offset (labels_in o) c.in-Some-pointers_at.pointers in
    end_stands _ _ _ _ _ _ c.requires c.ends.invariant c.ends-test.true c.if-name-begin-eq0.false (subst P (after_all c.args.name.now c.ends.begin) c.in-Some-pointers_at.ensures.through)

pub ends-preserved : goal.ends-preserved
ends-preserved c =
    let s = c.ends.invariant in
    let None : List (List ℕ) → Type 0 = λ ys. StandsAt c.args.octets.now c.args.offset ys → ⊥ in
    let P : ℕ → Type 0 = λ k. Passed None c.args.name.now (c.ends.begin + 1 + k) in
    let here : None s.after = elim c.if-name-begin.branch [
      | then-name-begin+in_default-pointers_at w ↦ subst None (ahead _ _ c.requires s).spelled (subst (λ o. None (labels_in o)) (after_all c.args.name.now c.ends.begin) (w.in_default-pointers_at.ensures.none refl))
      | else-name-begin w ↦ (λ there. w.if-name-begin.false (omega (arith, meets_length _ _ _ _ s.meets, c.in-Some.ensures.some s.after there)))
    ] in
    subst P (sym c.from.ensures) (passed_next _ _ s here c.if-name-begin-eq0.false)

pub returns-clause-none : goal.returns-clause-none
returns-clause-none c = λ _ xs ys e more lt. passed_upto _ _ _ c.ends.invariant (omega (arith, c.ends-test.false)) xs ys e lt
