use Rattle.std.proofs.Common.{◌≡◌, ℕ, List, ◌-◌, ◌<◌, length, map, get_or, slice_index_or, ap, ◌∙◌, sym, subst, arith, true≢false}
use Rattle.std.proofs.lemmas.List.{length-map}
use Rattle.std.specs.Cmp.Lexicographic.{slice_cmp}
use Rattle.std.specs.Ordering.{nat_cmp}
use Rattle.std.specs.declared.cmp.Ordering.TheVariants.{Less}
use Rattle.domain_zone.proofs.Ascending.{ascending_more, octets_of, view_of}
use Rattle.domain_zone.proofs.alone.is_ascending.Goals as goal

pub returns-then-not-comes_before : goal.returns-then-not-comes_before
returns-then-not-comes_before c =
    let xs = c.args.set.now.rdata.items in
    let same = c.as_slice-rdata.ensures.value in
    let i = c.loop-i.i in
    let r = c.index-rdata-i.result in
    let s = c.index-rdata-i-in-loop-i.result in
    let os : List (List ℕ) = map octets_of xs in
    let n : i < length xs = omega (arith, c.loop-i-test.true, ap length same) in
    let m : i - 1 < length xs = omega (arith, n) in
    let ris : r ≡ get_or xs (i - 1) r = c.index-rdata-i.is ∙ ap (λ l. get_or l (i - 1) r) same in
    let sis : s ≡ get_or xs i s = c.index-rdata-i-in-loop-i.is ∙ ap (λ l. get_or l i s) same in
    let d : List ℕ = s.items in (
      λ h. absurd (true≢false (sym h)),
      λ o. absurd (true≢false (sym (c.comes_before.ensures.1
          (subst (λ (x : List ℕ). slice_cmp nat_cmp x s.items ≡ Less) (view_of octets_of xs (i - 1) r m ris d)
          (subst (λ (x : List ℕ). slice_cmp nat_cmp (slice_index_or os (i - 1) d) x ≡ Less) (view_of octets_of xs i s n sis d)
          (o (i - 1) i d (omega (arith, c.loop-i.auto.i)) (omega (arith, n, length-map xs octets_of)))))) ∙ c.if-not-comes_before.true)),
    )

pub loop-i-preserved : goal.loop-i-preserved
loop-i-preserved c =
    let xs = c.args.set.now.rdata.items in
    let same = c.as_slice-rdata.ensures.value in
    let i = c.loop-i.i in
    let r = c.index-rdata-i.result in
    let s = c.index-rdata-i-in-loop-i.result in
    let os : List (List ℕ) = map octets_of xs in
    let n : i < length xs = omega (arith, c.loop-i-test.true, ap length same) in
    let m : i - 1 < length xs = omega (arith, n) in
    let ris : r ≡ get_or xs (i - 1) r = c.index-rdata-i.is ∙ ap (λ l. get_or l (i - 1) r) same in
    let sis : s ≡ get_or xs i s = c.index-rdata-i-in-loop-i.is ∙ ap (λ l. get_or l i s) same in
    ascending_more os i c.loop-i.auto.i c.loop-i.invariant
    (λ d. subst (λ (x : List ℕ). slice_cmp nat_cmp x (slice_index_or os i d) ≡ Less) (sym (view_of octets_of xs (i - 1) r m ris d))
    (subst (λ (x : List ℕ). slice_cmp nat_cmp r.items x ≡ Less) (sym (view_of octets_of xs i s n sis d)) (c.comes_before.ensures.0 c.if-not-comes_before.false)))
