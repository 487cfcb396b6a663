-- The run of zeros that `::` stands for.
use Rattle.std.proofs.Common.{◌≡◌, ◌∙◌, ℕ, zero, suc, ◌+◌, ◌<◌, ◌≤◌, Bool, true, false, ◌==◌, cond, nat_lt, nat_le, List, [], ◌∷◌, ◌++◌, length, take, drop, replicate, refl, sym, ap, length-drop, arith}
use Rattle.std.proofs.lemmas.Bool.{eqb-true, leb-true, leb-false, cond_both}
use Rattle.std.proofs.lemmas.List.{take-append-drop, drop-drop}
use Rattle.domain_rdata_text.specs.Ipv6.{zeros, longest_run, before_run}

zeros_inside : (gs : List ℕ) → zeros gs ≤ length gs
zeros_inside [] = omega arith
zeros_inside (g ∷ gs) = cond_both (g == 0) (suc (zeros gs)) 0 (λ n. n ≤ length (g ∷ gs))
    (λ e. omega (arith, zeros_inside gs)) (λ e. omega arith)

-- what begins with n zeros
zero_or_none : (b : Bool) (n k : ℕ) → suc n ≤ cond b (suc k) 0 → (b ≡ true) × (n ≤ k)
zero_or_none true n k h = (refl, omega (arith, h))
zero_or_none false n k h = absurd (omega (arith, h))

begins_zero : (n : ℕ) (gs : List ℕ) → n ≤ zeros gs → gs ≡ replicate n 0 ++ drop n gs
begins_zero zero [] h = refl
begins_zero zero (g ∷ gs) h = refl
begins_zero (suc n) [] h = absurd (omega (arith, h))
begins_zero (suc n) (g ∷ gs) h =
    let both = zero_or_none (g == 0) n (zeros gs) h in
    ap (λ (x : ℕ). x ∷ gs) (eqb-true g 0 both.0) ∙ ap (λ (x : List ℕ). 0 ∷ x) (begins_zero n gs both.1)

-- a run that isn't here is later
later : (b : Bool) (z m n : ℕ) → n ≤ cond b m z → z < n → n ≤ m
later true z m n h less = h
later false z m n h less = absurd (omega (arith, h, less))

run_there : (n : ℕ) (gs : List ℕ) → 0 < n → n ≤ longest_run gs → n ≤ zeros (drop (before_run n gs) gs)
run_there n [] some h = absurd (omega (arith, some, h))
run_there n (g ∷ gs) some h =
    let z = zeros (g ∷ gs) in
    cond_both (nat_le n z) 0 (suc (before_run n gs)) (λ k. n ≤ zeros (drop k (g ∷ gs)))
    (λ e. leb-true n z e)
    (λ e. run_there n gs some (later (nat_lt z (longest_run gs)) z (longest_run gs) n h (leb-false n z e)))

-- the first of the longest runs is of the groups
pub run_inside : (gs : List ℕ) → 2 ≤ longest_run gs → before_run (longest_run gs) gs + longest_run gs ≤ length gs
run_inside gs h =
    let n = longest_run gs in
    let k = before_run n gs in
    omega (arith, run_there n gs (omega (arith, h)) (omega arith), zeros_inside (drop k gs), length-drop k gs)

-- and the groups are what is before it, zeros, and what is after it
pub run_split : (gs : List ℕ) → 2 ≤ longest_run gs
    → gs ≡ take (before_run (longest_run gs) gs) gs ++ (replicate (longest_run gs) 0 ++ drop (before_run (longest_run gs) gs + longest_run gs) gs)
run_split gs h =
    let n = longest_run gs in
    let k = before_run n gs in
    sym (take-append-drop k gs)
    ∙ ap (λ (x : List ℕ). take k gs ++ x)
    (begins_zero n (drop k gs) (run_there n gs (omega (arith, h)) (omega arith)) ∙ ap (λ (x : List ℕ). replicate n 0 ++ x) (drop-drop n k gs))
