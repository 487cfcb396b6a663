use Rattle.std.proofs.Common.{◌≡◌, ℕ, zero, suc, ◌<◌, ◌-◌, ◌%◌, List, [], ◌∷◌, ◌++◌, length, drop, set, replicate, refl, ap, ◌∙◌, arith}
use Rattle.std.proofs.lemmas.List.{set-append_right}
use Rattle.domain_siphash.proofs.words.last_eight.Goals as goal

-- the last of the remaining zero octets of eight becomes x
last_of_zeros : (n x : ℕ) → n < 8 → set (drop n (0 ∷ 0 ∷ 0 ∷ 0 ∷ 0 ∷ 0 ∷ 0 ∷ 0 ∷ [])) (7 - n) x ≡ replicate (7 - n) 0 ++ x ∷ []
last_of_zeros zero x h = refl
last_of_zeros (suc zero) x h = refl
last_of_zeros (suc (suc zero)) x h = refl
last_of_zeros (suc (suc (suc zero))) x h = refl
last_of_zeros (suc (suc (suc (suc zero)))) x h = refl
last_of_zeros (suc (suc (suc (suc (suc zero))))) x h = refl
last_of_zeros (suc (suc (suc (suc (suc (suc zero)))))) x h = refl
last_of_zeros (suc (suc (suc (suc (suc (suc (suc zero))))))) x h = refl
last_of_zeros (suc (suc (suc (suc (suc (suc (suc (suc n)))))))) x h = absurd (omega (arith, h))

-- octets, zero octets up to seven, and x
filled : (rest os : List ℕ) (len x : ℕ) → length rest ≡ len % 8 → os ≡ rest → set (os ++ drop (length rest) (0 ∷ 0 ∷ 0 ∷ 0 ∷ 0 ∷ 0 ∷ 0 ∷ 0 ∷ [])) 7 x ≡ rest ++ (replicate (7 - len % 8) 0 ++ x ∷ [])
filled rest os len x n e =
    ap (λ xs. set (xs ++ drop (length rest) (0 ∷ 0 ∷ 0 ∷ 0 ∷ 0 ∷ 0 ∷ 0 ∷ 0 ∷ [])) 7 x) e
    ∙ set-append_right rest (drop (length rest) (0 ∷ 0 ∷ 0 ∷ 0 ∷ 0 ∷ 0 ∷ 0 ∷ 0 ∷ [])) (length rest) 7 x refl (omega (arith, n))
    ∙ ap (λ xs. rest ++ xs) (last_of_zeros (length rest) x (omega (arith, n)))
    ∙ ap (λ k. rest ++ (replicate (7 - k) 0 ++ x ∷ [])) n

pub returns : goal.returns
returns c = filled c.args.rest.now c.copy_from_slice.new.self c.args.len (c.args.len % 256) c.requires c.copy_from_slice.ensures.after
