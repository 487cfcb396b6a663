-- For callers: entries after others.
use Rattle.std.proofs.Common.{ℕ, List, [], ◌∷◌, ◌++◌, refl, subst}
use Rattle.domain_message.specs.Sections.{Run}

-- an entry after others
pub run_and : {V : Type 0} (At : List ℕ → ℕ → V → ℕ → Type 0) (m : List ℕ) (p q e : ℕ) (xs : List V)
    (x : V) → Run At m p xs q → At m q x e → Run At m p (xs ++ x ∷ []) e
run_and At m p q e [] x run at = (e, subst (λ q. At m q x e) run at, refl)
run_and At m p q e (y ∷ xs) x run at = (run.0, run.1, run_and At m run.0 q e xs x run.2 at)
