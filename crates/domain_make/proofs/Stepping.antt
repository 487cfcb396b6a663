-- What is reached step by step, where each state has one step at most.
use Rattle.std.proofs.Common.{◌≡◌, refl, sym, subst, inl, inr}
use Rattle.std.specs.Prelude.{◌⊎◌}
use Rattle.domain_make.specs.Steps.{Reaches}
use Rattle.domain_make.specs.Steps.Reaches.{begins, further}

-- Each state has one step at most.
abbrev pub IsSingle : {S : Type 0} → (S → S → Type 0) → Type 0
IsSingle {S} Step = (s t u : S) → Step s t → Step s u → t ≡ u

-- A state has none.
abbrev pub IsLast : {S : Type 0} → (S → S → Type 0) → S → Type 0
IsLast {S} Step s = (t : S) → Step s t → ⊥

-- A state is this one, or is reached after a first step.
abbrev Ahead : {S : Type 0} → (S → S → Type 0) → S → S → Type 0
Ahead {S} Step s t = (s ≡ t) ⊎ ((u : S) × Step s u × Reaches Step u t)

one_more : {S : Type 0} (Step : S → S → Type 0) (s t u : S) → Ahead Step s t → Step t u → Ahead Step s u
one_more Step s t u (inl e) st = inr (u, subst (λ x. Step x u) (sym e) st, begins)
one_more Step s t u (inr r) st = inr (r.0, r.1, further r.2 st)

pub ahead : {S : Type 0} (Step : S → S → Type 0) (s t : S) → Reaches Step s t → Ahead Step s t
ahead Step s t begins = inl refl
ahead Step s t (further {s = m} r st) = one_more Step s m t (ahead Step s m r) st

-- Of two states that are reached, one leads to the other.
abbrev Either : {S : Type 0} → (S → S → Type 0) → S → S → Type 0
Either Step s t = Reaches Step s t ⊎ Reaches Step t s

either_more : {S : Type 0} (Step : S → S → Type 0) (s m t : S) → IsSingle Step → Either Step s m → Step m t → Either Step s t
either_more Step s m t single (inl r) st = inl (further r st)
either_more Step s m t single (inr r) st = elim (ahead Step m s r) [
  | inl e ↦ inl (subst (λ x. Reaches Step x t) e (further begins st))
  | inr w ↦ inr (subst (λ x. Reaches Step x s) (single m w.0 t w.1 st) w.2)
]

either : {S : Type 0} (Step : S → S → Type 0) (first s t : S) → IsSingle Step → Reaches Step first s → Reaches Step first t → Either Step s t
either Step first s t single to begins = inr to
either Step first s t single to (further {s = m} r st) = either_more Step s m t single (either Step first s m single to r) st

-- Two states that are reached and lead no further are one.
pub one_end : {S : Type 0} (Step : S → S → Type 0) (first s t : S) → IsSingle Step → IsLast Step s → IsLast Step t → Reaches Step first s → Reaches Step first t → s ≡ t
one_end Step first s t single last also to there = elim (either Step first s t single to there) [
  | inl r ↦ elim (ahead Step s t r) [ inl e ↦ e | inr w ↦ absurd (last w.0 w.1) ]
  | inr r ↦ elim (ahead Step t s r) [ inl e ↦ sym e | inr w ↦ absurd (also w.0 w.1) ]
]
