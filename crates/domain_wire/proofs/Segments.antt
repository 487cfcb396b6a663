-- Facts about the eight segments of an IPv6 address.
use Rattle.std.proofs.Common.{◌≡◌, ℕ, [], ◌∷◌, List, length, get_or, refl, arith}

-- a list of eight is its elements
pub eight_segments : (xs : List ℕ) → length xs ≡ 8 → xs ≡ get_or xs 0 0 ∷ get_or xs 1 0 ∷ get_or xs 2 0 ∷ get_or xs 3 0 ∷ get_or xs 4 0 ∷ get_or xs 5 0 ∷ get_or xs 6 0 ∷ get_or xs 7 0 ∷ []
eight_segments [] l = absurd (omega arith)
eight_segments (a ∷ []) l = absurd (omega arith)
eight_segments (a ∷ b ∷ []) l = absurd (omega arith)
eight_segments (a ∷ b ∷ c ∷ []) l = absurd (omega arith)
eight_segments (a ∷ b ∷ c ∷ d ∷ []) l = absurd (omega arith)
eight_segments (a ∷ b ∷ c ∷ d ∷ e ∷ []) l = absurd (omega arith)
eight_segments (a ∷ b ∷ c ∷ d ∷ e ∷ f ∷ []) l = absurd (omega arith)
eight_segments (a ∷ b ∷ c ∷ d ∷ e ∷ f ∷ g ∷ []) l = absurd (omega arith)
eight_segments (a ∷ b ∷ c ∷ d ∷ e ∷ f ∷ g ∷ h ∷ []) l = refl
eight_segments (a ∷ b ∷ c ∷ d ∷ e ∷ f ∷ g ∷ h ∷ i ∷ xs) l = absurd (omega arith)
