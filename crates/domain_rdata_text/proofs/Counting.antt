-- One octet of a bitmap more, and one window more.
use Rattle.std.proofs.Common.{◌≡◌, ℕ, ◌+◌, ◌*◌, List, [], ◌∷◌, ◌++◌, ap, add-one}
use Rattle.domain_rdata_text.specs.Bitmaps.{octet_of, bitmap, block, blocks}

pub one_octet : (ts : List ℕ) (t n : ℕ) → bitmap ts t (n + 1) ≡ bitmap ts t n ++ octet_of ts (t + 8 * n) ∷ []
one_octet ts t n = ap (λ (k : ℕ). bitmap ts t k) (add-one n)

pub one_block : (ts : List ℕ) (n : ℕ) → blocks ts (n + 1) ≡ blocks ts n ++ block ts n
one_block ts n = ap (λ (k : ℕ). blocks ts k) (add-one n)
