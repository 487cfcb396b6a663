-- The labels of a name as a function of the message and the offset. Where `Names max_pointers m p ls`,
-- `labels_at m p ≡ ls`.
use Rattle.std.specs.Prelude.{ℕ, zero, suc, ◌+◌, ◌-◌, ◌*◌, ◌==◌, if◌then◌else◌, nat_lt, List, [], ◌∷◌, slice_index, slice_range}
use Rattle.domain_label.specs.Wire.{Root}
use Rattle.domain_reading.specs.Limits.{max_heads}

-- The labels at p and after it, of at most as many labels and pointers as the number.
unfoldable pub read_from : ℕ → List ℕ → ℕ → List (List ℕ)
read_from zero m p = []
read_from (suc n) m p =
    let head = slice_index m p in
    if head == 0 then Root
    else if nat_lt head 64 then slice_range m (p + 1) (p + 1 + head) ∷ read_from n m (p + 1 + head)
    else read_from n m (256 * head + slice_index m (p + 1) - 49152)

-- The labels of the name at p. A name has at most 127 labels, 255 pointers and the root: 383 in all.
unfoldable pub labels_at : List ℕ → ℕ → List (List ℕ)
labels_at m p = read_from max_heads m p
