-- Tables of offsets.
use Rattle.std.proofs.Common.{◌≡◌, ℕ, List, [], ◌∷◌, ◌++◌, take, refl, sym, ap, ◌∙◌}
use Rattle.std.proofs.lemmas.List.{take-map, map-append}
use Rattle.domain_compress.specs.Compressing.{RememberedLabel}
use Rattle.domain_compress.specs.Planned.{remembered_in_table, offsets}

pub offsets_in_table : (table : List ℕ) → offsets (remembered_in_table table) ≡ table
offsets_in_table [] = refl
offsets_in_table (p ∷ table) = ap (λ t. p ∷ t) (offsets_in_table table)

-- The offsets of a table and of more offsets, up to some number.
pub offsets_more : (table : List ℕ) (old more : List RememberedLabel) → old ≡ remembered_in_table table → offsets (take 128 (old ++ more)) ≡ take 128 (table ++ offsets more)
offsets_more table old more e =
    sym (take-map (λ (w : RememberedLabel). w.at) 128 (old ++ more)) ∙ ap (take 128) (map-append (λ (w : RememberedLabel). w.at) old more ∙ ap (λ t. t ++ offsets more) (ap offsets e ∙ offsets_in_table table))
