-- The blocks that octets are, as a function of the octets.
use Rattle.std.proofs.Common.{◌≡◌, ℕ, zero, suc, ◌+◌, ◌<◌, ◌≤◌, List, [], ◌∷◌, ◌++◌, length, take, drop, refl, arith, ap, sym, ◌∙◌, append_assoc, append-nil, length-append, Option, None, Some, if◌then◌else◌}
use Rattle.std.specs.Prelude.{nat_le, slice_index}
use Rattle.std.proofs.Math.Seq.{take-append_seam, drop-append_seam}
use Rattle.std.proofs.lemmas.Bool.{le-leb, lt-leb}
use Rattle.domain_dnssec.specs.BitmapReading.{HasBitmapsFault}
use Rattle.domain_dnssec.specs.BlockLaws.{no_fault}
use Rattle.domain_dnssec.specs.TypeBitmaps.{blocks_octets, AreBlocks, NoBlocks, block_fault, next_window}
use Rattle.domain_dnssec.specs.declared.type_bitmaps.TypeBitmapsError.{TypeBitmapsError}
use Rattle.domain_dnssec.specs.declared.type_bitmaps.TypeBitmapsError.TheVariants.{Long, ShortInput, WindowOrder, BitmapLength}
use Rattle.domain_field_text.specs.FieldTexts.{with_block, next_block, blocks_from, blocks_of}

-- a block, and octets after it
one_block : (n least : ℕ) (b : ℕ × List ℕ) (r : List ℕ) → least ≤ b.0 → 1 ≤ length b.1 → length b.1 ≤ 32
    → blocks_from (suc n) least (b.0 ∷ length b.1 ∷ (b.1 ++ r)) ≡ with_block b (blocks_from n (b.0 + 1) r)
one_block n least b r order some few =
    ap (next_block (blocks_from n) (b.0 ∷ length b.1 ∷ (b.1 ++ r))) (no_fault least b.0 b.1 r order some few)
    ∙ (ap (λ x. with_block (b.0, x) (blocks_from n (b.0 + 1) (drop (length b.1) (b.1 ++ r)))) (take-append_seam b.1 r)
    ∙ ap (λ x. with_block b (blocks_from n (b.0 + 1) x)) (drop-append_seam b.1 r))

-- blocks are found
blocks_found : (n least : ℕ) (bs : List (ℕ × List ℕ)) → AreBlocks least bs → length bs < n → blocks_from n least (blocks_octets bs) ≡ Some bs
blocks_found zero least bs are many = absurd (omega (arith, many))
blocks_found (suc n) least [] are many = refl
blocks_found (suc n) least (b ∷ bs) are many =
    one_block n least b (blocks_octets bs) are.0.0 are.0.1.0 are.0.1.1
    ∙ ap (with_block b) (blocks_found n (b.0 + 1) bs are.1 (omega (arith, many)))

-- and none are where something is wrong after some
blocks_stop : (n least : ℕ) (bs : List (ℕ × List ℕ)) (rest : List ℕ) (why : TypeBitmapsError) → AreBlocks least bs → 0 < length rest
    → block_fault (next_window least bs) rest ≡ Some why → blocks_from n least (blocks_octets bs ++ rest) ≡ None
blocks_stop zero least bs rest why are some wrong = refl
blocks_stop (suc n) least [] [] why are some wrong = absurd (omega (arith, some))
blocks_stop (suc n) least [] (c ∷ rest) why are some wrong = ap (next_block (blocks_from n) (c ∷ rest)) wrong
blocks_stop (suc n) least (b ∷ bs) rest why are some wrong =
    ap (λ x. blocks_from (suc n) least (b.0 ∷ length b.1 ∷ x)) (append_assoc b.1 (blocks_octets bs) rest)
    ∙ (one_block n least b (blocks_octets bs ++ rest) are.0.0 are.0.1.0 are.0.1.1
    ∙ ap (with_block b) (blocks_stop n (b.0 + 1) bs rest why are.1 some wrong))

blocks_fewer : (bs : List (ℕ × List ℕ)) → length bs ≤ length (blocks_octets bs)
blocks_fewer [] = omega arith
blocks_fewer (b ∷ bs) = omega (arith, blocks_fewer bs, length-append b.1 (blocks_octets bs))

-- octets that are blocks
pub blocks_are : (o : List ℕ) (bs : List (ℕ × List ℕ)) → o ≡ blocks_octets bs → AreBlocks 0 bs → length o ≤ 65535 → blocks_of o ≡ Some bs
blocks_are o bs is are few =
    ap (λ b. if b then blocks_from (suc (length o)) 0 o else None) (le-leb (length o) 65535 few)
    ∙ (ap (blocks_from (suc (length o)) 0) is ∙ blocks_found (suc (length o)) 0 bs are (omega (arith, ap length is, blocks_fewer bs)))

-- where octets are left or nothing is before them, some are left
left_over : (bs : List (ℕ × List ℕ)) (rest : List ℕ) → 0 < length (blocks_octets bs) + length rest → (length rest ≡ 0 → length bs ≡ 0) → 0 < length rest
left_over bs (c ∷ rest) some due = omega arith
left_over [] [] some due = omega (arith, some)
left_over (b ∷ bs) [] some due = absurd (omega (arith, due refl))

-- octets that aren't
not_blocks : (o : List ℕ) (why : TypeBitmapsError) → 0 < length o → length o ≤ 65535 → NoBlocks o why → blocks_of o ≡ None
not_blocks o why some few bad =
    let rest : 0 < length bad.rest = left_over bad.before bad.rest (omega (arith, some, ap length bad.parts, length-append (blocks_octets bad.before) bad.rest)) bad.due in
    ap (λ b. if b then blocks_from (suc (length o)) 0 o else None) (le-leb (length o) 65535 few)
    ∙ (ap (blocks_from (suc (length o)) 0) bad.parts ∙ blocks_stop (suc (length o)) 0 bad.before bad.rest why bad.are rest bad.none)

pub blocks_none : (o : List ℕ) (why : TypeBitmapsError) → 0 < length o → HasBitmapsFault o why → blocks_of o ≡ None
blocks_none o (Long _) some many = ap (λ b. if b then blocks_from (suc (length o)) 0 o else None) (lt-leb (length o) 65535 many)
blocks_none o ShortInput some bad = not_blocks o ShortInput some bad.0 bad.1
blocks_none o WindowOrder some bad = not_blocks o WindowOrder some bad.0 bad.1
blocks_none o BitmapLength some bad = not_blocks o BitmapLength some bad.0 bad.1
