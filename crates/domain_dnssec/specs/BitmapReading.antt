-- Bitmaps of types in a message (RFC 4034, 4.1.2).
use Rattle.std.specs.Prelude.{◌≡◌, ℕ, ◌<◌, ◌≤◌, List, [], ◌∷◌, ◌++◌, ◌+◌, length, codes, refl}
use Rattle.std.proofs.Common.{arith, ap, sym, subst, ◌∙◌}
use Rattle.domain_fields.specs.ReadBack.{IsReadBackWhole, left_read_back}
use Rattle.domain_rdata.specs.AnyData.{IsAllThatIsLeft, TooMuchIsLeft}
use Rattle.domain_rdata.specs.UnknownReading.{all_that_is_left}
use Rattle.domain_wire.specs.Refusals.{Refusal, refusal, short_input, form}
use Rattle.domain_wire.specs.Values.{IsReading}
use Rattle.domain_wire.specs.declared.error.ParseError.{ParseError}
use Rattle.domain_dnssec.specs.BlockLaws.{blocks_once, blocks_or_fault, one_block_fault}
use Rattle.domain_dnssec.specs.TypeBitmaps.{blocks_octets, AreBlocks, HasBlocks, NoBlocks}
use Rattle.domain_dnssec.specs.declared.type_bitmaps.TypeBitmapsError.{TypeBitmapsError}
use Rattle.domain_dnssec.specs.declared.type_bitmaps.TypeBitmapsError.TheVariants.{Long, ShortInput, WindowOrder, BitmapLength}

-- the text that tells an error
abbrev pub bitmaps_error_text : TypeBitmapsError → List ℕ
bitmaps_error_text (Long _) = codes "record data too long"
bitmaps_error_text ShortInput = codes "short input"
bitmaps_error_text WindowOrder = codes "windows of types out of order"
bitmaps_error_text BitmapLength = codes "invalid length of a type bitmap"

-- what a parser reports for it
abbrev pub bitmaps_refusal : TypeBitmapsError → Refusal
bitmaps_refusal (Long _) = form (codes "record data too long")
bitmaps_refusal ShortInput = short_input
bitmaps_refusal WindowOrder = form (codes "windows of types out of order")
bitmaps_refusal BitmapLength = form (codes "invalid length of a type bitmap")

-- The octets o aren't blocks, one or more, in at most 65,535 octets, and why.
abbrev pub HasBitmapsFault : List ℕ → TypeBitmapsError → Type 0
HasBitmapsFault o (Long _) = 65535 < length o
HasBitmapsFault o ShortInput = (length o ≤ 65535) × NoBlocks o ShortInput
HasBitmapsFault o WindowOrder = (length o ≤ 65535) × NoBlocks o WindowOrder
HasBitmapsFault o BitmapLength = (length o ≤ 65535) × NoBlocks o BitmapLength

-- The blocks bs, one or more, are all octets of m from offset p on, and e is their end.
pub record BitmapsAt (m : List ℕ) (p : ℕ) (bs : List (ℕ × List ℕ)) (e : ℕ) : Type 0 where
  pub left : IsAllThatIsLeft m p (blocks_octets bs) e
  pub blocks : AreBlocks 0 bs
  pub some : 0 < length bs

-- There are no such blocks, and why: too many octets are left, or something is wrong with a block.
pub data NoBitmaps (m : List ℕ) (p : ℕ) (why : ParseError) : Type 0 where
  too_much : TooMuchIsLeft m p why → NoBitmaps m p why
  no_blocks : (o : List ℕ) (e : ℕ) (fault : TypeBitmapsError) → IsAllThatIsLeft m p o e → NoBlocks o fault → refusal why ≡ bitmaps_refusal fault → NoBitmaps m p why

at_or_none : (m : List ℕ) (p : ℕ) (bs : List (ℕ × List ℕ)) (e : ℕ) (why : ParseError) → BitmapsAt m p bs e → NoBitmaps m p why → ⊥
at_or_none m p bs e why at (too_much many) = all_that_is_left.not_both m p (blocks_octets bs) e why at.left many
at_or_none m p bs e why at (no_blocks o f fault left wrong told) =
    let same = (all_that_is_left.one_value m p o (blocks_octets bs) f e left at.left).0 in
    blocks_or_fault o bs fault same at.blocks at.some wrong

one_told : (m : List ℕ) (p : ℕ) (why other : ParseError) → NoBitmaps m p why → NoBitmaps m p other → refusal why ≡ refusal other
one_told m p why other (too_much a) (too_much b) = all_that_is_left.one_fault m p why other a b
one_told m p why other (too_much a) (no_blocks o f fault left wrong told) = absurd (all_that_is_left.not_both m p o f why left a)
one_told m p why other (no_blocks o f fault left wrong told) (too_much b) = absurd (all_that_is_left.not_both m p o f other left b)
one_told m p why other (no_blocks o f fault left wrong told) (no_blocks q g also held bad tells) =
    let same = (all_that_is_left.one_value m p o q f g left held).0 in
    told ∙ (ap bitmaps_refusal (one_block_fault q fault also (subst (λ x. NoBlocks x fault) same wrong) bad) ∙ sym tells)

-- at each offset one list of blocks is read, or one error is returned
pub bitmaps_reading : IsReading BitmapsAt NoBitmaps
bitmaps_reading = record {
  inside = λ m p bs e at. all_that_is_left.inside m p (blocks_octets bs) e at.left;
  one_value = λ m p a b e f at other.
      let same = all_that_is_left.one_value m p (blocks_octets a) (blocks_octets b) e f at.left other.left in
      (blocks_once a b same.0 at.blocks other.blocks, same.1);
  not_both = at_or_none;
  one_fault = one_told;
}

some_blocks : (bs : List (ℕ × List ℕ)) → 0 < length (blocks_octets bs) → 0 < length bs
some_blocks [] some = some
some_blocks (b ∷ bs) some = omega arith

-- blocks that were composed are read back
pub bitmaps_read_back : (octets : List ℕ) (has : HasBlocks 0 octets) → 0 < length octets → length octets ≤ 65535 → IsReadBackWhole (λ _ _ s. s ≡ octets) BitmapsAt (λ seen. seen ≡ has.0)
bitmaps_read_back octets has some few compresses t s same =
    let seen = left_read_back octets few compresses t s same in (
      has.0,
      record {
        left = subst (λ o. IsAllThatIsLeft (t ++ s) (length t) o (length t + length s)) (seen.2 ∙ has.1) seen.1;
        blocks = has.2;
        some = some_blocks has.0 (omega (arith, some, ap length has.1));
      },
      refl,
    )
