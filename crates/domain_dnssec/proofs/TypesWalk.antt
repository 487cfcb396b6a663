-- The types of bitmaps, one octet after the other.
use Rattle.std.proofs.Common.{◌≡◌, ℕ, ◌+◌, ◌-◌, ◌*◌, ◌<◌, ◌≤◌, List, [], ◌∷◌, ◌++◌, map, length, take, drop, get_or, Some, refl, arith, ap, sym, ◌∙◌, append_assoc, append-nil}
use Rattle.std.proofs.lemmas.List.{nil_from_length, take_all}
use Rattle.std.proofs.Math.Seq.{take-append_seam, drop-append_seam}
use Rattle.domain_dnssec.specs.Bits.{ones}
use Rattle.domain_dnssec.specs.BlockLaws.{blocks_once, no_block}
use Rattle.domain_dnssec.specs.TypeViews.{types_after, types_left}
use Rattle.domain_dnssec.proofs.FirstBit.{none_is}
use Rattle.domain_dnssec.specs.declared.type_blocks.TypesIter.{TypesIter}
use Rattle.domain_dnssec.specs.TypeBitmaps.{blocks_octets, AreBlocks, HasBlocks, FirstBlock, block_fault, bitmap_types, blocks_types}
use Rattle.domain_dnssec.specs.declared.type_bitmaps.TypeBitmapsError.{TypeBitmapsError}

-- octets with one at the front, as a pattern takes them apart
head_and_tail : (o : List ℕ) (n : ℕ) → 1 ≤ length o → n ≡ length o - 1 → o ≡ get_or o 0 0 ∷ take n (drop 1 o)
head_and_tail [] n some e = absurd (omega (arith, some))
head_and_tail (c ∷ o) n some e = ap (λ r. c ∷ r) (sym (take_all n o (omega (arith, e))))

-- octets are blocks in one way
same_types : (o q : List ℕ) (xs ys : List (ℕ × List ℕ)) → o ≡ q → o ≡ blocks_octets xs → AreBlocks 0 xs → q ≡ blocks_octets ys → AreBlocks 0 ys → blocks_types xs ≡ blocks_types ys
same_types o q xs ys e is are also held = ap blocks_types (blocks_once xs ys (sym is ∙ (e ∙ also)) are held)

-- the first octet of a bitmap, and those after it
first_octet : (base : ℕ) (b : List ℕ) (n : ℕ) → 1 ≤ length b → n ≡ length b - 1 → bitmap_types base b ≡ map (λ bit. base + bit) (ones (get_or b 0 0)) ++ bitmap_types (base + 8) (take n (drop 1 b))
first_octet base b n some e = ap (bitmap_types base) (head_and_tail b n some e)

-- the types at an octet and after it
parts : (f f2 o o2 : ℕ) (b b2 t t2 : List ℕ) → f ≡ f2 → o ≡ o2 → b ≡ b2 → t ≡ t2
    → map (λ bit. f + bit) (ones o) ++ (bitmap_types (f + 8) b ++ t) ≡ (map (λ bit. f2 + bit) (ones o2) ++ bitmap_types (f2 + 8) b2) ++ t2
parts f f2 o o2 b b2 t t2 first octet bitmap types =
    rw (first, octet, bitmap, types) (sym (append_assoc (map (λ bit. f2 + bit) (ones o2)) (bitmap_types (f2 + 8) b2) t2))

-- at the next octet of the bitmap
pub next_octet : (old it : TypesIter) (n : ℕ) → 1 ≤ length old.bitmap.now → n ≡ length old.bitmap.now - 1 → it.first ≡ old.first + 8 → it.octet ≡ get_or old.bitmap.now 0 0 → it.bitmap.now ≡ take n (drop 1 old.bitmap.now) → it.later.now ≡ old.later.now → types_left it ≡ types_after old
next_octet old it n some e first octet bitmap blocks =
    parts it.first (old.first + 8) it.octet _ it.bitmap.now _ (blocks_types it.rest.0) _ first octet bitmap (same_types it.later.now old.later.now it.rest.0 old.rest.0 blocks it.rest.1 it.rest.2 old.rest.1 old.rest.2)
    ∙ ap (λ t. t ++ blocks_types old.rest.0) (sym (first_octet (old.first + 8) old.bitmap.now n some e))

-- where something is wrong with the first block there is none
none_left : (o : List ℕ) (bs : List (ℕ × List ℕ)) (why : TypeBitmapsError) → o ≡ blocks_octets bs → AreBlocks 0 bs → block_fault 0 o ≡ Some why → bs ≡ []
none_left o [] why is are wrong = refl
none_left o (b ∷ bs) why is are wrong = absurd (no_block 0 b bs o [] why are (is ∙ sym (append-nil (blocks_octets (b ∷ bs)))) wrong)

pub no_types : (base : ℕ) (b o : List ℕ) (h : HasBlocks 0 o) (why : TypeBitmapsError) → length b < 1 → block_fault 0 o ≡ Some why → bitmap_types base b ++ blocks_types h.0 ≡ []
no_types base b o h why none wrong =
    ap (λ t. bitmap_types base t ++ blocks_types h.0) (nil_from_length b (omega arith)) ∙ ap blocks_types (none_left o h.0 why h.1 h.2 wrong)

pub no_octets : (b o : List ℕ) (h : HasBlocks 0 o) (why : TypeBitmapsError) → length b < 1 → block_fault 0 o ≡ Some why → length b + length o ≡ 0
no_octets b o h why none wrong =
    omega (arith, ap length (h.1 ∙ ap blocks_octets (none_left o h.0 why h.1 h.2 wrong)))

-- a block that octets begin with is the first of those that they are
same_first : (b : ℕ × List ℕ) (x y bitmap : List ℕ) (window : ℕ) → b.0 ∷ length b.1 ∷ (b.1 ++ x) ≡ window ∷ length bitmap ∷ (bitmap ++ y) → (b.0 ≡ window) × ((b.1 ≡ bitmap) × (x ≡ y))
same_first b x y bitmap window e =
    let one : b.0 ≡ window = cc in
    let long : length b.1 ≡ length bitmap = cc in
    let tail : b.1 ++ x ≡ bitmap ++ y = cc in (
      one,
      (
        sym (take-append_seam b.1 x) ∙ (ap (take (length b.1)) tail ∙ (ap (λ n. take n (bitmap ++ y)) long ∙ take-append_seam bitmap y)),
        sym (drop-append_seam b.1 x) ∙ (ap (drop (length b.1)) tail ∙ (ap (λ n. drop n (bitmap ++ y)) long ∙ drop-append_seam bitmap y)),
      ),
    )

-- the blocks after the first
pub record After (window : ℕ) (bitmap rest : List ℕ) (bs : List (ℕ × List ℕ)) : Type 0 where
  pub left : List (ℕ × List ℕ)
  pub is : bs ≡ (window, bitmap) ∷ left
  pub octets : rest ≡ blocks_octets left
  pub are : AreBlocks 0 left

lower : (least low : ℕ) (bs : List (ℕ × List ℕ)) → low ≤ least → AreBlocks least bs → AreBlocks low bs
lower least low [] le are = tt
lower least low (b ∷ bs) le are = ((omega (arith, le, are.0.0), are.0.1), are.1)

after : (o bitmap rest : List ℕ) (window : ℕ) (bs : List (ℕ × List ℕ)) → o ≡ blocks_octets bs → AreBlocks 0 bs → FirstBlock 0 o window bitmap rest → After window bitmap rest bs
after o bitmap rest window [] is are first = absurd (omega (arith, ap length (sym is ∙ first.parts)))
after o bitmap rest window (b ∷ bs) is are first =
    let same = same_first b (blocks_octets bs) rest bitmap window (sym is ∙ first.parts) in
    record {
      left = bs;
      is = λ i. (same.0 i, same.1.0 i) ∷ bs;
      octets = sym same.1.1;
      are = lower (b.0 + 1) 0 bs (omega arith) are.1;
    }

pub blocks_after : (o bitmap rest : List ℕ) (window : ℕ) → HasBlocks 0 o → FirstBlock 0 o window bitmap rest → HasBlocks 0 rest
blocks_after o bitmap rest window h first =
    let a = after o bitmap rest window h.0 h.1 h.2 first in
    (a.left, a.octets, a.are)

-- at the first octet of the next block
pub next_block : (old it : TypesIter) (bitmap rest : List ℕ) (window n : ℕ) → length old.bitmap.now < 1 → FirstBlock 0 old.later.now window bitmap rest → n ≡ length bitmap - 1 → it.first ≡ window * 256 → it.octet ≡ get_or bitmap 0 0 → it.bitmap.now ≡ take n (drop 1 bitmap) → it.later.now ≡ rest → types_left it ≡ types_after old
next_block old it bitmap rest window n none block e first octet left blocks =
    let a = after old.later.now bitmap rest window old.rest.0 old.rest.1 old.rest.2 block in
    parts it.first (window * 256) it.octet _ it.bitmap.now _ (blocks_types it.rest.0) _ first octet left (same_types it.later.now rest it.rest.0 a.left blocks it.rest.1 it.rest.2 a.octets a.are)
    ∙ (ap (λ t. t ++ blocks_types a.left) (sym (first_octet (window * 256) bitmap n block.block.1.0 e))
    ∙ (ap blocks_types (sym a.is) ∙ ap (λ t. bitmap_types (old.first + 8) t ++ blocks_types old.rest.0) (sym (nil_from_length old.bitmap.now (omega arith)))))

alike : (f f2 o : ℕ) (b b2 t t2 : List ℕ) → f ≡ f2 → b ≡ b2 → t ≡ t2
    → map (λ bit. f + bit) (ones o) ++ (bitmap_types (f + 8) b ++ t) ≡ map (λ bit. f2 + bit) (ones o) ++ (bitmap_types (f2 + 8) b2 ++ t2)
alike f f2 o b b2 t t2 first bitmap types = rw (first, bitmap, types) refl

-- one type more of the octet
pub one_type : (old it : TypesIter) (bit : ℕ) → ones old.octet ≡ bit ∷ ones it.octet → it.first ≡ old.first → it.bitmap.now ≡ old.bitmap.now → it.later.now ≡ old.later.now → types_left old ≡ (old.first + bit) ∷ types_left it
one_type old it bit octet first bitmap blocks =
    let same = same_types it.later.now old.later.now it.rest.0 old.rest.0 blocks it.rest.1 it.rest.2 old.rest.1 old.rest.2 in
    ap (λ os. map (λ b. old.first + b) os ++ types_after old) octet
    ∙ ap (λ t. (old.first + bit) ∷ t) (sym (alike it.first old.first it.octet it.bitmap.now old.bitmap.now (blocks_types it.rest.0) (blocks_types old.rest.0) first bitmap same))

-- before the first block
pub at_start : (o : List ℕ) (k h : HasBlocks 0 o) → map (λ bit. 0 + bit) (ones 0) ++ blocks_types k.0 ≡ blocks_types h.0
at_start o k h = ap (λ os. map (λ bit. 0 + bit) os ++ blocks_types k.0) (none_is 0 refl) ∙ same_types o o k.0 h.0 refl k.1 k.2 h.1 h.2
