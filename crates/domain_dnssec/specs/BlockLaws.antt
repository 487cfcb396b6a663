-- Octets are those of one list of blocks, or one fault is the first.
use Rattle.std.specs.Prelude.{◌≡◌, ℕ, ◌+◌, ◌<◌, ◌≤◌, List, [], ◌∷◌, ◌++◌, length, drop, take, None, Some, refl}
use Rattle.std.proofs.Common.{arith, rules, ap, sym, subst, ◌∙◌, append_assoc, append-nil, length-append}
use Rattle.std.proofs.Math.Seq.{take-append_seam, drop-append_seam}
use Rattle.std.proofs.lemmas.Bool.{le-ltb}
use Rattle.std.specs.Coded.{×_prop, Unit-prop, le_prop, Coded-set, coded_list, coded_ℕ}
use Rattle.domain_dnssec.specs.TypeBitmaps.{blocks_octets, AreBlocks, HasBlocks, block_fault, next_window, NoBlocks}
use Rattle.domain_dnssec.specs.declared.type_bitmaps.TypeBitmapsError.{TypeBitmapsError}

-- nothing is wrong with a block
pub no_fault : (least window : ℕ) (bitmap rest : List ℕ) → least ≤ window → 1 ≤ length bitmap → length bitmap ≤ 32 → block_fault least (window ∷ length bitmap ∷ (bitmap ++ rest)) ≡ None
no_fault least window bitmap rest order some few =
    rw (le-ltb window least order, le-ltb (length bitmap) 1 some, le-ltb 32 (length bitmap) few, le-ltb (length (bitmap ++ rest)) (length bitmap) (omega (arith, length-append bitmap rest))) refl

none_some : {A : Type 0} {x : A} → None ≡ Some x → ⊥
none_some e = search rules

some_same : {A : Type 0} {x y : A} → Some x ≡ Some y → x ≡ y
some_same e = search rules

-- so where something is wrong there is none
pub no_block : (least : ℕ) (b : ℕ × List ℕ) (bs : List (ℕ × List ℕ)) (o rest : List ℕ) (why : TypeBitmapsError) → AreBlocks least (b ∷ bs) → o ≡ blocks_octets (b ∷ bs) ++ rest → block_fault least o ≡ Some why → ⊥
no_block least b bs o rest why are parts wrong =
    let whole : o ≡ b.0 ∷ length b.1 ∷ (b.1 ++ (blocks_octets bs ++ rest)) = parts ∙ ap (λ t. b.0 ∷ length b.1 ∷ t) (append_assoc b.1 (blocks_octets bs) rest) in
    let none = no_fault least b.0 b.1 (blocks_octets bs ++ rest) are.0.0 are.0.1.0 are.0.1.1 in
    none_some (sym none ∙ (ap (block_fault least) (sym whole) ∙ wrong))

-- octets that begin with no block
abbrev Stuck : ℕ → List ℕ → Type 0
Stuck least o = (b : ℕ × List ℕ) (bs : List (ℕ × List ℕ)) (rest : List ℕ) → AreBlocks least (b ∷ bs) → o ≡ blocks_octets (b ∷ bs) ++ rest → ⊥

stuck_end : (least : ℕ) → Stuck least []
stuck_end least b bs rest are parts = omega (arith, ap length parts)

stuck_fault : (least : ℕ) (o : List ℕ) (why : TypeBitmapsError) → block_fault least o ≡ Some why → Stuck least o
stuck_fault least o why wrong b bs rest are parts = no_block least b bs o rest why are parts wrong

same_pair : (a b : ℕ × List ℕ) → a.0 ≡ b.0 → a.1 ≡ b.1 → a ≡ b
same_pair a b x y = λ i. (x i, y i)

-- octets are in one way blocks and what begins with none
same_blocks : (least : ℕ) (xs ys : List (ℕ × List ℕ)) (r s : List ℕ) → blocks_octets xs ++ r ≡ blocks_octets ys ++ s → AreBlocks least xs → AreBlocks least ys → Stuck (next_window least xs) r → Stuck (next_window least ys) s → (xs ≡ ys) × (r ≡ s)
same_blocks least [] [] r s e are also stuck held = (refl, e)
same_blocks least [] (y ∷ ys) r s e are also stuck held = absurd (stuck y ys s also e)
same_blocks least (x ∷ xs) [] r s e are also stuck held = absurd (held x xs r are (sym e))
same_blocks least (x ∷ xs) (y ∷ ys) r s e are also stuck held =
    let window : x.0 ≡ y.0 = cc in
    let long : length x.1 ≡ length y.1 = cc in
    let tail : (x.1 ++ blocks_octets xs) ++ r ≡ (y.1 ++ blocks_octets ys) ++ s = cc in
    let one : x.1 ++ (blocks_octets xs ++ r) ≡ y.1 ++ (blocks_octets ys ++ s) = sym (append_assoc x.1 (blocks_octets xs) r) ∙ (tail ∙ append_assoc y.1 (blocks_octets ys) s) in
    let bitmap : x.1 ≡ y.1 = sym (take-append_seam x.1 (blocks_octets xs ++ r)) ∙ (ap (take (length x.1)) one ∙ (ap (λ n. take n (y.1 ++ (blocks_octets ys ++ s))) long ∙ take-append_seam y.1 (blocks_octets ys ++ s))) in
    let after : blocks_octets xs ++ r ≡ blocks_octets ys ++ s = sym (drop-append_seam x.1 (blocks_octets xs ++ r)) ∙ (ap (drop (length x.1)) one ∙ (ap (λ n. drop n (y.1 ++ (blocks_octets ys ++ s))) long ∙ drop-append_seam y.1 (blocks_octets ys ++ s))) in
    let next : x.0 + 1 ≡ y.0 + 1 = ap (λ n. n + 1) window in
    let rest = same_blocks (x.0 + 1) xs ys r s after are.1 (subst (λ n. AreBlocks n ys) (sym next) also.1) stuck (subst (λ n. Stuck (next_window n ys) s) (sym next) held) in
    (λ i. same_pair x y window bitmap i ∷ rest.0 i, rest.1)

-- blocks are those of their octets alone
pub blocks_once : (xs ys : List (ℕ × List ℕ)) → blocks_octets xs ≡ blocks_octets ys → AreBlocks 0 xs → AreBlocks 0 ys → xs ≡ ys
blocks_once xs ys e are also =
    (same_blocks 0 xs ys [] [] (append-nil (blocks_octets xs) ∙ (e ∙ sym (append-nil (blocks_octets ys)))) are also (stuck_end (next_window 0 xs)) (stuck_end (next_window 0 ys))).0

-- octets aren't blocks and none
pub blocks_or_fault : (o : List ℕ) (bs : List (ℕ × List ℕ)) (why : TypeBitmapsError) → o ≡ blocks_octets bs → AreBlocks 0 bs → 0 < length bs → NoBlocks o why → ⊥
blocks_or_fault o bs why e are some bad =
    let same = same_blocks 0 bs bad.before [] bad.rest (append-nil (blocks_octets bs) ∙ (sym e ∙ bad.parts)) are bad.are (stuck_end (next_window 0 bs)) (stuck_fault (next_window 0 bad.before) bad.rest why bad.none) in
    let none = bad.due (ap length (sym same.1)) in
    omega (arith, some, ap length same.0, none)

-- one fault is the first
pub one_block_fault : (o : List ℕ) (why other : TypeBitmapsError) → NoBlocks o why → NoBlocks o other → why ≡ other
one_block_fault o why other a b =
    let same = same_blocks 0 a.before b.before a.rest b.rest (sym a.parts ∙ b.parts) a.are b.are (stuck_fault (next_window 0 a.before) a.rest why a.none) (stuck_fault (next_window 0 b.before) b.rest other b.none) in
    some_same (sym a.none ∙ (ap (λ bs. block_fault (next_window 0 bs) a.rest) same.0 ∙ (ap (block_fault (next_window 0 b.before)) same.1 ∙ b.none)))

are_prop : (least : ℕ) (bs : List (ℕ × List ℕ)) → IsProp (AreBlocks least bs)
are_prop least [] = Unit-prop
are_prop least (b ∷ bs) =
    ×_prop (×_prop (le_prop {n = least} {m = b.0}) (×_prop (le_prop {n = 1} {m = length b.1}) (le_prop {n = length b.1} {m = 32}))) (are_prop (b.0 + 1) bs)

fact : (o : List ℕ) (bs : List (ℕ × List ℕ)) → IsProp ((o ≡ blocks_octets bs) × AreBlocks 0 bs)
fact o bs = ×_prop (Coded-set (coded_list coded_ℕ) _ _) (are_prop 0 bs)

-- that octets are blocks has one proof
pub HasBlocks_prop : (o : List ℕ) → IsProp (HasBlocks 0 o)
HasBlocks_prop o x y =
    let same : x.0 ≡ y.0 = blocks_once x.0 y.0 (sym x.1 ∙ y.1) x.2 y.2 in
    subst (λ bs. (q : (o ≡ blocks_octets bs) × AreBlocks 0 bs) → x ≡ (bs, q.0, q.1)) same (λ q. ap (λ r. (x.0, r.0, r.1)) (fact o x.0 (x.1, x.2) q)) (y.1, y.2)
