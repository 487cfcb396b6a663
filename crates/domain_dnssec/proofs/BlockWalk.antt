-- Blocks, one after the other from the front.
use Rattle.std.proofs.Common.{◌≡◌, ℕ, ◌+◌, ◌<◌, ◌≤◌, List, [], ◌∷◌, ◌++◌, length, refl, arith, ap, subst, sym, ◌∙◌, append_assoc, append-nil, Some}
use Rattle.std.proofs.lemmas.List.{nil_from_length}
use Rattle.domain_dnssec.specs.TypeBitmaps.{blocks_octets, AreBlocks, HasBlocks, next_window, FirstBlock, NoBlocks, block_fault}
use Rattle.domain_dnssec.specs.declared.type_bitmaps.TypeBitmapsError.{TypeBitmapsError}

-- o is the blocks bs, and then rest, where a window may be `least` or more.
pub record Walked (o : List ℕ) (least : ℕ) (rest : List ℕ) : Type 0 where
  pub before : List (ℕ × List ℕ)
  pub parts : o ≡ blocks_octets before ++ rest
  pub are : AreBlocks 0 before
  pub next : least ≡ next_window 0 before
  pub due : length rest ≡ 0 → length before ≡ 0

octets_append : (xs ys : List (ℕ × List ℕ)) → blocks_octets (xs ++ ys) ≡ blocks_octets xs ++ blocks_octets ys
octets_append [] ys = refl
octets_append (x ∷ xs) ys = ap (λ t. x.0 ∷ length x.1 ∷ t) (ap (λ t. x.1 ++ t) (octets_append xs ys) ∙ sym (append_assoc x.1 (blocks_octets xs) (blocks_octets ys)))

are_append : (least : ℕ) (xs : List (ℕ × List ℕ)) (b : ℕ × List ℕ) → AreBlocks least xs → AreBlocks (next_window least xs) (b ∷ []) → AreBlocks least (xs ++ b ∷ [])
are_append least [] b are one = one
are_append least (x ∷ xs) b are one = (are.0, are_append (x.0 + 1) xs b are.1 one)

window_append : (least : ℕ) (xs : List (ℕ × List ℕ)) (b : ℕ × List ℕ) → next_window least (xs ++ b ∷ []) ≡ b.0 + 1
window_append least [] b = refl
window_append least (x ∷ xs) b = window_append (x.0 + 1) xs b

pub at_start : (o : List ℕ) → Walked o 0 o
at_start o = record { before = []; parts = refl; are = tt; next = refl; due = λ _. refl }

parts_more : (o rest after bitmap : List ℕ) (least window : ℕ) (bs : List (ℕ × List ℕ)) → o ≡ blocks_octets bs ++ rest → FirstBlock least rest window bitmap after → o ≡ blocks_octets (bs ++ (window, bitmap) ∷ []) ++ after
parts_more o rest after bitmap least window bs parts first =
    let one = (window, bitmap) ∷ [] in
    let here : rest ≡ blocks_octets one ++ after = first.parts ∙ ap (λ t. window ∷ length bitmap ∷ (t ++ after)) (sym (append-nil bitmap)) in
    parts ∙ (ap (λ t. blocks_octets bs ++ t) here ∙ (sym (append_assoc (blocks_octets bs) (blocks_octets one) after) ∙ ap (λ t. t ++ after) (sym (octets_append bs one))))

are_more : (rest after bitmap : List ℕ) (least window : ℕ) (bs : List (ℕ × List ℕ)) → least ≡ next_window 0 bs → AreBlocks 0 bs → FirstBlock least rest window bitmap after → AreBlocks 0 (bs ++ (window, bitmap) ∷ [])
are_more rest after bitmap least window bs next are first =
    are_append 0 bs (window, bitmap) are ((subst (λ n. n ≤ window) next first.block.0, first.block.1), tt)

-- a block more, and octets after it
pub walked_one : (o rest after bitmap : List ℕ) (least window : ℕ) → Walked o least rest → FirstBlock least rest window bitmap after → 0 < length after → Walked o (window + 1) after
walked_one o rest after bitmap least window walked first some = record {
  before = walked.before ++ (window, bitmap) ∷ [];
  parts = parts_more o rest after bitmap least window walked.before walked.parts first;
  are = are_more rest after bitmap least window walked.before walked.next walked.are first;
  next = sym (window_append 0 walked.before (window, bitmap));
  due = λ none. absurd (omega (arith, some, none));
}

-- a block more, and nothing after it
pub walked_all : (o rest after bitmap : List ℕ) (least window : ℕ) → Walked o least rest → FirstBlock least rest window bitmap after → length after ≡ 0 → HasBlocks 0 o
walked_all o rest after bitmap least window walked first none = (
  walked.before ++ (window, bitmap) ∷ [],
  parts_more o rest after bitmap least window walked.before walked.parts first ∙ (ap (λ t. blocks_octets (walked.before ++ (window, bitmap) ∷ []) ++ t) (nil_from_length after none) ∙ append-nil (blocks_octets (walked.before ++ (window, bitmap) ∷ []))),
  are_more rest after bitmap least window walked.before walked.next walked.are first,
)

-- something is wrong with the next one
pub walked_fault : (o rest : List ℕ) (least : ℕ) (why : TypeBitmapsError) → Walked o least rest → block_fault least rest ≡ Some why → NoBlocks o why
walked_fault o rest least why walked wrong = record {
  before = walked.before;
  rest = rest;
  parts = walked.parts;
  are = walked.are;
  due = walked.due;
  none = ap (λ n. block_fault n rest) (sym walked.next) ∙ wrong;
}
