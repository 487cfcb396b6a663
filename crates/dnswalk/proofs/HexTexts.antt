-- A text in hexadecimal digits, octet by octet.
use Rattle.std.proofs.Common.{◌≡◌, ℕ, ◌+◌, ◌<◌, ◌≤◌, List, [], ◌∷◌, ◌++◌, length, take, drop, set, refl, sym, ap, subst, ◌∙◌, arith, add-one, append_assoc}
use Rattle.std.specs.Prelude.{slice_index, nat_eq, false}
use Rattle.std.proofs.lemmas.Bool.{ne_eqb}
use Rattle.std.proofs.Math.Seq.{drop-cons}
use Rattle.std.proofs.Math.ListN.{drop_of_length-le}
use Rattle.std.proofs.lemmas.List.{drop-drop, drop-set-lt, take_more_set}
use Rattle.dnswalk.specs.Hexadecimal.{IsWhite, BeginsWithHexOctet, BeginsWithNone, IsHexText, IsHexFault, Position, position_after, further}
use Rattle.dnswalk.specs.Hexadecimal.IsHexText.{white, octet}
use Rattle.dnswalk.specs.Hexadecimal.IsHexFault.{after_white, after_octet, here}
use Rattle.dnswalk.specs.declared.hexadecimal.HexFault.{HexFault}

-- the first octet of what is left, and the rest
pub left_one : (t : List ℕ) (i : ℕ) → i < length t → drop i t ≡ slice_index t i ∷ drop (i + 1) t
left_one t i inside = rw add-one (drop-cons t i 0 inside)

-- the first two octets
pub left_two : (t : List ℕ) (i : ℕ) → i + 2 ≤ length t → drop i t ≡ slice_index t i ∷ slice_index t (i + 1) ∷ drop (i + 2) t
left_two t i inside =
    let more : drop (i + 1) t ≡ slice_index t (i + 1) ∷ drop (i + 1 + 1) t = left_one t (i + 1) (omega arith) in
    let offset : i + 1 + 1 ≡ i + 2 = omega arith in
    left_one t i (omega arith) ∙ ap (λ r. slice_index t i ∷ r) (more ∙ ap (λ k. slice_index t (i + 1) ∷ drop k t) offset)

-- the last octet
pub left_last : (t : List ℕ) (i : ℕ) → i < length t → length t ≤ i + 1 → drop i t ≡ slice_index t i ∷ []
left_last t i inside last = left_one t i inside ∙ ap (λ r. slice_index t i ∷ r) (drop_of_length-le t last)

-- what is left of two texts is the same, and so after n octets more
pub still_left : (n i : ℕ) (t s : List ℕ) → drop i t ≡ drop i s → drop (i + n) t ≡ drop (i + n) s
still_left n i t s same = sym (drop-drop n i t) ∙ (ap (λ r. drop n r) same ∙ drop-drop n i s)

-- A white octet is read: what is left is read as before.
pub reads_white : (all t s : List ℕ) (i n : ℕ) → i < length t → drop i t ≡ drop i s → IsWhite (slice_index t i)
    → ((os : List ℕ) → IsHexText (drop i s) os → IsHexText all (take n t ++ os)) → (os : List ℕ) → IsHexText (drop (i + 1) s) os → IsHexText all (take n t ++ os)
reads_white all t s i n inside same found before os more =
    let begins : drop i s ≡ slice_index t i ∷ drop (i + 1) s = sym same ∙ (left_one t i inside ∙ ap (λ r. slice_index t i ∷ r) (still_left 1 i t s same)) in
    before os (subst (λ x. IsHexText x os) (sym begins) (white found more))

-- Two digits are read: their octet is written after those before it.
pub reads_octet : (all t s : List ℕ) (i n x : ℕ) → n ≤ i → i + 2 ≤ length t → drop i t ≡ drop i s → BeginsWithHexOctet (drop i t) x
    → ((os : List ℕ) → IsHexText (drop i s) os → IsHexText all (take n t ++ os)) → (os : List ℕ) → IsHexText (drop (i + 2) s) os → IsHexText all (take (n + 1) (set t n x) ++ os)
reads_octet all t s i n x behind inside same found before os more =
    let begins : drop i s ≡ slice_index t i ∷ slice_index t (i + 1) ∷ drop (i + 2) s = sym same ∙ (left_two t i inside ∙ ap (λ r. slice_index t i ∷ slice_index t (i + 1) ∷ r) (still_left 2 i t s same)) in
    let digits : BeginsWithHexOctet (slice_index t i ∷ slice_index t (i + 1) ∷ drop (i + 2) s) x = subst (λ r. BeginsWithHexOctet r x) (same ∙ begins) found in
    let whole : IsHexText all (take n t ++ x ∷ os) = before (x ∷ os) (subst (λ r. IsHexText r (x ∷ os)) (sym begins) (octet digits more)) in
    let short : n < length t = omega arith in
    let written : take (n + 1) (set t n x) ++ os ≡ take n t ++ x ∷ os = ap (λ r. r ++ os) (take_more_set t n x short) ∙ append_assoc (take n t) (x ∷ []) os in
    subst (λ r. IsHexText all r) (sym written) whole

-- What is left stays where an octet is written before it.
pub left_behind : (t s : List ℕ) (i n x : ℕ) → n ≤ i → drop i t ≡ drop i s → drop (i + 2) (set t n x) ≡ drop (i + 2) s
left_behind t s i n x behind same = drop-set-lt (i + 2) t n x (omega arith) ∙ still_left 2 i t s same

-- A fault after a white octet.
pub fault_after_white : (p q first : Position) (all t s : List ℕ) (i : ℕ) → i < length t → drop i t ≡ drop i s → IsWhite (slice_index t i) → q ≡ position_after (slice_index t i) p
    → ((f : HexFault) (line column : ℕ) → IsHexFault p (drop i s) f line column → IsHexFault first all f line column)
    → (f : HexFault) (line column : ℕ) → IsHexFault q (drop (i + 1) s) f line column → IsHexFault first all f line column
fault_after_white p q first all t s i inside same found offset before f line column more =
    let begins : drop i s ≡ slice_index t i ∷ drop (i + 1) s = sym same ∙ (left_one t i inside ∙ ap (λ r. slice_index t i ∷ r) (still_left 1 i t s same)) in
    before f line column (subst (λ r. IsHexFault p r f line column) (sym begins) (after_white found (subst (λ q. IsHexFault q (drop (i + 1) s) f line column) offset more)))

-- A fault after an octet.
pub fault_after_octet : (p first : Position) (all t s : List ℕ) (i x : ℕ) → i + 2 ≤ length t → drop i t ≡ drop i s → BeginsWithHexOctet (drop i t) x
    → ((f : HexFault) (line column : ℕ) → IsHexFault p (drop i s) f line column → IsHexFault first all f line column)
    → (f : HexFault) (line column : ℕ) → IsHexFault (further 2 p) (drop (i + 2) s) f line column → IsHexFault first all f line column
fault_after_octet p first all t s i x inside same found before f line column more =
    let begins : drop i s ≡ slice_index t i ∷ slice_index t (i + 1) ∷ drop (i + 2) s = sym same ∙ (left_two t i inside ∙ ap (λ r. slice_index t i ∷ slice_index t (i + 1) ∷ r) (still_left 2 i t s same)) in
    let digits : BeginsWithHexOctet (slice_index t i ∷ slice_index t (i + 1) ∷ drop (i + 2) s) x = subst (λ r. BeginsWithHexOctet r x) (same ∙ begins) found in
    before f line column (subst (λ r. IsHexFault p r f line column) (sym begins) (after_octet digits more))

-- A fault here.
pub fault_here : (p first : Position) (all t s : List ℕ) (i skip : ℕ) (f : HexFault) → drop i t ≡ drop i s → BeginsWithNone (drop i t) f skip
    → ((f : HexFault) (line column : ℕ) → IsHexFault p (drop i s) f line column → IsHexFault first all f line column)
    → IsHexFault first all f (p.line + 1) (p.column + 1 + skip)
fault_here p first all t s i skip f same none before = before f (p.line + 1) (p.column + 1 + skip) (here (subst (λ r. BeginsWithNone r f skip) same none) refl refl)

-- The position after a line feed, and after another octet.
pub after_feed : (c line column line' column' : ℕ) → c ≡ 10 → line' ≡ line + 1 → column' ≡ 0 → ◌≡◌ {A = Position} (record { line = line'; column = column' }) (position_after c (record { line = line; column = column }))
after_feed c line column line' column' feed l k = rw (feed, l, k) refl

pub after_other : (c line column line' column' : ℕ) → (c ≡ 10 → ⊥) → line' ≡ line → column' ≡ column + 1 → ◌≡◌ {A = Position} (record { line = line'; column = column' }) (position_after c (record { line = line; column = column }))
after_other c line column line' column' other l k = let no : nat_eq c 10 ≡ false = ne_eqb c 10 other in rw (no, l, k) refl
