-- Sizes of what is built.
use Rattle.std.proofs.Common.{◌≡◌, ℕ, ◌+◌, ◌<◌, ◌≤◌, Bool, true, false, List, [], ◌∷◌, ◌++◌, length, Some, None, refl, ap, ◌∙◌, arith, length-append, nat_lt, if◌then◌else◌}
use Rattle.std.proofs.lemmas.Bool.{ltb-false, le-ltb, lt-ltb}
use Rattle.domain_label.specs.Wire.{wire}
use Rattle.domain_label.proofs.WireLaws.{wire_append}
use Rattle.domain_text.specs.BuilderState.{BuilderState, size, too_long}
use Rattle.domain_text.specs.declared.name_symbol.TextFault.TheVariants.{LongLabel, LongName}

abbrev pub built : List (List ℕ) → List ℕ → BuilderState
built ls o = record { labels = ls; open_label = o }

pub length-wire_append : (xs ys : List (List ℕ)) → length (wire (xs ++ ys)) ≡ length (wire xs) + length (wire ys)
length-wire_append xs ys = ap length (wire_append xs ys) ∙ length-append (wire xs) (wire ys)

-- one label more
pub length-wire_more : (ls : List (List ℕ)) (l : List ℕ) → length (wire (ls ++ l ∷ [])) ≡ length (wire ls) + 1 + length l
length-wire_more ls l = omega (arith, length-wire_append ls (l ∷ []), length-append l [])

pub size_some : (ls : List (List ℕ)) (o : List ℕ) → 0 < length o → size (built ls o) ≡ length (wire ls) + 1 + length o
size_some ls [] h = absurd (omega arith)
size_some ls (c ∷ o) h = length-wire_more ls (c ∷ o)

-- the open label begins with at most its labels
pub labels_le : (ls : List (List ℕ)) (o : List ℕ) → length (wire ls) ≤ size (built ls o)
labels_le ls [] = omega arith
labels_le ls (c ∷ o) = omega (arith, size_some ls (c ∷ o))

-- neither the name nor the label is too long
pub taken : (b : BuilderState) → too_long b ≡ None → (size b ≤ 254) × (length b.open_label ≤ 63)
taken b = at (nat_lt 254 (size b)) refl (nat_lt 63 (length b.open_label)) refl
  where
    at : (p : Bool) → nat_lt 254 (size b) ≡ p → (q : Bool) → nat_lt 63 (length b.open_label) ≡ q → (if p then Some LongName else (if q then Some LongLabel else None)) ≡ None → (size b ≤ 254) × (length b.open_label ≤ 63)
    at true e q f h = absurd (cc)
    at false e true f h = absurd (cc)
    at false e false f h = (ltb-false 254 (size b) e, ltb-false 63 (length b.open_label) f)

pub take_ok : (b : BuilderState) → size b ≤ 254 → length b.open_label ≤ 63 → too_long b ≡ None
take_ok b n l = rw (le-ltb 254 (size b) n, le-ltb 63 (length b.open_label) l) refl

pub long_name : (b : BuilderState) → 254 < size b → too_long b ≡ Some LongName
long_name b n = rw (lt-ltb 254 (size b) n) refl

pub long_label : (b : BuilderState) → size b ≤ 254 → 63 < length b.open_label → too_long b ≡ Some LongLabel
long_label b n l = rw (le-ltb 254 (size b) n, lt-ltb 63 (length b.open_label) l) refl
