-- Each name that a word is, is in wire format, if the origin is.
use Rattle.std.proofs.Common.{◌≡◌, ◌∙◌, ◌⊎◌, ℕ, ◌+◌, ◌-◌, ◌≤◌, Bool, true, false, ◌&&◌, List, [], ◌∷◌, ◌++◌, cond, length, nat_lt, nat_le, Option, Some, None, refl, sym, ap, subst, inl, inr, length-append, arith}
use Rattle.std.proofs.lemmas.Bool.{and_parts, false≢true, leb-true, ltb-true}
use Rattle.domain_label.specs.Wire.{IsAbsoluteName, IsAbsoluteWire, IsRelative, labels_in, Root, wire}
use Rattle.domain_label.proofs.WireLaws.{relative_then_absolute, wire_absolute, wire_append}
use Rattle.domain_rdata_text.specs.Laws.{IsNamed, IsOrigin}
use Rattle.domain_rdata_text.specs.Names.{absolute, are_labels_in, completed, is_alone, name_of_some, name_of_symbols, NameParts, parts_from, relative, whole_name, with_end}
use Rattle.domain_rdata_text.specs.Symbols.{symbols}
use Rattle.domain_rdata_text.specs.declared.symbols.Symbol.{Symbol}

-- ---- options
abbrev AreSame : {A : Type 0} → Option A → Option A → Type 0
AreSame a b = a ≡ b

not_both : {A : Type 0} (a : A) → AreSame None (Some a) → ⊥
not_both a h = cc

abbrev or_this : {A : Type 0} → A → Option A → A
or_this a None = a
or_this a (Some b) = b

same_some : {A : Type 0} (a b : A) → AreSame (Some a) (Some b) → a ≡ b
same_some a b h = ap (or_this a) h

chosen : {A : Type 0} (b : Bool) (x y z : A) → cond b x y ≡ z → ((b ≡ true) × (x ≡ z)) ⊎ ((b ≡ false) × (y ≡ z))
chosen true x y z h = inl (refl, h)
chosen false x y z h = inr (refl, h)

-- ---- labels
both : (t b : Bool) → cond t b false ≡ true → (t ≡ true) × (b ≡ true)
both true b e = (refl, e)
both false b e = absurd (false≢true e)

-- Labels that fit into `room` octets are the labels of a name before its end.
labels_are : (room : ℕ) (ls : List (List ℕ)) → are_labels_in room ls ≡ true → IsRelative ls × (length (wire ls) ≤ room)
labels_are room [] h = (tt, omega arith)
labels_are room ([] ∷ ls) h = absurd (false≢true h)
labels_are room ((c ∷ l) ∷ ls) h =
    let len = length (c ∷ l) in
    let p = both (nat_lt 0 len && nat_le len 63 && nat_lt len room) (are_labels_in (room - (1 + len)) ls) h in
    let fits = and_parts (nat_lt 0 len && nat_le len 63) (nat_lt len room) p.0 in
    let short = leb-true len 63 (and_parts (nat_lt 0 len) (nat_le len 63) fits.0).1 in
    let less = ltb-true len room fits.1 in
    let rest = labels_are (room - (1 + len)) ls p.1 in
    ((short, rest.0), omega (arith, less, rest.1, length-append (c ∷ l) (wire ls)))

-- ---- names
with_end_is : (ls : List (List ℕ)) (end r : List ℕ) → IsAbsoluteWire end → AreSame (with_end ls end) (Some r) → IsAbsoluteWire r
with_end_is ls end r d h =
    elim (chosen (are_labels_in (255 - length end) ls) (Some (wire ls ++ end)) None (Some r) h) [
      | inl (fit, a) ↦
          let it = labels_are (255 - length end) ls fit in
          let rs = labels_in end in
          let w : wire (ls ++ rs) ≡ wire ls ++ end = wire_append ls rs ∙ ap (λ (x : List ℕ). wire ls ++ x) d.0 in
          let size : length end ≤ 255 = subst (λ (x : List ℕ). length x ≤ 255) d.0 d.1.1 in
          let short : length (wire ls ++ end) ≤ 255 = omega (arith, it.1, size, length-append (wire ls) end) in
          let len : length (wire (ls ++ rs)) ≤ 255 = subst (λ (x : List ℕ). length x ≤ 255) (sym w) short in
          let name : IsAbsoluteName (ls ++ rs) = (relative_then_absolute ls rs it.0 d.1.0, len) in
          subst (λ (x : List ℕ). IsAbsoluteWire x) (w ∙ same_some (wire ls ++ end) r a) (wire_absolute (ls ++ rs) name)
      | inr (none, a) ↦ absurd (not_both r a)
    ]

root_is : IsAbsoluteWire (wire Root)
root_is = wire_absolute Root (refl, omega arith)

absolute_is : (ls : List (List ℕ)) (r : List ℕ) → AreSame (absolute ls) (Some r) → IsAbsoluteWire r
absolute_is [] r h = absurd (not_both r h)
absolute_is (l ∷ ls) r h = with_end_is (l ∷ ls) (wire Root) r root_is h

relative_is : (origin : Option (List ℕ)) (ls : List (List ℕ)) (r : List ℕ) → IsOrigin origin → AreSame (relative origin ls) (Some r) → IsAbsoluteWire r
relative_is None ls r d h = absurd (not_both r h)
relative_is (Some os) ls r d h = with_end_is ls os r d h

whole_is : (origin : Option (List ℕ)) (ls : List (List ℕ)) (l r : List ℕ) → IsOrigin origin → AreSame (whole_name origin ls l) (Some r) → IsAbsoluteWire r
whole_is origin ls [] r d h = absolute_is ls r h
whole_is origin ls (c ∷ l) r d h = relative_is origin (ls ++ (c ∷ l) ∷ []) r d h

completed_is : (origin : Option (List ℕ)) (it : Option NameParts) (r : List ℕ) → IsOrigin origin → AreSame (completed origin it) (Some r) → IsAbsoluteWire r
completed_is origin None r d h = absurd (not_both r h)
completed_is origin (Some p) r d h = whole_is origin p.labels p.last r d h

origin_is : (origin : Option (List ℕ)) (r : List ℕ) → IsOrigin origin → AreSame origin (Some r) → IsAbsoluteWire r
origin_is None r d h = absurd (not_both r h)
origin_is (Some os) r d h = subst (λ (x : List ℕ). IsAbsoluteWire x) (same_some os r h) d

symbols_are : (origin : Option (List ℕ)) (ss : List Symbol) (r : List ℕ) → IsOrigin origin → AreSame (name_of_symbols origin ss) (Some r) → IsAbsoluteWire r
symbols_are origin ss r d h =
    let whole = completed origin (parts_from [] [] ss) in
    elim (chosen (is_alone 64 ss) origin (cond (is_alone 46 ss) (Some (wire Root)) whole) (Some r) h) [
      | inl (at, a) ↦ origin_is origin r d a
      | inr (not_at, a) ↦ elim (chosen (is_alone 46 ss) (Some (wire Root)) whole (Some r) a) [
        | inl (dot, b) ↦ subst (λ (x : List ℕ). IsAbsoluteWire x) (same_some (wire Root) r b) root_is
        | inr (other, b) ↦ completed_is origin (parts_from [] [] ss) r d b
      ]
    ]

some_is : (origin : Option (List ℕ)) (it : Option (List Symbol)) (r : List ℕ) → IsOrigin origin → AreSame (name_of_some origin it) (Some r) → IsAbsoluteWire r
some_is origin None r d h = absurd (not_both r h)
some_is origin (Some ss) r d h = symbols_are origin ss r d h

pub name_is : (origin : Option (List ℕ)) (word : List ℕ) → IsNamed origin word
name_is origin word d r h = some_is origin (symbols word) r d h
