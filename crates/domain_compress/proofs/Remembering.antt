-- Remembering where labels stand.
use Rattle.std.proofs.Common.{◌≡◌, ℕ, ◌+◌, ◌≤◌, ◌<◌, List, [], ◌∷◌, ◌++◌, length, take, refl, sym, ap, subst, ◌∙◌, arith, slice_index, append_assoc, append-nil, length-append}
use Rattle.std.proofs.lemmas.Grind.{common_steps}
use Rattle.std.proofs.lemmas.List.{take_all, length-map, map-append}
use Rattle.std.proofs.Math.Seq.{take-append_seam}
use Rattle.domain_label.specs.Wire.{wire, labels_in, IsWire}
use Rattle.domain_flat.proofs.LabelBounds.{Meets, meets_start, meets_next, read_at}
use Rattle.domain_compress.specs.Compressing.{RememberedLabel, remembered_from}
use Rattle.domain_compress.specs.declared.written.Written.{Written}
use Rattle.domain_compress.specs.Written.{remembered, all_remembered}

-- The offsets of the labels before at are remembered.
pub record Remembered (old cur : List RememberedLabel) (labels : List ℕ) (start end at : ℕ) : Type 0 where
  pub before : List (List ℕ)
  pub after : List (List ℕ)
  pub meets : Meets labels at before after
  pub all : take 128 (old ++ remembered_from start end (labels_in labels)) ≡ take 128 (cur ++ remembered_from (start + at) end after)

pub remember_start : (old : List RememberedLabel) (labels : List ℕ) (start end : ℕ) → IsWire labels → Remembered old old labels start end 0
remember_start old labels start end w = record {
  before = [];
  after = labels_in labels;
  meets = meets_start labels w;
  all = ap (λ p. take 128 (old ++ remembered_from p end (labels_in labels))) (omega arith);
}

remembered_more : (p end : ℕ) (y : List ℕ) (ys : List (List ℕ)) → 0 < length y → p < 16384 → remembered_from p end (y ∷ ys) ≡ record { at = p; end = end } ∷ remembered_from (p + 1 + length y) end ys
remembered_more p end y ys some low = grind (arith, common_steps)

next_of : (old cur : List RememberedLabel) (labels : List ℕ) (start end at len : ℕ) (before after : List (List ℕ)) → Meets labels at before after → take 128 (old ++ remembered_from start end (labels_in labels)) ≡ take 128 (cur ++ remembered_from (start + at) end after) → at < length labels → slice_index labels at ≡ len → 0 < len → start + at < 16384 → Remembered old (cur ++ record { at = start + at; end = end } ∷ []) labels start end (at + 1 + len)
next_of old cur labels start end at len before [] m all inside head some low = absurd (omega (arith, inside, m.at, ap length m.whole, length-append (wire before) []))
next_of old cur labels start end at len before (y ∷ ys) m all inside head some low =
    let size : len ≡ length y = sym head ∙ read_at labels at before y ys m in
    let here : RememberedLabel = record { at = start + at; end = end } in
    let more : cur ++ remembered_from (start + at) end (y ∷ ys) ≡ (cur ++ here ∷ []) ++ remembered_from (start + at + 1 + length y) end ys =
    ap (λ r. cur ++ r) (remembered_more (start + at) end y ys (omega (arith, some, size)) low) ∙ sym (append_assoc cur (here ∷ []) (remembered_from (start + at + 1 + length y) end ys)) in
    let moved : start + at + 1 + length y ≡ start + (at + 1 + len) = omega (arith, size) in
    let P : ℕ → Type 0 = λ k. Meets labels (at + 1 + k) (before ++ y ∷ []) ys in
    record {
      before = before ++ y ∷ [];
      after = ys;
      meets = subst P (sym size) (meets_next labels at before y ys m);
      all = all ∙ (ap (take 128) more ∙ ap (λ p. take 128 ((cur ++ here ∷ []) ++ remembered_from p end ys)) moved);
    }

pub remember_next : (old cur : List RememberedLabel) (labels : List ℕ) (start end at len : ℕ) → Remembered old cur labels start end at → at < length labels → slice_index labels at ≡ len → 0 < len → start + at < 16384 → Remembered old (cur ++ record { at = start + at; end = end } ∷ []) labels start end (at + 1 + len)
remember_next old cur labels start end at len r inside head some low = next_of old cur labels start end at len r.before r.after r.meets r.all inside head some low

take_short : (xs : List RememberedLabel) → length xs ≤ 128 → take 128 xs ≡ xs
take_short xs h = take_all 128 xs h

take_full : (xs ys : List RememberedLabel) → length xs ≡ 128 → take 128 (xs ++ ys) ≡ xs
take_full xs ys h = ap (λ n. take n (xs ++ ys)) (sym h) ∙ take-append_seam xs ys

-- No more can be remembered.
pub remember_full : (old cur : List RememberedLabel) (labels : List ℕ) (start end at : ℕ) → Remembered old cur labels start end at → length cur ≡ 128 → cur ≡ take 128 (old ++ remembered_from start end (labels_in labels))
remember_full old cur labels start end at r full = sym (r.all ∙ take_full cur (remembered_from (start + at) end r.after) full)

remember_end : (old cur : List RememberedLabel) (labels : List ℕ) (start end at : ℕ) → (r : Remembered old cur labels start end at) → length cur ≤ 128 → remembered_from (start + at) end r.after ≡ [] → cur ≡ take 128 (old ++ remembered_from start end (labels_in labels))
remember_end old cur labels start end at r few none = sym (r.all ∙ (ap (λ x. take 128 (cur ++ x)) none ∙ (ap (take 128) (append-nil cur) ∙ take_short cur few)))

too_far : (p end : ℕ) (ls : List (List ℕ)) → 16384 ≤ p → remembered_from p end ls ≡ []
too_far p end [] h = refl
too_far p end ([] ∷ ls) h = refl
too_far p end ((c ∷ l) ∷ ls) h = grind (arith, common_steps)

-- A pointer leads to no offset from here on.
pub remember_far : (old cur : List RememberedLabel) (labels : List ℕ) (start end at : ℕ) → Remembered old cur labels start end at → length cur ≤ 128 → 16384 ≤ start + at → cur ≡ take 128 (old ++ remembered_from start end (labels_in labels))
remember_far old cur labels start end at r few far = remember_end old cur labels start end at r few (too_far (start + at) end r.after far)

nothing_left : (p end : ℕ) (labels : List ℕ) (at : ℕ) (before after : List (List ℕ)) → Meets labels at before after → slice_index labels at ≡ 0 → remembered_from p end after ≡ []
nothing_left p end labels at before [] m zero = refl
nothing_left p end labels at before ([] ∷ ls) m zero = refl
nothing_left p end labels at before ((c ∷ l) ∷ ls) m zero = absurd (omega (arith, zero, read_at labels at before (c ∷ l) ls m))

-- The root stands here.
pub remember_root : (old cur : List RememberedLabel) (labels : List ℕ) (start end at : ℕ) → Remembered old cur labels start end at → length cur ≤ 128 → slice_index labels at ≡ 0 → cur ≡ take 128 (old ++ remembered_from start end (labels_in labels))
remember_root old cur labels start end at r few zero = remember_end old cur labels start end at r few (nothing_left (start + at) end labels at r.before r.after r.meets zero)

none_after : (p end : ℕ) (labels : List ℕ) (at : ℕ) (before after : List (List ℕ)) → Meets labels at before after → length labels ≤ at → remembered_from p end after ≡ []
none_after p end labels at before [] m h = refl
none_after p end labels at before (y ∷ ys) m h = absurd (omega (arith, h, m.at, ap length m.whole, length-append (wire before) (wire (y ∷ ys))))

-- The labels end here.
pub remember_all : (old cur : List RememberedLabel) (labels : List ℕ) (start end at : ℕ) → Remembered old cur labels start end at → length cur ≤ 128 → length labels ≤ at → cur ≡ take 128 (old ++ remembered_from start end (labels_in labels))
remember_all old cur labels start end at r few h = remember_end old cur labels start end at r few (none_after (start + at) end labels at r.before r.after r.meets h)

pub remembered_size : (ws : List Written) → length (all_remembered ws) ≡ length ws
remembered_size ws = length-map ws remembered

pub remembered_push : (new old : List Written) (w : Written) → new ≡ old ++ w ∷ [] → all_remembered new ≡ all_remembered old ++ remembered w ∷ []
remembered_push new old w e = ap all_remembered e ∙ map-append remembered old (w ∷ [])
