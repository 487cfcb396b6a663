-- What the fields of a name builder say of its labels.
use Rattle.std.proofs.Common.{IfSome, ◌≡◌, ℕ, ◌+◌, ◌<◌, ◌≤◌, List, [], ◌∷◌, ◌++◌, length, take, drop, Option, None, Some, refl, ap, sym, ◌∙◌, arith, append_assoc, length-append, append-nil, subst, true, false, is_some, set, ◌-◌}
use Rattle.std.proofs.Math.Seq.{set-append_seam}
use Rattle.std.proofs.lemmas.Grind.{common_steps}
use Rattle.domain_label.specs.Wire.{wire, labels_in, IsRelative, IsRelativeName, IsAbsoluteName, IsAbsoluteWire, IsRelativeWire, Root}
use Rattle.domain_label.proofs.WireLaws.{labels_in_wire, wire_absolute, wire_relative, wire_append, relative_then_absolute, relative_then_relative}
use Rattle.domain_text.specs.BuilderState.{BuilderState, encoded, encoded_label, closed_with, closed, size, pushed, ended, labelled, named}
use Rattle.domain_builder.specs.Inside.{Held, room, view_of, open_head, closed_at, IsInside}

length-cons-pos : (c : ℕ) (cs : List ℕ) → 0 < length (c ∷ cs)
length-cons-pos c cs = omega arith

pub length-closed : (ls : List (List ℕ)) (o : List ℕ) → length (wire (closed_with ls o)) ≡ length (wire ls ++ encoded_label o)
length-closed ls [] = grind (arith, common_steps)
length-closed ls (c ∷ cs) = grind (arith, common_steps, wire_append ls ((c ∷ cs) ∷ []))

pub size_shown : (b : BuilderState) → size b ≡ length (encoded b)
size_shown b = length-closed b.labels b.open_label

pub after : (s : List ℕ) (x : ℕ) (t : List ℕ) → drop (length s + 1) (s ++ x ∷ t) ≡ t
after s x t =
    let e : s ++ x ∷ t ≡ (s ++ x ∷ []) ++ t = sym (append_assoc s (x ∷ []) t) in
    let n : length s + 1 ≡ length (s ++ x ∷ []) = sym (length-append s (x ∷ [])) in
    rw (e, n) (all_before (s ++ x ∷ []) t)
  where
    all_before : (u t : List ℕ) → drop (length u) (u ++ t) ≡ t
    all_before u t = grind (arith, common_steps)

-- the view of the octets and the offset that labels make is those labels
pub view-shown : (b : BuilderState) → view_of (encoded b) (open_head b) ≡ b
view-shown b = parts b.labels b.open_label
  where
    parts : (ls : List (List ℕ)) (o : List ℕ) → view_of (encoded (record { labels = ls; open_label = o })) (open_head (record { labels = ls; open_label = o })) ≡ record { labels = ls; open_label = o }
    parts ls [] = rw (append-nil (wire ls), labels_in_wire ls) refl
    parts ls (c ∷ cs) =
        let front : take (length (wire ls)) (wire ls ++ 0 ∷ c ∷ cs) ≡ wire ls = grind (arith, common_steps) in
        let back : drop (length (wire ls) + 1) (wire ls ++ 0 ∷ c ∷ cs) ≡ c ∷ cs = after (wire ls) 0 (c ∷ cs) in
        rw (front, back, labels_in_wire ls) refl

-- the octets and the offset that labels make are those of a builder
pub inside_shown : (b : BuilderState) → IsRelative b.labels → length b.open_label ≤ 63 → size b ≤ 254 → IsInside (encoded b) (open_head b)
inside_shown b ok short small =
    let e = view-shown b in
    record {
      octets = rw e refl;
      head = rw e refl;
      labels = rw e ok;
      label_short = rw e short;
      name_short = rw (← size_shown b) small;
    }

-- more octets in a label that is open, and in one that isn't
pub size_pushed_open : (b : BuilderState) (s : List ℕ) → 0 < length b.open_label → size (pushed b s) ≡ size b + length s
size_pushed_open b s h = rw (size_shown (pushed b s), size_shown b) (parts b.labels b.open_label h)
  where
    parts : (ls : List (List ℕ)) (o : List ℕ) → 0 < length o → length (wire ls ++ encoded_label (o ++ s)) ≡ length (wire ls ++ encoded_label o) + length s
    parts ls [] h = absurd (omega arith)
    parts ls (c ∷ cs) h = grind (arith, common_steps)

pub size_pushed_none : (b : BuilderState) (s : List ℕ) → length b.open_label ≤ 0 → 0 < length s → size (pushed b s) ≡ size b + length s + 1
size_pushed_none b s h p = rw (size_shown (pushed b s), size_shown b) (parts b.labels b.open_label s h p)
  where
    parts : (ls : List (List ℕ)) (o : List ℕ) (s : List ℕ) → length o ≤ 0 → 0 < length s → length (wire ls ++ encoded_label (o ++ s)) ≡ length (wire ls ++ encoded_label o) + length s + 1
    parts ls [] [] h p = absurd (omega arith)
    parts ls [] (x ∷ xs) h p = grind (arith, common_steps)
    parts ls (c ∷ cs) s h p = absurd (omega arith)

pub nothing_pushed : (b : BuilderState) (s : List ℕ) → length s ≤ 0 → pushed b s ≡ b
nothing_pushed b [] h = ap (λ (o : List ℕ). record { labels = b.labels; open_label = o }) (append-nil b.open_label)
nothing_pushed b (x ∷ xs) h = absurd (omega arith)

-- octets and an offset that are those of labels within the limits
pub becomes : (b : BuilderState) (s : List ℕ) (h : Option ℕ) → s ≡ encoded b → h ≡ open_head b → IsRelative b.labels → length b.open_label ≤ 63 → size b ≤ 254 → IsInside s h × (view_of s h ≡ b)
becomes b s h es eh ok short small = rw (es, eh) (inside_shown b ok short small, view-shown b)

-- the same octets
pub stays : (s t : List ℕ) (h : Option ℕ) → t ≡ s → IsInside s h → IsInside t h × (view_of t h ≡ view_of s h)
stays s t h e i = rw e (i, refl)

-- more octets in an open label
pub more_open : (s t x : List ℕ) (h : ℕ) → IsInside s (Some h) → t ≡ s ++ x → length (pushed (view_of s (Some h)) x).open_label ≤ 63 → size (pushed (view_of s (Some h)) x) ≤ 254 → IsInside t (Some h) × (view_of t (Some h) ≡ pushed (view_of s (Some h)) x)
more_open s t x h i e short small =
    let b : BuilderState = view_of s (Some h) in
    let p = parts b.labels b.open_label i.head in
    becomes (pushed b x) t (Some h) (e ∙ ap (λ (u : List ℕ). u ++ x) i.octets ∙ p.0) p.1 i.labels short small
  where
    parts : (ls : List (List ℕ)) (o : List ℕ) → Some h ≡ open_head (record { labels = ls; open_label = o }) → ((wire ls ++ encoded_label o) ++ x ≡ wire ls ++ encoded_label (o ++ x)) × (Some h ≡ open_head (record { labels = ls; open_label = o ++ x }))
    parts ls [] e = absurd (cc)
    parts ls (c ∷ cs) e = (append_assoc (wire ls) (0 ∷ c ∷ cs) x, e)

-- the first octets in a label
pub more_new : (s t x : List ℕ) → IsInside s None → t ≡ s ++ 0 ∷ x → 0 < length x → length (pushed (view_of s None) x).open_label ≤ 63 → size (pushed (view_of s None) x) ≤ 254 → IsInside t (Some (length s)) × (view_of t (Some (length s)) ≡ pushed (view_of s None) x)
more_new s t x i e some short small =
    let b : BuilderState = view_of s None in
    let p = parts b.labels x some in
    let whole : s ≡ wire b.labels = i.octets ∙ append-nil (wire b.labels) in
    becomes (pushed b x) t (Some (length s)) (e ∙ ap (λ (u : List ℕ). u ++ 0 ∷ x) whole ∙ p.0) (ap (λ (u : List ℕ). Some (length u)) whole ∙ p.1) i.labels short small
  where
    parts : (ls : List (List ℕ)) (x : List ℕ) → 0 < length x → (wire ls ++ 0 ∷ x ≡ wire ls ++ encoded_label x) × (Some (length (wire ls)) ≡ open_head (record { labels = ls; open_label = x }))
    parts ls [] p = absurd (omega arith)
    parts ls (y ∷ ys) p = (refl, refl)

-- the same at what a builder has built
pub add_open : (s t x : List ℕ) (h : Option ℕ) (b : BuilderState) → view_of s h ≡ b → IsInside s h → is_some h ≡ true → t ≡ s ++ x → length (pushed b x).open_label ≤ 63 → size (pushed b x) ≤ 254 → IsInside t h × (view_of t h ≡ pushed b x)
add_open s t x None b v i o e short small = absurd (cc)
add_open s t x (Some h) b v i o e short small = rw (← v) (more_open s t x h i e (subst (λ (w : BuilderState). length (pushed w x).open_label ≤ 63) (sym v) short) (subst (λ (w : BuilderState). size (pushed w x) ≤ 254) (sym v) small))

pub add_new : (s t x : List ℕ) (h : Option ℕ) (b : BuilderState) → view_of s h ≡ b → IsInside s h → is_some h ≡ false → t ≡ s ++ 0 ∷ x → 0 < length x → length (pushed b x).open_label ≤ 63 → size (pushed b x) ≤ 254 → IsInside t (Some (length s)) × (view_of t (Some (length s)) ≡ pushed b x)
add_new s t x None b v i o e some short small = rw (← v) (more_new s t x i e some (subst (λ (w : BuilderState). length (pushed w x).open_label ≤ 63) (sym v) short) (subst (λ (w : BuilderState). size (pushed w x) ≤ 254) (sym v) small))
add_new s t x (Some h) b v i o e some short small = absurd (cc)

-- octets that stay
pub same_octets : (s t : List ℕ) (h : Option ℕ) (b : BuilderState) → view_of s h ≡ b → IsInside s h → t ≡ s → IsInside t h × (view_of t h ≡ b)
same_octets s t h b v i e = rw e (i, v)

-- the same, where the octets came in u and the offset from n
pub add_headed : (s t x u n : List ℕ) (h : Option ℕ) (b : BuilderState) → n ≡ s → u ≡ 0 ∷ x → view_of s h ≡ b → IsInside s h → is_some h ≡ false → t ≡ s ++ u → 0 < length x → length (pushed b x).open_label ≤ 63 → size (pushed b x) ≤ 254 → IsInside t (Some (length n)) × (view_of t (Some (length n)) ≡ pushed b x)
add_headed s t x u n h b en eu v i o e some short small = rw en (add_new s t x h b v i o (e ∙ ap (λ (w : List ℕ). s ++ w) eu) some short small)

-- the size with more octets, by the octets of the fields
pub size_open : (s x : List ℕ) (h : Option ℕ) (b : BuilderState) → view_of s h ≡ b → IsInside s h → is_some h ≡ true → size (pushed b x) ≡ length s + length x
size_open s x None b v i o = absurd (cc)
size_open s x (Some h) b v i o = rw (← v) (size_shown (pushed (view_of s (Some h)) x) ∙ sym (ap length (parts (view_of s (Some h)).labels (view_of s (Some h)).open_label i.head)) ∙ rw (← i.octets) (length-append s x))
  where
    parts : (ls : List (List ℕ)) (o : List ℕ) → Some h ≡ open_head (record { labels = ls; open_label = o }) → (wire ls ++ encoded_label o) ++ x ≡ wire ls ++ encoded_label (o ++ x)
    parts ls [] e = absurd (cc)
    parts ls (c ∷ cs) e = append_assoc (wire ls) (0 ∷ c ∷ cs) x

pub size_new : (s x u : List ℕ) (h : Option ℕ) (b : BuilderState) → u ≡ 0 ∷ x → view_of s h ≡ b → IsInside s h → is_some h ≡ false → 0 < length x → size (pushed b x) ≡ length s + length u
size_new s x u None b eu v i o some = rw (← v) (size_shown (pushed (view_of s None) x) ∙ parts (view_of s None).labels x some ∙ ap (λ (w : List ℕ). length w + length (0 ∷ x)) (sym (append-nil (wire (view_of s None).labels)) ∙ sym i.octets) ∙ ap (λ (w : List ℕ). length s + length w) (sym eu))
  where
    parts : (ls : List (List ℕ)) (x : List ℕ) → 0 < length x → length (wire ls ++ encoded_label x) ≡ length (wire ls) + length (0 ∷ x)
    parts ls [] p = absurd (omega arith)
    parts ls (y ∷ ys) p = length-append (wire ls) (0 ∷ y ∷ ys)
size_new s x u (Some h) b eu v i o some = absurd (cc)

-- ---- finishing a label

-- the labels that are finished with the open one are labels
pub IsRelative-closed : (ls : List (List ℕ)) (o : List ℕ) → IsRelative ls → length o ≤ 63 → IsRelative (closed_with ls o)
IsRelative-closed ls [] p h = p
IsRelative-closed ls (c ∷ cs) p h = relative_then_relative ls ((c ∷ cs) ∷ []) p (h, tt)

-- what a builder's invariant says of what it has built
pub record IsBuilt (b : BuilderState) : Type 0 where
  pub labels : IsRelative b.labels
  pub label_short : length b.open_label ≤ 63
  pub name_short : size b ≤ 254

pub built_of : (s : List ℕ) (h : Option ℕ) (b : BuilderState) → view_of s h ≡ b → IsInside s h → IsBuilt b
built_of s h b v i = subst IsBuilt v (record { labels = i.labels; label_short = i.label_short; name_short = rw (size_shown (view_of s h), ← i.octets) i.name_short })

-- a write at the offset of the length finishes the label
pub set_closes : (ls : List (List ℕ)) (c : ℕ) (cs u : List ℕ) → set ((wire ls ++ 0 ∷ c ∷ cs) ++ u) (length (wire ls)) (length (c ∷ cs)) ≡ wire (closed_with ls (c ∷ cs)) ++ u
set_closes ls c cs u =
    ap (λ (w : List ℕ). set w (length (wire ls)) (length (c ∷ cs))) (append_assoc (wire ls) (0 ∷ c ∷ cs) u)
    ∙ set-append_seam (wire ls) 0 ((c ∷ cs) ++ u) (length (c ∷ cs))
    ∙ sym (ap (λ (w : List ℕ). w ++ u) (wire_append ls ((c ∷ cs) ∷ []) ∙ ap (λ (w : List ℕ). wire ls ++ length (c ∷ cs) ∷ w) (append-nil (c ∷ cs))) ∙ append_assoc (wire ls) (length (c ∷ cs) ∷ c ∷ cs) u)

-- the octets of the fields, once the length of the open label is written
pub open_octets : (s u : List ℕ) (h : ℕ) (b : BuilderState) → view_of s (Some h) ≡ b → IsInside s (Some h) → set (s ++ u) h (length s - h - 1) ≡ wire (closed b) ++ u
open_octets s u h b v i = subst (λ (w : BuilderState). set (s ++ u) h (length s - h - 1) ≡ wire (closed w) ++ u) v (parts (view_of s (Some h)).labels (view_of s (Some h)).open_label i.octets i.head)
  where
    parts : (ls : List (List ℕ)) (o : List ℕ) → s ≡ wire ls ++ encoded_label o → Some h ≡ open_head (record { labels = ls; open_label = o }) → set (s ++ u) h (length s - h - 1) ≡ wire (closed_with ls o) ++ u
    parts ls [] e eh = absurd (cc)
    parts ls (c ∷ cs) e eh =
        let offset : h ≡ length (wire ls) = cc in
        let n : length s - h - 1 ≡ length (c ∷ cs) = omega (arith, ap length e, length-append (wire ls) (0 ∷ c ∷ cs), offset) in
        rw n (rw offset (rw e (set_closes ls c cs u)))

pub none_octets : (s : List ℕ) (b : BuilderState) → view_of s None ≡ b → IsInside s None → s ≡ wire (closed b)
none_octets s b v i = subst (λ (w : BuilderState). s ≡ wire (closed w)) v (i.octets ∙ append-nil (wire (view_of s None).labels))

-- finished octets
pub ended_inside : (b : BuilderState) (t : List ℕ) → IsBuilt b → t ≡ wire (closed b) → IsInside t None × (view_of t None ≡ ended b)
ended_inside b t i e = becomes (ended b) t None (e ∙ sym (append-nil (wire (closed b)))) refl (IsRelative-closed b.labels b.open_label i.labels i.label_short) (omega arith) i.name_short

pub labelled_inside : (b : BuilderState) (x t : List ℕ) → IsBuilt b → 0 < length x → length x ≤ 63 → size (labelled b x) ≤ 254 → t ≡ wire (closed b) ++ length x ∷ x → IsInside t None × (view_of t None ≡ labelled b x)
labelled_inside b [] t i some short small e = absurd (omega arith)
labelled_inside b (c ∷ cs) t i some short small e =
    becomes (labelled b (c ∷ cs)) t None
    (e ∙ sym (append-nil (wire (closed b ++ (c ∷ cs) ∷ [])) ∙ wire_append (closed b) ((c ∷ cs) ∷ []) ∙ ap (λ (w : List ℕ). wire (closed b) ++ length (c ∷ cs) ∷ w) (append-nil (c ∷ cs)))) refl
    (IsRelative-closed (closed b) (c ∷ cs) (IsRelative-closed b.labels b.open_label i.labels i.label_short) short) (omega arith) small

pub size_labelled : (b : BuilderState) (x : List ℕ) → 0 < length x → size (labelled b x) ≡ size b + length x + 1
size_labelled b [] some = absurd (omega arith)
size_labelled b (c ∷ cs) some =
    ap length (wire_append (closed b) ((c ∷ cs) ∷ [])) ∙ length-append (wire (closed b)) (length (c ∷ cs) ∷ ((c ∷ cs) ++ []))
    ∙ omega (arith, ap length (append-nil (c ∷ cs)))

pub labelled_nothing : (b : BuilderState) (x : List ℕ) → length x ≤ 0 → labelled b x ≡ ended b
labelled_nothing b [] h = refl
labelled_nothing b (c ∷ cs) h = absurd (omega arith)

-- the fields after `end_label`
pub ended_fields : (s t : List ℕ) (h : ℕ) (b : BuilderState) → view_of s (Some h) ≡ b → IsInside s (Some h) → t ≡ set s h (length s - h - 1) → IsInside t None × (view_of t None ≡ ended b)
ended_fields s t h b v i e =
    ended_inside b t (built_of s (Some h) b v i)
    (e ∙ ap (λ (w : List ℕ). set w h (length s - h - 1)) (sym (append-nil s)) ∙ open_octets s [] h b v i ∙ append-nil (wire (closed b)))

-- the fields after a label was added
pub labelled_open : (s u t x : List ℕ) (h : ℕ) (b : BuilderState) → view_of s (Some h) ≡ b → IsInside s (Some h) → u ≡ length x ∷ x → t ≡ set (s ++ u) h (length s - h - 1) → 0 < length x → length x ≤ 63 → size (labelled b x) ≤ 254 → IsInside t None × (view_of t None ≡ labelled b x)
labelled_open s u t x h b v i eu e some short small =
    labelled_inside b x t (built_of s (Some h) b v i) some short small (e ∙ open_octets s u h b v i ∙ ap (λ (w : List ℕ). wire (closed b) ++ w) eu)

pub labelled_none : (s u t x : List ℕ) (b : BuilderState) → view_of s None ≡ b → IsInside s None → u ≡ length x ∷ x → t ≡ s ++ u → 0 < length x → length x ≤ 63 → size (labelled b x) ≤ 254 → IsInside t None × (view_of t None ≡ labelled b x)
labelled_none s u t x b v i eu e some short small =
    labelled_inside b x t (built_of s None b v i) some short small (e ∙ ap (λ (w : List ℕ). w ++ u) (none_octets s b v i) ∙ ap (λ (w : List ℕ). wire (closed b) ++ w) eu)

-- the size with one more label, by the octets of the fields
pub size_labelled_fields : (s x u : List ℕ) (h : Option ℕ) (b : BuilderState) → u ≡ length x ∷ x → view_of s h ≡ b → IsInside s h → 0 < length x → size (labelled b x) ≡ length s + length u
size_labelled_fields s x u h b eu v i some =
    size_labelled b x some
    ∙ rw (eu, ap length (i.octets ∙ ap encoded v), ← size_shown b) (omega arith)

-- where an open label's octets begin and end
pub open_fits : (s n : List ℕ) (h : Option ℕ) → n ≡ s → IsInside s h → IfSome h (λ p. (p < length n) × (length n ≤ p + 64))
open_fits s n None e i = tt
open_fits s n (Some h) e i = rw e (fits (view_of s (Some h)).labels (view_of s (Some h)).open_label i.octets i.head i.label_short)
  where
    fits : (ls : List (List ℕ)) (o : List ℕ) → s ≡ wire ls ++ encoded_label o → Some h ≡ open_head (record { labels = ls; open_label = o }) → length o ≤ 63 → (h < length s) × (length s ≤ h + 64)
    fits ls [] e eh short = absurd (cc)
    fits ls (c ∷ cs) e eh short = let size : length s ≡ length (wire ls) + length (0 ∷ c ∷ cs) = ap length e ∙ length-append (wire ls) (0 ∷ c ∷ cs) in grind (arith, common_steps)

-- the fields that the code has after each call: n is what it read the number of octets from
pub end_closed : (s t n : List ℕ) (h : Option ℕ) (b : BuilderState) → n ≡ s → view_of s h ≡ b → IsInside s h → t ≡ closed_at s h (length n) → IsInside t None × (view_of t None ≡ ended b)
end_closed s t n None b en v i e = ended_inside b t (built_of s None b v i) (e ∙ none_octets s b v i)
end_closed s t n (Some h) b en v i e = ended_fields s t h b v i (e ∙ ap (λ (w : List ℕ). set s h (length w - h - 1)) en)

pub label_closed : (s u t x n y : List ℕ) (h : Option ℕ) (b : BuilderState) → n ≡ s → view_of s h ≡ b → IsInside s h → u ≡ length x ∷ x → y ≡ s ++ u → t ≡ closed_at y h (length n) → 0 < length x → length x ≤ 63 → size (labelled b x) ≤ 254 → IsInside t None × (view_of t None ≡ labelled b x)
label_closed s u t x n y None b en v i eu ey e some short small = labelled_none s u t x b v i eu (e ∙ ey) some short small
label_closed s u t x n y (Some h) b en v i eu ey e some short small =
    labelled_open s u t x h b v i eu (e ∙ ap (λ (w : List ℕ). set w h (length n - h - 1)) ey ∙ ap (λ (w : List ℕ). set (s ++ u) h (length w - h - 1)) en) some short small

-- what is built are the labels of a relative name
pub built_relative : (s : List ℕ) (h : Option ℕ) (b : BuilderState) → view_of s h ≡ b → IsInside s h → IsRelativeName (closed b)
built_relative s h b v i = let k = built_of s h b v i in (IsRelative-closed b.labels b.open_label k.labels k.label_short, k.name_short)

-- the octets with the root after finished labels
pub root_octets : (s t : List ℕ) (h : Option ℕ) (b : BuilderState) → view_of s h ≡ ended b → IsInside s h → t ≡ s ++ 0 ∷ [] → t ≡ wire (closed b ++ Root)
root_octets s t h b v i e =
    let whole : s ≡ wire (closed b) = i.octets ∙ ap encoded v ∙ append-nil (wire (closed b)) in
    e ∙ ap (λ (x : List ℕ). x ++ 0 ∷ []) whole ∙ sym (wire_append (closed b) Root)

-- more labels in their wire format
pub named_inside : (b : BuilderState) (x t : List ℕ) → IsBuilt b → IsRelativeWire x → size b + length x ≤ 254 → t ≡ wire (closed b) ++ x → IsInside t None × (view_of t None ≡ named b (labels_in x))
named_inside b x t i w small e =
    let ls : List (List ℕ) = labels_in x in
    let joined : wire (closed b ++ ls) ≡ wire (closed b) ++ x = wire_append (closed b) ls ∙ ap (λ (y : List ℕ). wire (closed b) ++ y) w.0 in
    becomes (named b ls) t None (e ∙ sym (append-nil (wire (closed b ++ ls)) ∙ joined)) refl
    (relative_then_relative (closed b) ls (IsRelative-closed b.labels b.open_label i.labels i.label_short) w.1.0) (omega arith)
    (omega (arith, ap length joined, length-append (wire (closed b)) x, small))

pub named_closed : (s t x n y : List ℕ) (h : Option ℕ) (b : BuilderState) → n ≡ s → view_of s h ≡ b → IsInside s h → y ≡ s ++ x → t ≡ closed_at y h (length n) → IsRelativeWire x → size b + length x ≤ 254 → IsInside t None × (view_of t None ≡ named b (labels_in x))
named_closed s t x n y None b en v i ey e w small = named_inside b x t (built_of s None b v i) w small (e ∙ ey ∙ ap (λ (z : List ℕ). z ++ x) (none_octets s b v i))
named_closed s t x n y (Some h) b en v i ey e w small =
    named_inside b x t (built_of s (Some h) b v i) w small
    (e ∙ ap (λ (z : List ℕ). set z h (length n - h - 1)) ey ∙ ap (λ (z : List ℕ). set (s ++ x) h (length z - h - 1)) en ∙ open_octets s x h b v i)

pub length_fields : (s : List ℕ) (h : Option ℕ) (b : BuilderState) → view_of s h ≡ b → IsInside s h → length s ≡ size b
length_fields s h b v i = ap length (i.octets ∙ ap encoded v) ∙ sym (size_shown b)

-- the size with more labels
pub size_named : (b : BuilderState) (ls : List (List ℕ)) → size (named b ls) ≡ size b + length (wire ls)
size_named b ls = ap length (wire_append (closed b) ls) ∙ length-append (wire (closed b)) (wire ls)

-- the size with labels in their wire format
pub size_named_wire : (b : BuilderState) (x : List ℕ) → IsRelativeWire x → size (named b (labels_in x)) ≡ size b + length x
size_named_wire b x w = size_named b (labels_in x) ∙ ap (λ (y : List ℕ). size b + length y) w.0

-- what doesn't fit exceeds the room
pub exceeds : (limit : Option ℕ) (held : Held) (capacity n : ℕ) → held.capacity ≡ capacity → IfSome limit (λ k. capacity ≡ k) → capacity < n → room limit held < n
exceeds None held capacity n e f h = omega (arith, e, h)
exceeds (Some k) held capacity n e f h = omega (arith, f, h)

pub room_grows : (limit : Option ℕ) (a b : Held) → a.capacity ≤ b.capacity → room limit a ≤ room limit b
room_grows None a b h = h
room_grows (Some k) a b h = omega arith

-- octets that are the wire format of a name's labels
pub relative_of : (s : List ℕ) (ls : List (List ℕ)) → s ≡ wire ls → IsRelativeName ls → IsRelativeWire s × (labels_in s ≡ ls)
relative_of s ls e r = (subst IsRelativeWire (sym e) (wire_relative ls r), ap labels_in e ∙ labels_in_wire ls)

pub absolute_of : (s : List ℕ) (ls : List (List ℕ)) → s ≡ wire ls → IsAbsoluteName ls → IsAbsoluteWire s × (labels_in s ≡ ls)
absolute_of s ls e a = (subst IsAbsoluteWire (sym e) (wire_absolute ls a), ap labels_in e ∙ labels_in_wire ls)

-- an absolute name after a relative one
pub absolute_after : (s x t : List ℕ) → IsRelativeWire s → IsAbsoluteWire x → length s + length x ≤ 255 → t ≡ s ++ x → IsAbsoluteWire t × (labels_in t ≡ labels_in s ++ labels_in x)
absolute_after s x t r a small e =
    let ls : List (List ℕ) = labels_in s ++ labels_in x in
    let joined : t ≡ wire ls = e ∙ ap (λ (y : List ℕ). y ++ x) (sym r.0) ∙ ap (λ (y : List ℕ). wire (labels_in s) ++ y) (sym a.0) ∙ sym (wire_append (labels_in s) (labels_in x)) in
    let short : length (wire ls) ≤ 255 = omega (arith, ap length joined, ap length e, length-append s x, small) in
    absolute_of t ls joined (relative_then_absolute (labels_in s) (labels_in x) r.1.0 a.1.0, short)

-- the room isn't more than the capacity that there is later
pub room_held : (limit : Option ℕ) (held later : Held) (capacity : ℕ) → later.capacity ≡ capacity → held.capacity ≤ later.capacity → IfSome limit (λ k. capacity ≡ k) → room limit held ≤ capacity
room_held None held later capacity e grows fixed = omega (arith, e, grows)
room_held (Some k) held later capacity e grows fixed = omega (arith, fixed)
