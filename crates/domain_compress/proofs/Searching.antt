-- Searching the longest end of a name that was written before.
use Rattle.std.proofs.Common.{◌≡◌, ℕ, ◌+◌, ◌-◌, ◌≤◌, ◌<◌, inl, inr, List, [], ◌∷◌, ◌++◌, length, drop, take, refl, sym, ap, subst, ◌∙◌, arith, slice_index, length-append}
use Rattle.std.proofs.lemmas.Grind.{common_steps}
use Rattle.std.proofs.lemmas.Bool.{cases_lt}
use Rattle.std.proofs.Math.Seq.{drop-append_seam}
use Rattle.domain_label.specs.Wire.{wire, labels_in, IsAbsolute, IsAbsoluteWire}
use Rattle.domain_label.proofs.WireLaws.{labels_in_wire, wire_absolute, absolute_wire}
use Rattle.domain_flat.proofs.LabelBounds.{Meets, meets_start, meets_take, meets_drop, meets_labels, meets_next, read_at}
use Rattle.domain_compress.specs.Ends.{first_label}
use Rattle.domain_compress.specs.Written.{StandsThrough, SuffixAt}

-- Up to the offset at, each end of the name has the property.
pub record Passed (P : List (List ℕ) → Type 0) (name : List ℕ) (at : ℕ) : Type 0 where
  pub before : List (List ℕ)
  pub after : List (List ℕ)
  pub meets : Meets name at before after
  pub absolute : IsAbsolute after
  pub earlier : (xs ys : List (List ℕ)) → labels_in name ≡ xs ++ ys → length xs < length before → P ys

pub passed_start : (P : List (List ℕ) → Type 0) (name : List ℕ) → IsAbsoluteWire name → Passed P name 0
passed_start P name w = record {
  before = [];
  after = labels_in name;
  meets = meets_start name (absolute_wire w);
  absolute = w.1.0;
  earlier = λ xs ys e h. absurd (omega (arith, h));
}

pub meets_length : (o : List ℕ) (i : ℕ) (xs ys : List (List ℕ)) → Meets o i xs ys → length o ≡ i + length (wire ys)
meets_length o i xs ys m = omega (arith, m.at, ap length m.whole, length-append (wire xs) (wire ys))

pub after_all : (name : List ℕ) (at : ℕ) → take (length name - at) (drop at name) ≡ drop at name
after_all name at = grind (arith, common_steps)

-- What stands after the offset at.
pub record Ahead (name : List ℕ) (at : ℕ) (after : List (List ℕ)) : Type 0 where
  pub inside : at < length name
  pub wire_form : IsAbsoluteWire (drop at name)
  pub spelled : labels_in (drop at name) ≡ after
  pub head_fits : at + 1 + slice_index name at ≤ length name

pub size_some : (ls : List (List ℕ)) → IsAbsolute ls → (l : List ℕ) × (rest : List (List ℕ)) × (ls ≡ l ∷ rest)
size_some [] a = absurd a
size_some (l ∷ rest) a = (l, rest, refl)

pub ahead_of : (name : List ℕ) (at : ℕ) (xs ys : List (List ℕ)) → IsAbsoluteWire name → Meets name at xs ys → IsAbsolute ys → (l : List ℕ) (rest : List (List ℕ)) → ys ≡ l ∷ rest → Ahead name at ys
ahead_of name at xs ys w m a l rest e =
    let k = meets_length name at xs ys m in
    let P : List (List ℕ) → Type 0 = λ ys. Meets name at xs ys in
    let m' = subst P e m in
    let h = read_at name at xs l rest m' in
    let n = meets_length name _ _ _ (meets_next name at xs l rest m') in
    let d = meets_drop name at xs ys m in
    let whole : length (wire (labels_in name)) ≡ length name = ap length w.0 in
    let form : IsAbsoluteWire (wire ys) = wire_absolute ys (a, omega (arith, k, whole, w.1.1)) in
    record {
      inside = omega (arith, n);
      wire_form = subst IsAbsoluteWire (sym d) form;
      spelled = ap labels_in d ∙ labels_in_wire ys;
      head_fits = omega (arith, n, h);
    }

pub ahead : {P : List (List ℕ) → Type 0} (name : List ℕ) (at : ℕ) → IsAbsoluteWire name → (s : Passed P name at) → Ahead name at s.after
ahead name at w s =
    let b = size_some s.after s.absolute in
    ahead_of name at s.before s.after w s.meets s.absolute b.0 b.1 b.2

-- One cut of a list at one place.
pub one_cut : (xs ys zs bs : List (List ℕ)) → xs ++ ys ≡ zs ++ bs → length xs ≡ length zs → ys ≡ bs
one_cut xs ys zs bs e n = sym (drop-append_seam xs ys) ∙ (ap (drop (length xs)) e ∙ (ap (λ k. drop k (zs ++ bs)) n ∙ drop-append_seam zs bs))

-- What begins earlier has fewer labels before it, and the other way round.
tail_of : {x y : List ℕ} {xs ys : List (List ℕ)} → x ∷ xs ≡ y ∷ ys → xs ≡ ys
tail_of e = ap (drop 1) e

head_size : {x y : List ℕ} {xs ys : List (List ℕ)} → x ∷ xs ≡ y ∷ ys → length x ≡ length y
head_size e = ap (λ zs. length (first_label zs)) e

pub fewer : (xs zs ys bs : List (List ℕ)) → xs ++ ys ≡ zs ++ bs → length (wire xs) < length (wire zs) → length xs < length zs
fewer xs [] ys bs e lt = absurd (omega (arith, lt))
fewer [] (z ∷ zs) ys bs e lt = omega arith
fewer (x ∷ xs) (z ∷ zs) ys bs e lt =
    omega (arith, fewer xs zs ys bs (tail_of e) (omega (arith, lt, head_size e, length-append x (wire xs), length-append z (wire zs))))

pub shorter : (xs zs ys bs : List (List ℕ)) → xs ++ ys ≡ zs ++ bs → length xs < length zs → length (wire xs) < length (wire zs)
shorter xs [] ys bs e lt = absurd (omega (arith, lt))
shorter [] (z ∷ zs) ys bs e lt = omega arith
shorter (x ∷ xs) (z ∷ zs) ys bs e lt =
    omega (arith, shorter xs zs ys bs (tail_of e) (omega (arith, lt)), head_size e, length-append x (wire xs), length-append z (wire zs))

more_earlier : (P : List (List ℕ) → Type 0) (name : List ℕ) (before : List (List ℕ)) (l : List ℕ) (rest : List (List ℕ)) → labels_in name ≡ before ++ l ∷ rest → ((xs ys : List (List ℕ)) → labels_in name ≡ xs ++ ys → length xs < length before → P ys) → P (l ∷ rest) → (xs ys : List (List ℕ)) → labels_in name ≡ xs ++ ys → length xs < length (before ++ l ∷ []) → P ys
more_earlier P name before l rest whole earlier here xs ys e h =
    elim (cases_lt (length xs) (length before)) [
      | inl lt ↦ earlier xs ys e lt
      | inr le ↦ (
          let same : length before ≡ length xs = omega (arith, h, le, length-append before (l ∷ [])) in
          subst P (one_cut before (l ∷ rest) xs ys (sym whole ∙ e) same) here)
    ]

next_of : (P : List (List ℕ) → Type 0) (name : List ℕ) (at : ℕ) (before after : List (List ℕ)) → Meets name at before after → IsAbsolute after → ((xs ys : List (List ℕ)) → labels_in name ≡ xs ++ ys → length xs < length before → P ys) → P after → (slice_index name at ≡ 0 → ⊥) → Passed P name (at + 1 + slice_index name at)
next_of P name at before [] m a earlier here some = absurd a
next_of P name at before ([] ∷ rest) m a earlier here some = absurd (some (read_at name at before [] rest m))
next_of P name at before ((c ∷ l) ∷ rest) m a earlier here some =
    let h = read_at name at before (c ∷ l) rest m in
    let Q : ℕ → Type 0 = λ k. Passed P name (at + 1 + k) in
    subst Q (sym h) (record {
      before = before ++ (c ∷ l) ∷ [];
      after = rest;
      meets = meets_next name at before (c ∷ l) rest m;
      absolute = a.1;
      earlier = more_earlier P name before (c ∷ l) rest (meets_labels name at before ((c ∷ l) ∷ rest) m) earlier here;
    })

-- Each label more, the property may become a weaker one.
pub passed_more : {P Q : List (List ℕ) → Type 0} (name : List ℕ) (at : ℕ) → ((ys : List (List ℕ)) → P ys → Q ys) → (s : Passed P name at) → Q s.after → (slice_index name at ≡ 0 → ⊥) → Passed Q name (at + 1 + slice_index name at)
passed_more {P} {Q} name at weaker s here some =
    next_of Q name at s.before s.after s.meets s.absolute (λ xs ys e h. weaker ys (s.earlier xs ys e h)) here some

pub passed_next : {P : List (List ℕ) → Type 0} (name : List ℕ) (at : ℕ) → (s : Passed P name at) → P s.after → (slice_index name at ≡ 0 → ⊥) → Passed P name (at + 1 + slice_index name at)
passed_next {P} name at s here some = passed_more {P = P} {Q = P} name at (λ ys p. p) s here some

root_left : (name : List ℕ) (at : ℕ) (before after : List (List ℕ)) → Meets name at before after → IsAbsolute after → slice_index name at ≡ 0 → length after ≡ 1
root_left name at before [] m a zero = absurd a
root_left name at before ([] ∷ rest) m a zero = ap (λ r. length ([] ∷ r)) a
root_left name at before ((c ∷ l) ∷ rest) m a zero = absurd (omega (arith, zero, read_at name at before (c ∷ l) rest m))

-- Each end but the root has the property.
pub passed_all : {P : List (List ℕ) → Type 0} (name : List ℕ) (at : ℕ) → Passed P name at → slice_index name at ≡ 0 → (xs ys : List (List ℕ)) → labels_in name ≡ xs ++ ys → 1 < length ys → P ys
passed_all name at s zero xs ys e more =
    let one = root_left name at s.before s.after s.meets s.absolute zero in
    let whole = meets_labels name at s.before s.after s.meets in
    s.earlier xs ys e (omega (arith, more, one, ap length (sym whole ∙ e), length-append s.before s.after, length-append xs ys))

-- Each end that begins before the offset has it.
pub passed_upto : {P : List (List ℕ) → Type 0} (name : List ℕ) (at upto : ℕ) → Passed P name at → upto ≤ at → (xs ys : List (List ℕ)) → labels_in name ≡ xs ++ ys → length (wire xs) < upto → P ys
passed_upto name at upto s le xs ys e lt =
    s.earlier xs ys e (fewer xs s.before ys s.after (sym e ∙ meets_labels name at s.before s.after s.meets) (omega (arith, le, lt, s.meets.at)))

pub more_left : (name : List ℕ) (at : ℕ) (before after : List (List ℕ)) → Meets name at before after → IsAbsolute after → (slice_index name at ≡ 0 → ⊥) → (1 < length after) × (at + 2 ≤ length name)
more_left name at before [] m a some = absurd a
more_left name at before ([] ∷ rest) m a some = absurd (some (read_at name at before [] rest m))
more_left name at before ((c ∷ l) ∷ []) m a some = absurd a.1
more_left name at before ((c ∷ l) ∷ r ∷ rest) m a some = (omega arith, omega (arith, meets_length name at before ((c ∷ l) ∷ r ∷ rest) m, length-append l (wire (r ∷ rest))))

-- An end of the name that stands at an offset.
pub end_stands : {P : List (List ℕ) → Type 0} (t name : List ℕ) (p at k upto : ℕ) → IsAbsoluteWire name → (s : Passed P name at) → at < upto → (slice_index name at ≡ 0 → ⊥) → StandsThrough t p (labels_in (drop at name)) k → SuffixAt t p name upto at k
end_stands t name p at k upto w s lt some through =
    let more = more_left name at s.before s.after s.meets s.absolute some in
    let Q : List (List ℕ) → Type 0 = λ b. StandsThrough t p b k in
    record {
      before = s.before;
      after = s.after;
      parts = meets_labels name at s.before s.after s.meets;
      more = more.0;
      through = subst Q (ahead name at w s).spelled through;
      octets = meets_take name at s.before s.after s.meets;
      inside = more.1;
      earlier = lt;
    }
