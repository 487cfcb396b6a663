-- A field is the same wherever its octets are.
use Rattle.std.proofs.Common.{◌≡◌, ◌∙◌, ℕ, ◌+◌, ◌-◌, ◌<◌, ◌≤◌, List, [], ◌∷◌, ◌++◌, length, take, drop, get_or, slice_index, slice_range, refl, sym, subst, ap, inl, inr, length-append, length-drop, arith}
use Rattle.std.specs.Int.{w16, from_be_bytes}
use Rattle.std.proofs.lemmas.List.{get_or-append-add, get_or_append_left, take-append-le, drop-append-le}
use Rattle.std.proofs.Math.Seq.{drop-append-add}
use Rattle.domain_header.specs.Numbers.{number16}
use Rattle.domain_descriptor.specs.declared.form.FieldForm.{FieldForm}
use Rattle.domain_descriptor.specs.declared.form.FieldForm.TheVariants as forms
use Rattle.domain_descriptor.specs.Fields.{CountedAt, SomeCountedAt, LongCountedAt, StringsAt, IsTag, TagAt, BlockAt, BlocksAt, ParamAt, ParamsAt, FormAt}
use Rattle.domain_descriptor.specs.Fields.StringsAt.{last, more}
use Rattle.domain_descriptor.specs.Fields.BlocksAt.{none as no_blocks, block}
use Rattle.domain_descriptor.specs.Fields.ParamsAt.{none as no_params, param}

-- ---- octets between others
index_in : (a s b : List ℕ) (i x : ℕ) → x ≡ length a + i → i < length s → slice_index (a ++ (s ++ b)) x ≡ slice_index s i
index_in a s b i x e lt =
    ap (λ (n : ℕ). get_or (a ++ (s ++ b)) n 0) e ∙ get_or-append-add a (s ++ b) i 0 ∙ get_or_append_left s b 0 i lt

range_in : (a s b : List ℕ) (i j x y : ℕ) → x ≡ length a + i → y ≡ length a + j → i ≤ j → j ≤ length s → slice_range (a ++ (s ++ b)) x y ≡ slice_range s i j
range_in a s b i j x y e f ordered inside =
    let m = a ++ (s ++ b) in
    let k : y - x ≡ j - i = omega (arith, e, f, ordered) in
    let few : j - i ≤ length (drop i s) = omega (arith, length-drop i s, ordered, inside) in
    ap (λ (n : ℕ). take n (drop x m)) k
    ∙ ap (λ (n : ℕ). take (j - i) (drop n m)) e
    ∙ ap (λ (xs : List ℕ). take (j - i) xs) (drop-append-add a (s ++ b) i ∙ drop-append-le i s b (omega (arith, ordered, inside)))
    ∙ take-append-le (j - i) (drop i s) b few

-- n octets of m from p on are those of w from r on, and they are the last of w where they are of m
pub record Moved (m : List ℕ) (p : ℕ) (w : List ℕ) (r n : ℕ) : Type 0 where
  pub index : (i x y : ℕ) → i < n → x ≡ p + i → y ≡ r + i → slice_index m x ≡ slice_index w y
  pub range : (i j x y u v : ℕ) → i ≤ j → j ≤ n → x ≡ p + i → y ≡ p + j → u ≡ r + i → v ≡ r + j → slice_range m x y ≡ slice_range w u v
  pub here : p + n ≤ length m
  pub there : r + n ≤ length w
  pub ends : p + n ≡ length m → r + n ≡ length w

inside_append : (a s b : List ℕ) → length a + length s ≤ length (a ++ (s ++ b))
inside_append a s b = omega (arith, length-append a (s ++ b), length-append s b)

nothing_after : (a s b : List ℕ) → length a + length s ≡ length (a ++ (s ++ b)) → b ≡ []
nothing_after a s [] e = refl
nothing_after a s (c ∷ b) e = absurd (omega (arith, e, length-append a (s ++ c ∷ b), length-append s (c ∷ b)))

all_there : (c s d : List ℕ) → d ≡ [] → length c + length s ≡ length (c ++ (s ++ d))
all_there c s d none = omega (arith, length-append c (s ++ d), length-append s d, ap (λ (x : List ℕ). length x) none)

moved_in : (a s b c d : List ℕ) → (b ≡ [] → d ≡ []) → Moved (a ++ (s ++ b)) (length a) (c ++ (s ++ d)) (length c) (length s)
moved_in a s b c d last_too = record {
  index = λ i x y lt e f. index_in a s b i x e lt ∙ sym (index_in c s d i y f lt);
  range = λ i j x y u v ordered inside e f g h. range_in a s b i j x y e f ordered inside ∙ sym (range_in c s d i j u v g h ordered inside);
  here = inside_append a s b;
  there = inside_append c s d;
  ends = λ e. all_there c s d (last_too (nothing_after a s b e));
}

pub moved : (m w : List ℕ) (p r n : ℕ) (a s b c d : List ℕ) → m ≡ a ++ (s ++ b) → w ≡ c ++ (s ++ d) → length a ≡ p → length c ≡ r → length s ≡ n → (b ≡ [] → d ≡ []) → Moved m p w r n
moved m w p r n a s b c d em ew ep er en last_too =
    subst (λ x. Moved x p w r n) (sym em)
    (subst (λ x. Moved (a ++ (s ++ b)) p x r n) (sym ew)
    (subst (λ x. Moved (a ++ (s ++ b)) x (c ++ (s ++ d)) r n) ep
    (subst (λ x. Moved (a ++ (s ++ b)) (length a) (c ++ (s ++ d)) x n) er
    (subst (λ x. Moved (a ++ (s ++ b)) (length a) (c ++ (s ++ d)) (length c) x) en (moved_in a s b c d last_too)))))

-- the first of them
part : (m : List ℕ) (p : ℕ) (w : List ℕ) (r n k : ℕ) → Moved m p w r n → k ≤ n → Moved m p w r k
part m p w r n k it few = record {
  index = λ i x y lt e f. it.index i x y (omega (arith, lt, few)) e f;
  range = λ i j x y u v ordered inside e f g h. it.range i j x y u v ordered (omega (arith, inside, few)) e f g h;
  here = omega (arith, it.here, few);
  there = omega (arith, it.there, few);
  ends = λ e. part_ends p r n k (length m) (length w) few it.here it.ends e;
}
  where
    part_ends : (p r n k lm lw : ℕ) → k ≤ n → p + n ≤ lm → (p + n ≡ lm → r + n ≡ lw) → p + k ≡ lm → r + k ≡ lw
    part_ends p r n k lm lw few here ends e = let f = ends (omega (arith, few, here, e)) in omega (arith, few, here, e, f)

-- and those after them
after : (m : List ℕ) (p : ℕ) (w : List ℕ) (r n k j : ℕ) → Moved m p w r n → k + j ≡ n → Moved m (p + k) w (r + k) j
after m p w r n k j it all = record {
  index = λ i x y lt e f. it.index (k + i) x y (omega (arith, lt, all)) (omega (arith, e)) (omega (arith, f));
  range = λ i l x y u v ordered inside e f g h. it.range (k + i) (k + l) x y u v (omega (arith, ordered)) (omega (arith, inside, all))
      (omega (arith, e)) (omega (arith, f)) (omega (arith, g)) (omega (arith, h));
  here = omega (arith, it.here, all);
  there = omega (arith, it.there, all);
  ends = λ e. after_ends p r n k j (length m) (length w) all it.ends e;
}
  where
    after_ends : (p r n k j lm lw : ℕ) → k + j ≡ n → (p + n ≡ lm → r + n ≡ lw) → p + k + j ≡ lm → r + k + j ≡ lw
    after_ends p r n k j lm lw all ends e = let f = ends (omega (arith, all, e)) in omega (arith, all, f)

number_moved : (m : List ℕ) (p : ℕ) (w : List ℕ) (r n i x y : ℕ) → Moved m p w r n → i + 2 ≤ n → x ≡ p + i → y ≡ r + i → number16 m x ≡ number16 w y
number_moved m p w r n i x y it inside e f =
    ap (λ (s : List ℕ). from_be_bytes w16 s) (it.range i (i + 2) x (x + 2) y (y + 2) (omega arith) inside e (omega (arith, e)) f (omega (arith, f)))

-- ---- counted octets
counted_moved : (m : List ℕ) (p : ℕ) (w : List ℕ) (r n e f : ℕ) → Moved m p w r n → e ≡ p + n → f ≡ r + n → CountedAt m p e → CountedAt w r f
counted_moved m p w r n e f it en fn a =
    let h = it.index 0 p r (omega (arith, en, a.1)) (omega arith) (omega arith) in
    (omega (arith, it.there, en, a.1), omega (arith, fn, en, a.1, h), omega (arith, fn, it.there))

some_counted_moved : (m : List ℕ) (p : ℕ) (w : List ℕ) (r n e f : ℕ) → Moved m p w r n → e ≡ p + n → f ≡ r + n → SomeCountedAt m p e → SomeCountedAt w r f
some_counted_moved m p w r n e f it en fn a =
    let h = it.index 0 p r (omega (arith, en, a.0.1)) (omega arith) (omega arith) in
    (counted_moved m p w r n e f it en fn a.0, omega (arith, a.1, h))

long_moved : (m : List ℕ) (p : ℕ) (w : List ℕ) (r n e f : ℕ) → Moved m p w r n → e ≡ p + n → f ≡ r + n → LongCountedAt m p e → LongCountedAt w r f
long_moved m p w r n e f it en fn a =
    let h = number_moved m p w r n 0 p r it (omega (arith, en, a.1)) (omega arith) (omega arith) in
    (omega (arith, it.there, en, a.1), omega (arith, fn, en, a.1, h), omega (arith, fn, it.there))

tag_moved : (m : List ℕ) (p : ℕ) (w : List ℕ) (r n e f : ℕ) → Moved m p w r n → e ≡ p + n → f ≡ r + n → TagAt m p e → TagAt w r f
tag_moved m p w r n e f it en fn a =
    let same = it.range 1 n (p + 1) e (r + 1) f (omega (arith, en, a.0.1)) (omega arith) refl en refl fn in
    (counted_moved m p w r n e f it en fn a.0, subst (λ s. IsTag s) same a.1)

strings_moved : (m : List ℕ) (p : ℕ) (w : List ℕ) (r n : ℕ) → Moved m p w r n → p + n ≡ length m → StringsAt m p → StringsAt w r
strings_moved m p w r n it end (last a) = last (counted_moved m p w r n (length m) (length w) it (sym end) (sym (it.ends end)) a)
strings_moved m p w r n it end (more {q = q} a rest) =
    let k = q - p in
    let j = length m - q in
    let all : k + j ≡ n = omega (arith, end, a.1, a.2) in
    let at : q ≡ p + k = omega (arith, a.1) in
    let first = part m p w r n k it (omega (arith, all)) in
    let others = subst (λ x. Moved m x w (r + k) j) (sym at) (after m p w r n k j it all) in
    more {q = r + k} (counted_moved m p w r k q (r + k) first at refl a)
    (strings_moved m q w (r + k) j others (omega (arith, end, a.1, a.2)) rest)

-- ---- blocks and parameters
block_moved : (m : List ℕ) (p : ℕ) (w : List ℕ) (r n least e f : ℕ) → Moved m p w r n → e ≡ p + n → f ≡ r + n → BlockAt m p least e → BlockAt w r least f
block_moved m p w r n least e f it en fn a =
    let h = it.index 0 p r (omega (arith, en, a.4)) (omega arith) (omega arith) in
    let g = it.index 1 (p + 1) (r + 1) (omega (arith, en, a.4)) refl refl in
    (omega (arith, it.there, en, a.4), omega (arith, a.1, h), omega (arith, a.2, g), omega (arith, a.3, g), omega (arith, en, fn, a.4, g), omega (arith, fn, it.there))

blocks_moved : (m : List ℕ) (p : ℕ) (w : List ℕ) (r n least : ℕ) → Moved m p w r n → p + n ≡ length m → BlocksAt m p least → BlocksAt w r least
blocks_moved m p w r n least it end (no_blocks a) = no_blocks (omega (arith, a, end, it.ends end))
blocks_moved m p w r n least it end (block {e = e} a rest) =
    let k = e - p in
    let j = length m - e in
    let all : k + j ≡ n = omega (arith, end, a.4, a.5) in
    let at : e ≡ p + k = omega (arith, a.4) in
    let h = it.index 0 p r (omega (arith, all, a.4)) (omega arith) (omega arith) in
    let first = part m p w r n k it (omega (arith, all)) in
    let others = subst (λ x. Moved m x w (r + k) j) (sym at) (after m p w r n k j it all) in
    block {e = r + k} (block_moved m p w r k least e (r + k) first at refl a)
    (subst (λ x. BlocksAt w (r + k) (x + 1)) h
    (blocks_moved m e w (r + k) j (slice_index m p + 1) others (omega (arith, a.4, a.5)) rest))

param_moved : (m : List ℕ) (p : ℕ) (w : List ℕ) (r n least e f : ℕ) → Moved m p w r n → e ≡ p + n → f ≡ r + n → ParamAt m p least e → ParamAt w r least f
param_moved m p w r n least e f it en fn a =
    let h = number_moved m p w r n 0 p r it (omega (arith, en, a.2)) (omega arith) (omega arith) in
    let g = number_moved m p w r n 2 (p + 2) (r + 2) it (omega (arith, en, a.2)) refl refl in
    (omega (arith, it.there, en, a.2), omega (arith, a.1, h), omega (arith, en, fn, a.2, g), omega (arith, fn, it.there))

params_moved : (m : List ℕ) (p : ℕ) (w : List ℕ) (r n least : ℕ) → Moved m p w r n → p + n ≡ length m → ParamsAt m p least → ParamsAt w r least
params_moved m p w r n least it end (no_params a) = no_params (omega (arith, a, end, it.ends end))
params_moved m p w r n least it end (param {e = e} a rest) =
    let k = e - p in
    let j = length m - e in
    let all : k + j ≡ n = omega (arith, end, a.2, a.3) in
    let at : e ≡ p + k = omega (arith, a.2) in
    let h = number_moved m p w r n 0 p r it (omega (arith, all, a.2)) (omega arith) (omega arith) in
    let first = part m p w r n k it (omega (arith, all)) in
    let others = subst (λ x. Moved m x w (r + k) j) (sym at) (after m p w r n k j it all) in
    param {e = r + k} (param_moved m p w r k least e (r + k) first at refl a)
    (subst (λ x. ParamsAt w (r + k) (x + 1)) h
    (params_moved m e w (r + k) j (number16 m p + 1) others (omega (arith, a.2, a.3)) rest))

-- ---- each form
optional_moved : (m : List ℕ) (p : ℕ) (w : List ℕ) (r n e f : ℕ) → Moved m p w r n → e ≡ p + n → f ≡ r + n → FormAt forms.OptionalCounted m p e → FormAt forms.OptionalCounted w r f
optional_moved m p w r n e f it en fn (inl a) =
    let none : n ≡ 0 = omega (arith, en, a.1) in
    let end = it.ends (omega (arith, none, a.0)) in
    inl (omega (arith, none, end), omega (arith, none, fn))
optional_moved m p w r n e f it en fn (inr a) = inr (counted_moved m p w r n e f it en fn a)

-- Fields that aren't names.
pub form_moved : (form : FieldForm) (m : List ℕ) (p : ℕ) (w : List ℕ) (r n e f : ℕ) → Moved m p w r n → e ≡ p + n → f ≡ r + n → (form ≡ forms.Name → ⊥) → FormAt form m p e → FormAt form w r f
form_moved (forms.Fixed k) m p w r n e f it en fn other a = (omega (arith, en, fn, a.0), omega (arith, fn, it.there))
form_moved forms.Name m p w r n e f it en fn other a = absurd (other refl)
form_moved forms.Counted m p w r n e f it en fn other a = counted_moved m p w r n e f it en fn a
form_moved forms.OptionalCounted m p w r n e f it en fn other a = optional_moved m p w r n e f it en fn a
form_moved forms.SomeCounted m p w r n e f it en fn other a = some_counted_moved m p w r n e f it en fn a
form_moved forms.Strings m p w r n e f it en fn other a = let end : p + n ≡ length m = omega (arith, en, a.0) in (fn ∙ it.ends end, strings_moved m p w r n it end a.1)
form_moved forms.Tag m p w r n e f it en fn other a = tag_moved m p w r n e f it en fn a
form_moved forms.LongCounted m p w r n e f it en fn other a = long_moved m p w r n e f it en fn a
form_moved forms.Blocks m p w r n e f it en fn other a =
    let end : p + n ≡ length m = omega (arith, en, a.0) in
    (fn ∙ it.ends end, omega (arith, it.ends end, end, a.1), blocks_moved m p w r n 0 it end a.2)
form_moved forms.OptionalBlocks m p w r n e f it en fn other a = let end : p + n ≡ length m = omega (arith, en, a.0) in (fn ∙ it.ends end, blocks_moved m p w r n 0 it end a.1)
form_moved forms.Params m p w r n e f it en fn other a = let end : p + n ≡ length m = omega (arith, en, a.0) in (fn ∙ it.ends end, params_moved m p w r n 0 it end a.1)
form_moved forms.Rest m p w r n e f it en fn other a = let end : p + n ≡ length m = omega (arith, en, a.0) in (fn ∙ it.ends end, omega (arith, fn))
