-- Comparing a name with the one that is read at an offset, label by label.
use Rattle.std.proofs.Common.{◌≡◌, ℕ, ◌+◌, ◌-◌, ◌≤◌, ◌<◌, ◌⊎◌, List, [], ◌∷◌, ◌++◌, length, drop, take, drop-drop, refl, sym, ap, subst, ◌∙◌, arith, slice_index, slice_range, add-one, length-append}
use Rattle.std.proofs.lemmas.List.{length-map, map-append}
use Rattle.std.proofs.Math.Seq.{take-append_seam}
use Rattle.domain_label.specs.Wire.{wire, Root, labels_in, IsAbsolute, IsAbsoluteWire}
use Rattle.domain_label.specs.Lowercase.{lowercase, lowercase_labels}
use Rattle.domain_label.proofs.WireLaws.{absolute_wire}
use Rattle.domain_label.proofs.CanonicalForm.{lowercase_size}
use Rattle.domain_flat.proofs.LabelBounds.{Meets, meets_start, meets_drop, meets_labels, meets_next, read_at}
use Rattle.domain_reading.specs.Grammar.{OctetAt, LabelAt, PointerAt, Reads}
use Rattle.domain_reading.specs.Grammar.Reads.{root}
use Rattle.domain_reading.specs.Faults.{Followed, start, past_label, past_pointer}
use Rattle.domain_reading.specs.Heads.{BrokenAt}
use Rattle.domain_reading.specs.declared.fault.NameFault.{NameFault}
use Rattle.domain_reading.specs.declared.fault.NameFault.TheVariants.{TooManyPointers}
use Rattle.domain_reading.proofs.WhileReading.{broken_fault}
use Rattle.domain_reading.proofs.Reading.{reads_once, after_label}
use Rattle.domain_reading.proofs.NameOrFault.{walk_reads, walk_rest, names_or_fault}
use Rattle.domain_rdata.specs.ReadBack.{StandsAt}
use Rattle.domain_compress.specs.Ends.{first_label}
use Rattle.domain_compress.specs.Written.{StandsThrough}
use Rattle.domain_compress.proofs.Searching.{Ahead, ahead_of, size_some, one_cut}

-- A walk from p has passed labels that equal the first ones of the name, and stands at at; in the name that is
-- at passed.
pub record Along (t : List ℕ) (p : ℕ) (name : List ℕ) (at passed pointers : ℕ) : Type 0 where
  pub walked : List (List ℕ)
  pub before : List (List ℕ)
  pub after : List (List ℕ)
  pub walk : Followed 255 t p pointers walked at
  pub meets : Meets name passed before after
  pub absolute : IsAbsolute after
  pub same : lowercase_labels walked ≡ lowercase_labels before
  pub few : pointers ≤ 255

pub along_start : (t : List ℕ) (p : ℕ) (name : List ℕ) → IsAbsoluteWire name → Along t p name p 0 0
along_start t p name w = record {
  walked = [];
  before = [];
  after = labels_in name;
  walk = start;
  meets = meets_start name (absolute_wire w);
  absolute = w.1.0;
  same = refl;
  few = omega arith;
}

pub ahead_along : {t : List ℕ} {p at passed pointers : ℕ} (name : List ℕ) → IsAbsoluteWire name → (a : Along t p name at passed pointers) → Ahead name passed a.after
ahead_along {passed = passed} name w a =
    let b = size_some a.after a.absolute in
    ahead_of name passed a.before a.after w a.meets a.absolute b.0 b.1 b.2

low_first : (ls : List (List ℕ)) → first_label (lowercase_labels ls) ≡ lowercase (first_label ls)
low_first [] = refl
low_first (l ∷ ls) = refl

pub same_first : (xs ys : List (List ℕ)) → lowercase_labels xs ≡ lowercase_labels ys → lowercase (first_label xs) ≡ lowercase (first_label ys)
same_first xs ys e = sym (low_first xs) ∙ (ap first_label e ∙ low_first ys)

pub same_length : (a b : List ℕ) → lowercase a ≡ lowercase b → length a ≡ length b
same_length a b e = sym (length-map a _) ∙ (ap length e ∙ length-map b _)

-- The head and the octets of the first remaining label of the name.
pub name_head : (name : List ℕ) (passed : ℕ) (before after : List (List ℕ)) → Meets name passed before after → IsAbsolute after → slice_index name passed ≡ length (first_label after)
name_head name passed before [] m a = absurd a
name_head name passed before (y ∷ ys) m a = read_at name passed before y ys m

label_octets : (name : List ℕ) (passed : ℕ) (y : List ℕ) (before ys : List (List ℕ)) → Meets name passed before (y ∷ ys) → slice_range name (passed + 1) (passed + 1 + length y) ≡ y
label_octets name passed y before ys m =
    let d : drop passed name ≡ length y ∷ (y ++ wire ys) = meets_drop name passed before (y ∷ ys) m in
    let k : passed + 1 + length y - (passed + 1) ≡ length y = omega arith in
    ap (λ n. take n (drop (passed + 1) name)) k ∙ (ap (take (length y)) (sym (drop-drop 1 passed name)) ∙ (ap (λ o. take (length y) (drop 1 o)) d ∙ take-append_seam y (wire ys)))

name_label : (name : List ℕ) (passed : ℕ) (before after : List (List ℕ)) → Meets name passed before after → IsAbsolute after → slice_range name (passed + 1) (passed + 1 + length (first_label after)) ≡ first_label after
name_label name passed before [] m a = absurd a
name_label name passed before (y ∷ ys) m a = label_octets name passed y before ys m

-- What is read where the walk stands, if the whole name is read from its start.
pub record RestThere (t : List ℕ) (at : ℕ) (after : List (List ℕ)) : Type 0 where
  pub pointers : ℕ
  pub rest : List (List ℕ)
  pub reads : Reads t at pointers rest
  pub same : lowercase_labels rest ≡ lowercase_labels after

pub rest_there : {t : List ℕ} {p at passed pointers : ℕ} (name : List ℕ) → (a : Along t p name at passed pointers) → StandsAt t p (labels_in name) → RestThere t at a.after
rest_there {passed = passed} name a s =
    let r = walk_rest a.walk s.1.reads in
    let parts : lowercase_labels a.walked ++ lowercase_labels r.rest ≡ lowercase_labels a.before ++ lowercase_labels a.after =
    sym (map-append lowercase a.walked r.rest) ∙ (ap lowercase_labels (sym r.list) ∙ (s.2 ∙ (ap lowercase_labels (meets_labels name passed a.before a.after a.meets) ∙ map-append lowercase a.before a.after))) in
    record {
      pointers = r.pointers;
      rest = r.rest;
      reads = r.reads;
      same = one_cut (lowercase_labels a.walked) (lowercase_labels r.rest) (lowercase_labels a.before) (lowercase_labels a.after) parts (ap length a.same);
    }

-- The name isn't read there, since the walk can't go on.
pub not_broken : {t : List ℕ} {p at passed pointers : ℕ} (name : List ℕ) (fault : NameFault) → Along t p name at passed pointers → BrokenAt t at fault → StandsAt t p (labels_in name) → ⊥
not_broken {t} {at = at} {pointers = pointers} name fault a b s =
    names_or_fault s.1 (record { pointers = pointers; passed = a.walked; stopped = at; walk = a.walk; at = broken_fault 255 t at pointers a.walked fault b })

pub not_back : {t : List ℕ} {p at passed pointers q : ℕ} (name : List ℕ) → Along t p name at passed pointers → PointerAt t at q → ((at ≤ q) ⊎ (pointers ≡ 255)) → StandsAt t p (labels_in name) → ⊥
not_back {at = at} {pointers = pointers} {q} name a x why s =
    names_or_fault {e = TooManyPointers} s.1 (record { pointers = pointers; passed = a.walked; stopped = at; walk = a.walk; at = (q, x, why) })

-- A root stands there, and the name has a label.
pub not_root : {t : List ℕ} {p at passed pointers : ℕ} (name : List ℕ) → Along t p name at passed pointers → OctetAt t at 0 → (slice_index name passed ≡ 0 → ⊥) → StandsAt t p (labels_in name) → ⊥
not_root {passed = passed} name a x some s =
    let r = rest_there name a s in
    let none : first_label r.rest ≡ [] = ap first_label (reads_once r.reads (root x)).1 in
    some (name_head name passed a.before a.after a.meets a.absolute ∙ (sym (same_length _ _ (same_first r.rest a.after r.same)) ∙ ap length none))

there_first : {t : List ℕ} {p at passed pointers : ℕ} {l : List ℕ} (name : List ℕ) → (a : Along t p name at passed pointers) → LabelAt t at l → StandsAt t p (labels_in name) → lowercase l ≡ lowercase (first_label a.after)
there_first {l = l} name a x s =
    let r = rest_there name a s in
    let first : first_label r.rest ≡ l = ap first_label (after_label x r.reads).list in
    ap lowercase (sym first) ∙ same_first r.rest a.after r.same

-- A label of another length stands there.
pub not_long : {t : List ℕ} {p at passed pointers len : ℕ} (name : List ℕ) → Along t p name at passed pointers → (l : List ℕ) × (length l ≡ len) × LabelAt t at l → (slice_index name passed ≡ len → ⊥) → StandsAt t p (labels_in name) → ⊥
not_long {passed = passed} name a x differs s =
    differs (name_head name passed a.before a.after a.meets a.absolute ∙ (sym (same_length _ _ (there_first name a x.2 s)) ∙ x.1))

-- The octets of two labels of one length.
pub record TwoLabels (t : List ℕ) (name : List ℕ) (at passed len : ℕ) (l y : List ℕ) : Type 0 where
  pub there : slice_range t (at + 1) (at + 1 + len) ≡ l
  pub here : slice_range name (passed + 1) (passed + 1 + len) ≡ y

two_labels : {t : List ℕ} {p at passed pointers len : ℕ} {l : List ℕ} (name : List ℕ) → (a : Along t p name at passed pointers) → length l ≡ len → LabelAt t at l → slice_index name passed ≡ len → TwoLabels t name at passed len l (first_label a.after)
two_labels {t} {at = at} {passed = passed} {l = l} name a size x head =
    let P : ℕ → Type 0 = λ n. slice_range t (at + 1) (at + 1 + n) ≡ l in
    let Q : ℕ → Type 0 = λ n. slice_range name (passed + 1) (passed + 1 + n) ≡ first_label a.after in
    record {
      there = subst P size x.octets;
      here = subst Q (sym (name_head name passed a.before a.after a.meets a.absolute) ∙ head) (name_label name passed a.before a.after a.meets a.absolute);
    }

-- Another label stands there.
pub not_same : {t : List ℕ} {p at passed pointers len : ℕ} (name : List ℕ) (n : ℕ) → Along t p name at passed pointers → (l : List ℕ) × (length l ≡ len) × LabelAt t at l → slice_index name passed ≡ len → n ≡ len → (lowercase (slice_range t (at + 1) (at + 1 + n)) ≡ lowercase (slice_range name (passed + 1) (passed + 1 + n)) → ⊥) → StandsAt t p (labels_in name) → ⊥
not_same name n a x head size differs s =
    let two = two_labels {len = n} name a (x.1 ∙ sym size) x.2 (head ∙ sym size) in
    differs (ap lowercase two.there ∙ (there_first name a x.2 s ∙ ap lowercase (sym two.here)))

step_label : {t : List ℕ} {p at passed pointers : ℕ} {l : List ℕ} (name : List ℕ) (walked before after : List (List ℕ)) → Followed 255 t p pointers walked at → Meets name passed before after → IsAbsolute after → lowercase_labels walked ≡ lowercase_labels before → pointers ≤ 255 → IsAbsoluteWire name → LabelAt t at l → lowercase l ≡ lowercase (first_label after) → Along t p name (at + 1 + length l) (passed + 1 + length l) pointers
step_label name walked before [] walk m a same few w x e = absurd a
step_label {l = l} name walked before ([] ∷ ys) walk m a same few w x e = absurd (omega (arith, x.nonempty, same_length l [] e))
step_label {t} {p} {at} {passed} {pointers} {l} name walked before ((c ∷ y) ∷ ys) walk m a same few w x e =
    let size : length l ≡ length (c ∷ y) = same_length l (c ∷ y) e in
    let rest = size_some ys a.1 in
    let left : 0 < length (wire ys) = subst (λ z. 0 < length (wire z)) (sym rest.2) (omega arith) in
    let walked_size : length (wire walked) ≡ length (wire before) = sym (lowercase_size walked) ∙ (ap (λ z. length (wire z)) same ∙ lowercase_size before) in
    let next = meets_next name passed before (c ∷ y) ys m in
    let whole : length (wire (labels_in name)) ≡ length name = ap length w.0 in
    let all : length name ≡ passed + 1 + length (c ∷ y) + length (wire ys) = omega (arith, next.at, ap length next.whole, length-append (wire (before ++ (c ∷ y) ∷ [])) (wire ys)) in
    let P : ℕ → Type 0 = λ n. Meets name (passed + 1 + n) (before ++ (c ∷ y) ∷ []) ys in
    record {
      walked = walked ++ l ∷ [];
      before = before ++ (c ∷ y) ∷ [];
      after = ys;
      walk = past_label walk x (omega (arith, walked_size, m.at, all, whole, w.1.1, size, left));
      meets = subst P (sym size) next;
      absolute = a.1;
      same = map-append lowercase walked (l ∷ []) ∙ (ap (λ z. z ++ lowercase l ∷ []) same ∙ (ap (λ z. lowercase_labels before ++ z ∷ []) e ∙ sym (map-append lowercase before ((c ∷ y) ∷ []))));
      few = few;
    }

-- The same label stands there.
pub along_label : {t : List ℕ} {p at passed pointers len : ℕ} (name : List ℕ) (n : ℕ) → IsAbsoluteWire name → Along t p name at passed pointers → (l : List ℕ) × (length l ≡ len) × LabelAt t at l → slice_index name passed ≡ len → n ≡ len → lowercase (slice_range t (at + 1) (at + 1 + n)) ≡ lowercase (slice_range name (passed + 1) (passed + 1 + n)) → Along t p name (at + 1 + n) (passed + 1 + n) pointers
along_label {t} {p} {at} {passed} {pointers} name n w a x head size e =
    let two = two_labels {len = n} name a (x.1 ∙ sym size) x.2 (head ∙ sym size) in
    let P : ℕ → Type 0 = λ n. Along t p name (at + 1 + n) (passed + 1 + n) pointers in
    subst P (x.1 ∙ sym size) (step_label name a.walked a.before a.after a.walk a.meets a.absolute a.same a.few w x.2 (ap lowercase (sym two.there) ∙ (e ∙ ap lowercase two.here)))

pub along_pointer : {t : List ℕ} {p at passed pointers q : ℕ} (name : List ℕ) → Along t p name at passed pointers → PointerAt t at q → q < at → pointers < 255 → Along t p name q passed (pointers + 1)
along_pointer name a x lt few = record {
  walked = a.walked;
  before = a.before;
  after = a.after;
  walk = rw add-one (past_pointer a.walk x lt few);
  meets = a.meets;
  absolute = a.absolute;
  same = a.same;
  few = omega (arith, few);
}

root_left : (after : List (List ℕ)) → IsAbsolute after → length (first_label after) ≡ 0 → after ≡ Root
root_left [] a h = absurd a
root_left ([] ∷ ls) a h = ap (λ xs. [] ∷ xs) a
root_left ((c ∷ l) ∷ ls) a h = absurd (omega (arith, h))

-- The root stands there, and in the name, too.
pub along_all : {t : List ℕ} {p at passed pointers : ℕ} (name : List ℕ) → Along t p name at passed pointers → OctetAt t at 0 → slice_index name passed ≡ 0 → StandsThrough t p (labels_in name) pointers
along_all {t} {p} {passed = passed} {pointers} name a x zero =
    let left : a.after ≡ Root = root_left a.after a.absolute (sym (name_head name passed a.before a.after a.meets a.absolute) ∙ zero) in
    let P : ℕ → Type 0 = λ k. Reads t p k (a.walked ++ Root) in
    record {
      labels = a.walked ++ Root;
      reads = subst P (omega arith) (walk_reads a.walk (root x));
      same = map-append lowercase a.walked Root ∙ (ap (λ z. z ++ Root) a.same ∙ (sym (map-append lowercase a.before Root) ∙ ap lowercase_labels (ap (λ z. a.before ++ z) (sym left) ∙ sym (meets_labels name passed a.before a.after a.meets))));
      few = a.few;
    }

pub stands_so : {t : List ℕ} {p k : ℕ} (ls : List (List ℕ)) → length (wire ls) ≤ 255 → StandsThrough t p ls k → StandsAt t p ls
stands_so {k = k} ls short s =
    let size : length (wire s.labels) ≡ length (wire ls) = sym (lowercase_size s.labels) ∙ (ap (λ z. length (wire z)) s.same ∙ lowercase_size ls) in
    (s.labels, record { pointers = k; reads = s.reads; few_pointers = s.few; short = omega (arith, size, short) }, s.same)
