-- Names that stand spelled out, with no pointer.
use Rattle.std.proofs.Common.{◌≡◌, ℕ, ◌+◌, ◌-◌, ◌≤◌, ◌<◌, List, [], ◌∷◌, ◌++◌, length, take, drop, drop-drop, slice_range, refl, sym, ap, subst, ◌∙◌, arith, append_assoc, length-append}
use Rattle.std.proofs.lemmas.Grind.{common_steps}
use Rattle.std.proofs.lemmas.List.{take-append-drop, length-take-le}
use Rattle.domain_label.specs.Lowercase.{lowercase, lowercase_labels}
use Rattle.domain_label.specs.Wire.{wire, labels_in, IsAbsolute, IsAbsoluteWire}
use Rattle.domain_list.proofs.Flatwise.{begins}
use Rattle.domain_reading.specs.Grammar.{Names, Reads}
use Rattle.domain_reading.proofs.UncompressedIsRead.{plain_names}
use Rattle.domain_compress.specs.Written.{StandsThrough}

-- The octets are the wire format of an absolute list that equals ls without case.
record Spelled (o : List ℕ) (ls : List (List ℕ)) : Type 0 where
  labels : List (List ℕ)
  form : o ≡ wire labels
  absolute : IsAbsolute labels
  same : lowercase_labels labels ≡ lowercase_labels ls

label_more : (l : List ℕ) (ls : List (List ℕ)) → 0 < length l → length l ≤ 63 → IsAbsolute ls → IsAbsolute (l ∷ ls)
label_more [] ls some short a = absurd (omega (arith, some))
label_more (c ∷ l) ls some short a = (short, a)

more_spelled : (x : ℕ) (t l : List ℕ) (ls : List (List ℕ)) → 0 < length l → length l ≤ 63 → length l ≤ length t → x ≡ length l → lowercase (take (length l) t) ≡ lowercase l → Spelled (drop (length l) t) ls → Spelled (x ∷ t) (l ∷ ls)
more_spelled x t l ls some short fits head same rest =
    let y = take (length l) t in
    let size : length y ≡ length l = length-take-le (length l) t fits in
    let whole : t ≡ y ++ wire rest.labels = sym (take-append-drop (length l) t) ∙ ap (λ o. y ++ o) rest.form in
    record {
      labels = y ∷ rest.labels;
      form = ap (λ n. n ∷ t) (head ∙ sym size) ∙ ap (λ o. length y ∷ o) whole;
      absolute = label_more y rest.labels (omega (arith, some, size)) (omega (arith, short, size)) rest.absolute;
      same = ap (λ z. z ∷ lowercase_labels rest.labels) same ∙ ap (λ zs. lowercase l ∷ zs) rest.same;
    }

behind : (t l w : List ℕ) → length t ≡ length (l ++ w) → length (drop (length l) t) ≡ length w
behind t l w e =
    let both : length (l ++ w) ≡ length l + length w = length-append l w in
    grind (arith, common_steps)

root_spelled : (x : ℕ) (t : List ℕ) → x ≡ 0 → length t ≡ 0 → Spelled (x ∷ t) ([] ∷ [])
root_spelled x [] head none = record { labels = [] ∷ []; form = ap (λ n. n ∷ []) head; absolute = refl; same = refl }
root_spelled x (y ∷ t) head none = absurd (omega (arith, none))

spelled : (ls : List (List ℕ)) (o : List ℕ) → IsAbsolute ls → length o ≡ length (wire ls) → lowercase o ≡ lowercase (wire ls) → Spelled o ls
spelled [] o a size e = absurd a
spelled (l ∷ ls) [] a size e = absurd (omega (arith, size))
spelled ([] ∷ ls) (x ∷ t) a size e =
    let b = (begins x t [] (wire ls) (omega arith) (omega arith)).0 e in
    let none : length (wire ls) ≡ 0 = ap (λ zs. length (wire zs)) a in
    subst (λ zs. Spelled (x ∷ t) ([] ∷ zs)) (sym a) (root_spelled x t b.head (omega (arith, size, none)))
spelled ((c ∷ l) ∷ ls) (x ∷ t) a size e =
    let fits : length (c ∷ l) ≤ length t = omega (arith, size, length-append (c ∷ l) (wire ls)) in
    let b = (begins x t (c ∷ l) (wire ls) a.0 fits).0 e in
    let rest = spelled ls (drop (length (c ∷ l)) t) a.1 (behind t (c ∷ l) (wire ls) (omega (arith, size))) b.rest in
    more_spelled x t (c ∷ l) ls (omega arith) a.0 fits b.head b.label rest

parted : (t : List ℕ) (p e : ℕ) → p ≤ e → e ≤ length t → take p t ++ (slice_range t p e ++ drop e t) ≡ t
parted t p e le inside =
    let n = e - p in
    let end : e ≡ p + n = omega (arith, le) in
    let rest : drop e t ≡ drop n (drop p t) = ap (λ k. drop k t) end ∙ sym (drop-drop n p t) in
    ap (λ r. take p t ++ (take n (drop p t) ++ r)) rest ∙ (ap (λ r. take p t ++ r) (take-append-drop n (drop p t)) ∙ take-append-drop p t)

front_size : (t : List ℕ) (p : ℕ) → p ≤ length t → length (take p t) ≡ p
front_size t p inside = length-take-le p t inside

range_size : (t : List ℕ) (p e : ℕ) → p ≤ e → e ≤ length t → length (slice_range t p e) ≡ e - p
range_size t p e le inside = grind (arith, common_steps)

-- Octets that equal those of a name without case are read as an equal one.
pub spelled_stands : (t name : List ℕ) (p e : ℕ) → IsAbsoluteWire name → e ≡ p + length name → e ≤ length t → lowercase (slice_range t p e) ≡ lowercase name → StandsThrough t p (labels_in name) 0
spelled_stands t name p e w end inside same =
    let o = slice_range t p e in
    let le : p ≤ e = omega (arith, end) in
    let size : length o ≡ length (wire (labels_in name)) = omega (arith, range_size t p e le inside, end, ap length w.0) in
    let s = spelled (labels_in name) o w.1.0 size (same ∙ ap lowercase (sym w.0)) in
    let short : length (wire s.labels) ≤ 255 = omega (arith, w.1.1, ap length s.form, size) in
    let read = plain_names (take p t) (drop e t) s.labels (s.absolute, short) in
    let whole : take p t ++ wire s.labels ++ drop e t ≡ t = append_assoc (take p t) (wire s.labels) (drop e t) ∙ (ap (λ x. take p t ++ (x ++ drop e t)) (sym s.form) ∙ parted t p e le inside) in
    let P : ℕ → Type 0 = λ q. Names 0 t q s.labels in
    let names : Names 0 t p s.labels = subst P (front_size t p (omega (arith, le, inside))) (subst (λ m. Names 0 m (length (take p t)) s.labels) whole read) in
    let none : names.pointers ≡ 0 = omega (arith, names.few_pointers) in
    record {
      labels = s.labels;
      reads = subst (λ k. Reads t p k s.labels) none names.reads;
      same = s.same;
      few = omega arith;
    }
