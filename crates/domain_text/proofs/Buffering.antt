-- What a buffer's fields say of its labels.
use Rattle.std.proofs.Common.{◌≡◌, ℕ, zero, suc, ◌+◌, ◌<◌, ◌≤◌, List, [], ◌∷◌, ◌++◌, length, take, drop, set, refl, ap, sym, ◌∙◌, subst, arith, append-nil, length-append, add-one, length-drop, length-set}
use Rattle.std.proofs.Math.Seq.{take-add}
use Rattle.std.proofs.lemmas.List.{take-set-le, drop-set-add, take_more_set, drop-set, length-take-le}
use Rattle.domain_label.specs.Wire.{wire, labels_in, IsRelative, IsRelativeName, IsAbsoluteName, IsAbsoluteWire, IsRelativeWire, Root}
use Rattle.domain_label.proofs.WireLaws.{labels_in_wire, wire_absolute, wire_relative, wire_append, relative_then_relative, relative_then_absolute}
use Rattle.domain_text.specs.BuilderState.{BuilderState, closed_with, closed, size, pushed, ended}
use Rattle.domain_text.specs.Buffer.{buffer_view, IsBuffer}
use Rattle.domain_text.proofs.Sizes.{built, size_some, length-wire_more}

-- the octets of an open label
pub length_open : (s : List ℕ) (head n : ℕ) → IsBuffer s head n → length (take n (drop (head + 1) s)) ≡ n
length_open s head n i = length-take-le n (drop (head + 1) s) (omega (arith, length-drop (head + 1) s, i.whole, i.fits, i.open_fits))

pub length_head : (s : List ℕ) (head n : ℕ) → IsBuffer s head n → length (wire (labels_in (take head s))) ≡ head
length_head s head n i = ap length i.wire ∙ length-take-le head s (omega (arith, i.whole, i.fits))

-- how long the whole is, where a label is open and where none is
pub size_open : (s : List ℕ) (head n : ℕ) → IsBuffer s head n → 0 < n → size (buffer_view s head n) ≡ head + 1 + n
size_open s head n i some =
    size_some (labels_in (take head s)) (take n (drop (head + 1) s)) (omega (arith, length_open s head n i, some))
    ∙ omega (arith, length_open s head n i, length_head s head n i)

pub size_closed : (s : List ℕ) (head n : ℕ) → IsBuffer s head n → n ≤ 0 → size (buffer_view s head n) ≡ head
size_closed s head zero i none = length_head s head zero i
size_closed s head (suc n) i none = absurd (omega arith)

-- one octet more
pub view_pushed : (s : List ℕ) (head n c : ℕ) → IsBuffer s head n → head + n ≤ 252 → buffer_view (set s (head + 1 + n) c) head (n + 1) ≡ pushed (buffer_view s head n) (c ∷ [])
view_pushed s head n c i fits =
    let front : take head (set s (head + 1 + n) c) ≡ take head s = take-set-le head s (head + 1 + n) c (omega arith) in
    let after : drop (head + 1) (set s (head + 1 + n) c) ≡ set (drop (head + 1) s) n c = drop-set-add (head + 1) s n c in
    let more : take (n + 1) (set (drop (head + 1) s) n c) ≡ take n (drop (head + 1) s) ++ c ∷ [] = take_more_set (drop (head + 1) s) n c (omega (arith, length-drop (head + 1) s, i.whole)) in
    ap (λ (x : List ℕ). built (labels_in x) (take (n + 1) (drop (head + 1) (set s (head + 1 + n) c)))) front
    ∙ ap (λ (x : List ℕ). built (labels_in (take head s)) (take (n + 1) x)) after
    ∙ ap (λ (x : List ℕ). built (labels_in (take head s)) x) more

pub inside_pushed : (s : List ℕ) (head n c : ℕ) → IsBuffer s head n → head + n ≤ 252 → n < 63 → IsBuffer (set s (head + 1 + n) c) head (n + 1)
inside_pushed s head n c i fits short =
    let front : take head (set s (head + 1 + n) c) ≡ take head s = take-set-le head s (head + 1 + n) c (omega arith) in
    record {
      whole = length-set s (head + 1 + n) c ∙ i.whole;
      wire = subst (λ (x : List ℕ). wire (labels_in x) ≡ x) (sym front) i.wire;
      labels = subst (λ (x : List ℕ). IsRelative (labels_in x)) (sym front) i.labels;
      label_short = omega arith;
      fits = omega arith;
      open_fits = λ _. omega arith;
    }

-- the size with one octet more
pub size_pushed : (s : List ℕ) (head n c : ℕ) → IsBuffer s head n → size (pushed (buffer_view s head n) (c ∷ [])) ≡ head + n + 2
size_pushed s head n c i =
    let o : List ℕ = take n (drop (head + 1) s) in
    let k : length (o ++ c ∷ []) ≡ length o + 1 = length-append o (c ∷ []) in
    size_some (labels_in (take head s)) (o ++ c ∷ []) (omega (arith, k))
    ∙ omega (arith, k, length_open s head n i, length_head s head n i)

pub open_pushed : (s : List ℕ) (head n c : ℕ) → IsBuffer s head n → length (pushed (buffer_view s head n) (c ∷ [])).open_label ≡ n + 1
open_pushed s head n c i = length-append (take n (drop (head + 1) s)) (c ∷ []) ∙ omega (arith, length_open s head n i)

-- the open label ended
front_ended : (s : List ℕ) (head n : ℕ) → head < length s → take (head + 1 + n) (set s head n) ≡ take head s ++ n ∷ take n (drop (head + 1) s)
front_ended s head n within =
    let offset : head + 1 + n ≡ head + suc n = omega (arith, add-one n) in
    let after : drop head (set s head n) ≡ n ∷ drop (head + 1) s = drop-set s head n within in
    ap (λ (k : ℕ). take k (set s head n)) offset
    ∙ take-add head (suc n) (set s head n)
    ∙ ap (λ (x : List ℕ). x ++ take (suc n) (drop head (set s head n))) (take-set-le head s head n (omega arith))
    ∙ ap (λ (x : List ℕ). take head s ++ take (suc n) x) after

wire_ended : (s : List ℕ) (head n : ℕ) → IsBuffer s head n → 0 < n → take (head + 1 + n) (set s head n) ≡ wire (labels_in (take head s) ++ take n (drop (head + 1) s) ∷ [])
wire_ended s head n i some =
    let o : List ℕ = take n (drop (head + 1) s) in
    let l : length o ≡ n = length_open s head n i in
    front_ended s head n (omega (arith, i.whole, i.fits))
    ∙ ap (λ (x : List ℕ). x ++ n ∷ o) (sym i.wire)
    ∙ ap (λ (k : ℕ). wire (labels_in (take head s)) ++ k ∷ o) (sym l)
    ∙ ap (λ (x : List ℕ). wire (labels_in (take head s)) ++ length o ∷ x) (sym (append-nil o))
    ∙ sym (wire_append (labels_in (take head s)) (o ∷ []))

labels_ended : (s : List ℕ) (head n : ℕ) → IsBuffer s head n → 0 < n → labels_in (take (head + 1 + n) (set s head n)) ≡ labels_in (take head s) ++ take n (drop (head + 1) s) ∷ []
labels_ended s head n i some = ap labels_in (wire_ended s head n i some) ∙ labels_in_wire (labels_in (take head s) ++ take n (drop (head + 1) s) ∷ [])

closed_some : (ls : List (List ℕ)) (o : List ℕ) → 0 < length o → closed_with ls o ≡ ls ++ o ∷ []
closed_some ls [] h = absurd (omega arith)
closed_some ls (c ∷ o) h = refl

one_label : (o : List ℕ) → 0 < length o → length o ≤ 63 → IsRelative (o ∷ [])
one_label [] h k = absurd (omega arith)
one_label (c ∷ o) h k = (k, tt)

pub view_ended : (s : List ℕ) (head n : ℕ) → IsBuffer s head n → 0 < n → buffer_view (set s head n) (head + 1 + n) 0 ≡ ended (buffer_view s head n)
view_ended s head n i some =
    ap (λ (x : List (List ℕ)). built x []) (labels_ended s head n i some ∙ sym (closed_some (labels_in (take head s)) (take n (drop (head + 1) s)) (omega (arith, length_open s head n i, some))))

pub inside_ended : (s : List ℕ) (head n : ℕ) → IsBuffer s head n → 0 < n → IsBuffer (set s head n) (head + 1 + n) 0
inside_ended s head n i some =
    let e = labels_ended s head n i some in
    let l : length (take n (drop (head + 1) s)) ≡ n = length_open s head n i in
    record {
      whole = length-set s head n ∙ i.whole;
      wire = ap wire e ∙ sym (wire_ended s head n i some);
      labels = subst IsRelative (sym e) (relative_then_relative (labels_in (take head s)) (take n (drop (head + 1) s) ∷ []) i.labels (one_label (take n (drop (head + 1) s)) (omega (arith, l, some)) (omega (arith, l, i.label_short))));
      label_short = omega arith;
      fits = omega (arith, i.open_fits some);
      open_fits = λ bad. absurd (omega (arith, bad));
    }

-- an octet written at the offset of the next length octet
pub inside_headed : (s : List ℕ) (head n v : ℕ) → IsBuffer s head n → IsBuffer (set s head v) head n
inside_headed s head n v i =
    let front : take head (set s head v) ≡ take head s = take-set-le head s head v (omega arith) in
    record {
      whole = length-set s head v ∙ i.whole;
      wire = subst (λ (x : List ℕ). wire (labels_in x) ≡ x) (sym front) i.wire;
      labels = subst (λ (x : List ℕ). IsRelative (labels_in x)) (sym front) i.labels;
      label_short = i.label_short;
      fits = i.fits;
      open_fits = i.open_fits;
    }

-- the octets once the open label is ended
pub relative_octets : (s : List ℕ) (head n : ℕ) (b : BuilderState) → IsBuffer s head n → buffer_view s head n ≡ ended b → take head s ≡ wire (closed b)
relative_octets s head n b i e = sym i.wire ∙ ap (λ (x : BuilderState). wire x.labels) e

pub name_octets : (s : List ℕ) (head n : ℕ) (b : BuilderState) → IsBuffer s head n → buffer_view s head n ≡ ended b → take (head + 1) (set s head 0) ≡ wire (closed b ++ Root)
name_octets s head n b i e =
    take_more_set s head 0 (omega (arith, i.whole, i.fits))
    ∙ ap (λ (x : List ℕ). x ++ 0 ∷ []) (relative_octets s head n b i e)
    ∙ sym (wire_append (closed b) Root)

-- what is built are labels of a name
closed_labels : (ls : List (List ℕ)) (o : List ℕ) → IsRelative ls → length o ≤ 63 → IsRelative (closed_with ls o)
closed_labels ls [] r h = r
closed_labels ls (c ∷ o) r h = relative_then_relative ls ((c ∷ o) ∷ []) r (h, tt)

short_size : (s : List ℕ) (head n : ℕ) → IsBuffer s head n → size (buffer_view s head n) ≤ 254
short_size s head zero i = omega (arith, size_closed s head zero i (omega arith), i.fits)
short_size s head (suc n) i = let some : 0 < suc n = omega arith in omega (arith, size_open s head (suc n) i some, i.open_fits some)

pub is_relative : (s : List ℕ) (head n : ℕ) → IsBuffer s head n → IsRelativeName (closed (buffer_view s head n))
is_relative s head n i = (closed_labels (labels_in (take head s)) (take n (drop (head + 1) s)) i.labels (omega (arith, length_open s head n i, i.label_short)), short_size s head n i)

pub ended_relative : (s : List ℕ) (head n : ℕ) (b : BuilderState) → IsBuffer s head n → buffer_view s head n ≡ ended b → IsRelativeName (closed b)
ended_relative s head n b i e = subst (λ (x : BuilderState). IsRelativeName (closed x)) e (is_relative s head n i)

pub with_root : (ls : List (List ℕ)) → IsRelativeName ls → IsAbsoluteName (ls ++ Root)
with_root ls r = (relative_then_absolute ls Root r.0 refl, omega (arith, length-wire_more ls [], r.1))

pub ended_absolute : (s : List ℕ) (head n : ℕ) (b : BuilderState) → IsBuffer s head n → buffer_view s head n ≡ ended b → IsAbsoluteName (closed b ++ Root)
ended_absolute s head n b i e = with_root (closed b) (ended_relative s head n b i e)

-- octets that are the wire format of labels
pub absolute_made : (s : List ℕ) (ls : List (List ℕ)) → IsAbsoluteName ls → s ≡ wire ls → IsAbsoluteWire s
absolute_made s ls n e = subst IsAbsoluteWire (sym e) (wire_absolute ls n)

pub relative_made : (s : List ℕ) (ls : List (List ℕ)) → IsRelativeName ls → s ≡ wire ls → IsRelativeWire s
relative_made s ls n e = subst IsRelativeWire (sym e) (wire_relative ls n)

pub labels_made : (s : List ℕ) (ls : List (List ℕ)) → s ≡ wire ls → labels_in s ≡ ls
labels_made s ls e = ap labels_in e ∙ labels_in_wire ls
