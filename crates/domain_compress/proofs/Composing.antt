-- Writing a name by a pointer or flat.
use Rattle.std.proofs.Common.{◌≡◌, ℕ, ◌+◌, ◌≤◌, ◌<◌, List, [], ◌∷◌, ◌++◌, length, take, refl, sym, ap, subst, ◌∙◌, arith, append-nil, length-append}
use Rattle.std.proofs.lemmas.Grind.{common_steps}
use Rattle.std.proofs.lemmas.List.{take_all}
use Rattle.domain_label.specs.Wire.{wire, labels_in, IsWire, IsAbsolute, IsRelative, IsAbsoluteWire}
use Rattle.domain_label.proofs.WireLaws.{labels_in_wire, labels_le_wire, relative_labels}
use Rattle.domain_flat.proofs.LabelBounds.{IsWire_wire}
use Rattle.domain_rdata.specs.ReadBack.{Exceeds}
use Rattle.domain_compress.specs.Compressing.{RememberedLabel, pointer_to, Compresses, IsRead, remembered_from, AddsCompressed}
use Rattle.domain_compress.specs.Compressing.Compresses.{pointer, flat, unread}
use Rattle.domain_compress.specs.declared.written.WrittenSuffix.{WrittenSuffix}
use Rattle.domain_compress.specs.Written.{SuffixFound}
use Rattle.domain_compress.specs.MayWrite.{MayWrite}
use Rattle.domain_compress.specs.Planned.{WritesPointer}
use Rattle.domain_compress.specs.Beginnings.{PointerWritten}
use Rattle.domain_compress.specs.Hashes.{StandFrom}
use Rattle.domain_compress.specs.Pointed.{begins_relative}
use Rattle.domain_compress.proofs.Pointing.{pointed_read, pointed_unread}

before_relative : (t : List ℕ) (ws : List RememberedLabel) (name : List ℕ) (end : WrittenSuffix) → IsAbsoluteWire name → (f : SuffixFound t ws name end) → IsRelative f.before
before_relative t ws name end w f =
    let some : 0 < length f.after = omega (arith, f.longest.more) in
    begins_relative f.before f.after (subst IsAbsolute f.longest.parts w.1.0) some

read_so : (t : List ℕ) (ws : List RememberedLabel) (name : List ℕ) (end : WrittenSuffix) → IsAbsoluteWire name → (f : SuffixFound t ws name end) → (end.pointers ≡ 255 → ⊥) → IsRead t (labels_in name) f.before end.offset
read_so t ws name end w f few =
    pointed_read t (labels_in name) f.before f.after end.offset end.pointers w.1 f.longest.parts (before_relative t ws name end w f) f.through (omega (arith, few, f.through.few))

-- The beginning and the pointer are what is to be written.
pub planned : (t : List ℕ) (ws : List RememberedLabel) (name : List ℕ) (end : WrittenSuffix) → IsAbsoluteWire name → SuffixFound t ws name end → (end.pointers ≡ 255 → ⊥) → WritesPointer t ws name end.begin end.offset
planned t ws name end w f few = record {
  labels = f.before;
  compresses = subst (λ o. Compresses t ws (labels_in name) f.before (o ++ pointer_to end.offset)) (sym f.octets) (pointer f.longest (read_so t ws name end w f few));
  spelled = ap labels_in f.octets ∙ labels_in_wire f.before;
  wire_form = subst IsWire (sym f.octets) (IsWire_wire f.before (relative_labels f.before (before_relative t ws name end w f)));
  inside = f.inside;
  low = f.low;
}

pub pointed_so : (t : List ℕ) (ws : List RememberedLabel) (name : List ℕ) (begin offset : ℕ) (t' : List ℕ) → WritesPointer t ws name begin offset → t' ≡ t ++ (take begin name ++ pointer_to offset) → PointerWritten t ws name begin t'
pointed_so t ws name begin offset t' p all =
    let few : begin ≤ length name = omega (arith, p.inside) in
    let taken : length (take begin name) ≡ begin = grind (arith, common_steps) in
    record {
      labels = p.labels;
      octets = take begin name ++ pointer_to offset;
      compresses = p.compresses;
      all = all;
      spelled = p.spelled;
      wire_form = p.wire_form;
      inside = few;
      size = omega (arith, length-append (take begin name) (pointer_to offset), taken, p.inside);
    }

pub not_pointed : (t : List ℕ) (ws : List RememberedLabel) (name : List ℕ) (end : WrittenSuffix) → IsAbsoluteWire name → SuffixFound t ws name end → end.pointers ≡ 255 → Compresses t ws (labels_in name) (labels_in name) (wire (labels_in name))
not_pointed t ws name end w f many =
    unread f.longest (pointed_unread t (labels_in name) f.before f.after end.offset end.pointers (before_relative t ws name end w f) f.through many)

pub exceeds_pointed : (t : List ℕ) (ws : List RememberedLabel) (name : List ℕ) (begin offset cap : ℕ) → WritesPointer t ws name begin offset → cap < length t + length (take begin name ++ pointer_to offset) → Exceeds (MayWrite t ws (labels_in name)) t cap
exceeds_pointed t ws name begin offset cap p full = record {
  octets = take begin name ++ pointer_to offset;
  allowed = (p.labels, p.compresses);
  full = full;
}

pub exceeds_flat : (t : List ℕ) (ws : List RememberedLabel) (name : List ℕ) (cap : ℕ) → IsAbsoluteWire name → Compresses t ws (labels_in name) (labels_in name) (wire (labels_in name)) → cap < length t + length name → Exceeds (MayWrite t ws (labels_in name)) t cap
exceeds_flat t ws name cap w x full = record { octets = wire (labels_in name); allowed = (labels_in name, x); full = omega (arith, full, ap length w.0) }

pub adds_pointer : (t : List ℕ) (ws ws' : List RememberedLabel) (name : List ℕ) (at : ℕ) (t' : List ℕ) → (x : PointerWritten t ws name at t') → ws' ≡ take 128 (ws ++ remembered_from (length t) (length t') (labels_in (take at name))) → AddsCompressed t ws (labels_in name) t' ws'
adds_pointer t ws ws' name at t' x e = record {
  labels = x.labels;
  octets = x.octets;
  compresses = x.compresses;
  all = x.all;
  offsets = e ∙ (ap (λ n. take 128 (ws ++ remembered_from (length t) n (labels_in (take at name)))) (ap length x.all ∙ length-append t x.octets) ∙ ap (λ l. take 128 (ws ++ remembered_from (length t) (length t + length x.octets) l)) x.spelled);
}

pub adds_flat : (t : List ℕ) (ws ws' : List RememberedLabel) (name t' : List ℕ) → IsAbsoluteWire name → Compresses t ws (labels_in name) (labels_in name) (wire (labels_in name)) → t' ≡ t ++ name → ws' ≡ take 128 (ws ++ remembered_from (length t) (length t') (labels_in name)) → AddsCompressed t ws (labels_in name) t' ws'
adds_flat t ws ws' name t' w x all e =
    let whole : t' ≡ t ++ wire (labels_in name) = all ∙ ap (λ o. t ++ o) (sym w.0) in
    record {
      labels = labels_in name;
      octets = wire (labels_in name);
      compresses = x;
      all = whole;
      offsets = e ∙ ap (λ n. take 128 (ws ++ remembered_from (length t) n (labels_in name))) (ap length whole ∙ length-append t (wire (labels_in name)));
    }

few_labels : (name : List ℕ) → IsAbsoluteWire name → length name ≡ 1 → length (labels_in name) ≤ 1
few_labels name w one = omega (arith, labels_le_wire (labels_in name), ap length w.0, one)

none_from : (p end : ℕ) (ls : List (List ℕ)) → IsAbsolute ls → length ls ≤ 1 → remembered_from p end ls ≡ []
none_from p end [] absolute few = refl
none_from p end ([] ∷ ls) absolute few = refl
none_from p end ((c ∷ l) ∷ []) absolute few = absurd absolute.1
none_from p end ((c ∷ l) ∷ (m ∷ ls)) absolute few = absurd (omega (arith, few))

-- The root has no suffix that a pointer may stand for,
pub root_flat : (t : List ℕ) (ws : List RememberedLabel) (name : List ℕ) → IsAbsoluteWire name → length name ≡ 1 → Compresses t ws (labels_in name) (labels_in name) (wire (labels_in name))
root_flat t ws name w one =
    flat (λ xs ys parts more. absurd (omega (arith, ap length parts, length-append xs ys, more, few_labels name w one)))

-- and none of its labels is remembered.
pub adds_root : (t : List ℕ) (ws : List RememberedLabel) (name t' : List ℕ) → IsAbsoluteWire name → length name ≡ 1 → length ws ≤ 128 → t' ≡ t ++ name → AddsCompressed t ws (labels_in name) t' ws
adds_root t ws name t' w one few all =
    let none : remembered_from (length t) (length t') (labels_in name) ≡ [] = none_from (length t) (length t') (labels_in name) w.1.0 (few_labels name w one) in
    let same : take 128 (ws ++ remembered_from (length t) (length t') (labels_in name)) ≡ ws = ap (λ r. take 128 (ws ++ r)) none ∙ (ap (take 128) (append-nil ws) ∙ take_all 128 ws few) in
    adds_flat t ws ws name t' w (root_flat t ws name w one) all (sym same)

-- The labels that are spelled out are the first octets that are written.
spelled_first : {t : List ℕ} {ws : List RememberedLabel} {ls labels : List (List ℕ)} {s : List ℕ} → Compresses t ws ls labels s → (r : List ℕ) × (s ≡ wire labels ++ r)
spelled_first (pointer {a} {b} {p} found read) = (pointer_to p, refl)
spelled_first {ls = ls} (flat none) = ([], sym (append-nil (wire ls)))
spelled_first {ls = ls} (unread found unreadable) = ([], sym (append-nil (wire ls)))

stand_so : (t t' labels r o u : List ℕ) → t' ≡ t ++ (labels ++ r) → o ≡ t → u ≡ t' → StandFrom t' labels (length o) (length u)
stand_so t t' labels r o u whole start end = record {
  before = t;
  after = r;
  whole = whole;
  starts = ap length start;
  within = omega (arith, ap length start, ap length end, ap length whole, length-append t (labels ++ r), length-append labels r);
  inside = omega (arith, ap length end);
}

-- So they stand where they were written before a pointer,
pub stands_begun : (t : List ℕ) (ws : List RememberedLabel) (name : List ℕ) (at : ℕ) (t' o u : List ℕ) → PointerWritten t ws name at t' → o ≡ t → u ≡ t' → StandFrom t' (take at name) (length o) (length u)
stands_begun t ws name at t' o u x start end =
    let first = spelled_first x.compresses in
    let spelled : wire x.labels ≡ take at name = ap wire (sym x.spelled) ∙ x.wire_form.0 in
    let whole : t' ≡ t ++ (take at name ++ first.0) = x.all ∙ (ap (λ s. t ++ s) first.1 ∙ ap (λ l. t ++ (l ++ first.0)) spelled) in
    stand_so t t' (take at name) first.0 o u whole start end

-- and so does a name that was written uncompressed.
pub stands_flat : (t t' name o u : List ℕ) → t' ≡ t ++ name → o ≡ t → u ≡ t' → StandFrom t' name (length o) (length u)
stands_flat t t' name o u all start end =
    stand_so t t' name [] o u (all ∙ ap (λ l. t ++ l) (sym (append-nil name))) start end
