-- What was put into a buffer.
use Rattle.std.proofs.Common.{◌≡◌, ℕ, ◌+◌, ◌-◌, ◌≤◌, ◌<◌, List, [], ◌∷◌, ◌++◌, length, take, drop, slice_set, ap, sym, ◌∙◌, arith, append_assoc}
use borrow.Rule.Slice.PartMut.{put_mid}
use Rattle.std.proofs.lemmas.Grind.{common_steps}
use Rattle.std.proofs.lemmas.List.{take-map, take_more_set, take-take, length-take-le, take-append-drop}
use Rattle.std.proofs.Math.Seq.{take-append-add}
use Rattle.std.proofs.lemmas.Slice.{take-put_mid}
use Rattle.std.specs.Char.{to_ascii_lowercase}
use Rattle.domain_label.specs.Lowercase.{lowercase, lowercase_labels}
use Rattle.domain_label.specs.Wire.{wire, wire_label, AreLabels}
use Rattle.domain_label.proofs.CanonicalForm.{lowercase_wire}

-- a label after the first octets, its length octet before it
pub label_put : (o new s l : List ℕ) (at k n : ℕ) → length o ≡ 255 → at + length (wire_label l) ≤ 255 → s ≡ l → k ≡ length l → n ≡ length l → take (at + 1 + length s) new ≡ take (at + 1) (slice_set o at n) ++ s → take (at + 1 + k) new ≡ take at o ++ wire_label l
label_put o new s l at k n big few e f h put =
    let inside : at < length o = omega (arith, big, few) in
    ap (λ i. take i new) (omega (arith, f, ap length e))
    ∙ (put
    ∙ (ap (λ r. r ++ s) (take_more_set o at n inside) ∙ (append_assoc (take at o) (n ∷ []) s ∙ (ap (λ r. take at o ++ n ∷ r) e ∙ ap (λ m. take at o ++ m ∷ l) h))))

-- the first octets of a buffer that was lowered, where they were the wire format of labels
pub lowered_front : (old new : List ℕ) (n : ℕ) (ls : List (List ℕ)) → new ≡ lowercase old → take n old ≡ wire ls → AreLabels ls → take n new ≡ wire (lowercase_labels ls)
lowered_front old new n ls e h a = ap (take n) e ∙ (take-map to_ascii_lowercase n old ∙ (ap lowercase h ∙ lowercase_wire ls a))

-- octets put by their first and their last ones, which may overlap
pub ends_put : (o s x y : List ℕ) (at size j k m : ℕ) → length o ≡ 255 → size ≤ length s → length s ≤ size + size → at + length s ≤ 255 → j ≡ size → x ≡ take size s → y ≡ take m (drop (length s - size) s) → m ≡ size → take (at + length s) (put_mid (at + (length s - size)) k (put_mid at j o x) y) ≡ take at o ++ s
ends_put o s x y at size j k m big long short room d e f h =
    let r = length s - size in
    let end : y ≡ drop r s = f ∙ grind (arith, common_steps) in
    let front : length x ≡ size = ap length e ∙ length-take-le size s long in
    let back : length y ≡ size = grind (arith, common_steps) in
    let inside : at ≤ length o = omega (arith, big, room) in
    let near : at + r ≤ at + size = omega (arith, short) in
    let o1 = put_mid at j o x in
    let whole : length o1 ≡ 255 = grind (arith, common_steps) in
    let first : take (at + size) o1 ≡ take at o ++ x = take-put_mid at j o x (at + size) (omega (arith, front)) inside in
    let until : length (take at o) ≡ at = length-take-le at o inside in
    let before : take (at + r) o1 ≡ take at o ++ take r s =
    sym (take-take (at + r) (at + size) o1 near)
    ∙ (ap (take (at + r)) first
    ∙ (ap (λ n. take (n + r) (take at o ++ x)) (sym until)
    ∙ (take-append-add (take at o) x r
    ∙ ap (λ t. take at o ++ t) (ap (take r) e ∙ take-take r size s (omega (arith, short)))))) in
    take-put_mid (at + r) k o1 y (at + length s) (omega (arith, back, long)) (omega (arith, whole, room))
    ∙ (ap (λ t. t ++ y) before ∙ (append_assoc (take at o) (take r s) y ∙ ap (λ t. take at o ++ t) (ap (λ t. take r s ++ t) end ∙ take-append-drop r s)))
