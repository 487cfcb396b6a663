-- What is written for a name is read as an equal name.
use Rattle.std.proofs.Common.{◌≡◌, ℕ, ◌+◌, ◌-◌, ◌/◌, ◌%◌, ◌≤◌, ◌<◌, List, [], ◌∷◌, ◌++◌, length, sym, ap, subst, arith, ◌∙◌, slice_range, slice_index, take, drop, append_assoc, length-append}
use Rattle.std.proofs.lemmas.Grind.{common_steps}
use Rattle.std.proofs.Math.Seq.{take-append_seam, drop-append-add}
use Rattle.domain_label.specs.Wire.{wire, IsAbsolute, IsRelative, IsAbsoluteName}
use Rattle.domain_reading.specs.Grammar.{LabelAt, PointerAt, LabelRun, Encoding}
use Rattle.domain_reading.specs.Grammar.Stop.{pointer as stop_pointer}
use Rattle.domain_label.proofs.WireLaws.{length-wire_append}
use Rattle.domain_rdata.specs.ReadBack.{ReadsBack}
use Rattle.domain_rdata.specs.FlatNames.{wire_reads_back}
use Rattle.domain_compress.specs.Compressing.{RememberedLabel, pointer_to, LongestSuffix, IsRead, Compresses}
use Rattle.domain_compress.specs.Compressing.Compresses.{pointer, flat, unread}

label_slice : (t l u : List ℕ) (n : ℕ) → slice_range (t ++ n ∷ (l ++ u)) (length t + 1) (length t + 1 + length l) ≡ l
label_slice t l u n =
    let k : length t + 1 + length l - (length t + 1) ≡ length l = omega arith in
    let d : drop (length t + 1) (t ++ n ∷ (l ++ u)) ≡ l ++ u = drop-append-add t (n ∷ (l ++ u)) 1 in
    ap (λ j. take j (drop (length t + 1) (t ++ n ∷ (l ++ u)))) k ∙ ap (λ xs. take (length l) xs) d ∙ take-append_seam l u

label_plain : (t l u : List ℕ) → 0 < length l → length l ≤ 63 → LabelAt (t ++ length l ∷ (l ++ u)) (length t) l
label_plain t l u some few = record {
  nonempty = some;
  short = omega arith;
  head = grind (arith, common_steps);
  inside = omega (arith, length-append t (length l ∷ (l ++ u)), length-append l u);
  octets = label_slice t l u (length l);
}

flat_after : (t l u : List ℕ) (a : List (List ℕ)) → 0 < length l → length l ≤ 63 → LabelRun ((t ++ length l ∷ l) ++ (wire a ++ u)) (length (t ++ length l ∷ l)) a (length (t ++ length l ∷ l) + length (wire a)) → LabelRun (t ++ (wire (l ∷ a) ++ u)) (length t) (l ∷ a) (length t + length (wire (l ∷ a)))
flat_after t l u a some few tail =
    let whole : (t ++ length l ∷ l) ++ (wire a ++ u) ≡ t ++ (length l ∷ ((l ++ wire a) ++ u)) = append_assoc t (length l ∷ l) (wire a ++ u) ∙ ap (λ xs. t ++ (length l ∷ xs)) (sym (append_assoc l (wire a) u)) in
    let offset : length (t ++ length l ∷ l) ≡ length t + 1 + length l = omega (arith, length-append t (length l ∷ l)) in
    let end : length t + 1 + length l + length (wire a) ≡ length t + length (wire (l ∷ a)) = omega (arith, length-append l (wire a)) in
    let m = t ++ (length l ∷ ((l ++ wire a) ++ u)) in
    let moved = subst (λ p. LabelRun m p a (p + length (wire a))) offset (subst (λ m. LabelRun m (length (t ++ length l ∷ l)) a (length (t ++ length l ∷ l) + length (wire a))) whole tail) in
    let here = subst (λ xs. LabelAt (t ++ (length l ∷ xs)) (length t) l) (sym (append_assoc l (wire a) u)) (label_plain t l (wire a ++ u) some few) in
    (here, subst (λ r. LabelRun m (length t + 1 + length l) a r) end moved)

-- Labels stand where their wire format does.
pub flat_plain : (a : List (List ℕ)) (t u : List ℕ) → IsRelative a → LabelRun (t ++ (wire a ++ u)) (length t) a (length t + length (wire a))
flat_plain [] t u r = omega arith
flat_plain ([] ∷ a) t u r = absurd r
flat_plain ((c ∷ l) ∷ a) t u r = flat_after t (c ∷ l) u a (omega arith) r.0 (flat_plain a (t ++ length (c ∷ l) ∷ c ∷ l) u r.1)

-- A list that has no label has none after another.
pub nothing_after : (a b : List (List ℕ)) → a ++ b ≡ [] → 0 < length b → ⊥
nothing_after a b h some =
    let e : length (a ++ b) ≡ 0 = ap length h in
    omega (arith, length-append a b, e)

-- What stands before a suffix of an absolute list is relative.
pub begins_relative : (a b : List (List ℕ)) → IsAbsolute (a ++ b) → 0 < length b → IsRelative a
begins_relative [] b h some = tt
begins_relative ([] ∷ a) b h some = absurd (nothing_after a b h some)
begins_relative ((c ∷ l) ∷ a) b h some = (h.0, begins_relative a b h.1 some)

pointer_plain : (x : List ℕ) (p : ℕ) → PointerAt (x ++ pointer_to p) (length x) p
pointer_plain x p =
    let first : slice_index (x ++ pointer_to p) (length x) ≡ 192 + p / 256 = grind (arith, common_steps) in
    let second : slice_index (x ++ pointer_to p) (length x + 1) ≡ p % 256 = grind (arith, common_steps) in
    record {
      inside = omega (arith, length-append x (pointer_to p));
      head = omega (arith, first);
      target = omega (arith, first, second);
    }

-- A pointer stands after the labels that were written before it.
pub pointer_after : (t : List ℕ) (a : List (List ℕ)) (p : ℕ) → PointerAt (t ++ (wire a ++ pointer_to p)) (length t + length (wire a)) p
pointer_after t a p =
    let P : List ℕ → Type 0 = λ m. PointerAt m (length t + length (wire a)) p in
    let Q : ℕ → Type 0 = λ n. PointerAt ((t ++ wire a) ++ pointer_to p) n p in
    subst P (append_assoc t (wire a) (pointer_to p)) (subst Q (length-append t (wire a)) (pointer_plain (t ++ wire a) p))

-- A list of more than one label has at least two octets.
end_size : (b : List (List ℕ)) → 1 < length b → 2 ≤ length (wire b)
end_size [] h = absurd (omega arith)
end_size (l ∷ []) h = absurd (omega arith)
end_size (l ∷ m ∷ b) h = omega (arith, length-append l (wire (m ∷ b)))

pointed : (t : List ℕ) (ws : List RememberedLabel) (ls a b : List (List ℕ)) (p : ℕ) → IsAbsoluteName ls → LongestSuffix t ws ls a b p → IsRead t ls a p → ReadsBack t ls (wire a ++ pointer_to p)
pointed t ws ls a b p name found read =
    let some : 0 < length b = omega (arith, found.more) in
    let rel : IsRelative a = begins_relative a b (subst IsAbsolute found.parts name.0) some in
    let s = wire a ++ pointer_to p in
    let after = pointer_after t a p in
    let front : Encoding (t ++ s) (length t) a (stop_pointer p) (length t + length s) = record { stop = length t + length (wire a); run = flat_plain a t (pointer_to p) rel; ends = (after, omega (arith, length-append (wire a) (pointer_to p))) } in
    record {
      short = omega (arith, length-append (wire a) (pointer_to p), ap (λ xs. length (wire xs)) found.parts, length-wire_append a b, end_size b found.more);
      stands = read;
      ends = (a, stop_pointer p, front);
    }

-- What is written is read back.
pub compressed_reads_back : (t : List ℕ) (ws : List RememberedLabel) (ls w : List (List ℕ)) (s : List ℕ) → IsAbsoluteName ls → Compresses t ws ls w s → ReadsBack t ls s
compressed_reads_back t ws ls w s name (pointer {a} {b} {p} found read) = pointed t ws ls a b p name found read
compressed_reads_back t ws ls w s name (flat none) = wire_reads_back t ls name
compressed_reads_back t ws ls w s name (unread found unreadable) = wire_reads_back t ls name
