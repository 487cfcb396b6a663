-- The octets of an absolute name are read as that name.
use Rattle.std.proofs.Common.{◌≡◌, ℕ, ◌+◌, ◌-◌, ◌≤◌, ◌<◌, List, [], ◌∷◌, ◌++◌, length, refl, sym, ap, subst, arith, ◌∙◌, slice_range, take, drop, append_assoc, length-append}
use Rattle.std.proofs.lemmas.Grind.{common_steps}
use Rattle.std.proofs.Math.Seq.{take-append_seam, drop-append-add}
use Rattle.domain_label.specs.Wire.{wire, IsAbsolute, IsAbsoluteName}
use Rattle.domain_reading.specs.Grammar.{OctetAt, LabelAt, Reads, Names, LabelRun, Encoding}
use Rattle.domain_reading.specs.Grammar.Reads.{root, label}
use Rattle.domain_reading.specs.Grammar.Stop.{root as stop_root}

label_slice : (t l u : List ℕ) (n : ℕ) → slice_range (t ++ n ∷ (l ++ u)) (length t + 1) (length t + 1 + length l) ≡ l
label_slice t l u n =
    let k : length t + 1 + length l - (length t + 1) ≡ length l = omega arith in
    let d : drop (length t + 1) (t ++ n ∷ (l ++ u)) ≡ l ++ u = drop-append-add t (n ∷ (l ++ u)) 1 in
    ap (λ j. take j (drop (length t + 1) (t ++ n ∷ (l ++ u)))) k ∙ ap (λ xs. take (length l) xs) d ∙ take-append_seam l u

label_plain : (t l u : List ℕ) → 0 < length l → length l ≤ 63 → LabelAt (t ++ length l ∷ (l ++ u)) (length t) l
label_plain t l u some few = record {
  nonempty = some;
  short = omega arith;
  head = grind (arith, common_steps);
  inside = omega (arith, length-append t (length l ∷ (l ++ u)), length-append l u);
  octets = label_slice t l u (length l);
}

-- the labels of an absolute list stand one after the other, and the root after them
pub record UncompressedAt (m : List ℕ) (p : ℕ) (ls : List (List ℕ)) : Type 0 where
  pub labels : List (List ℕ)
  pub stop : ℕ
  pub flat : LabelRun m p labels stop
  pub root_there : OctetAt m stop 0
  pub reads : Reads m p 0 ls
  pub end : stop + 1 ≡ p + length (wire ls)

plain_root : (t u : List ℕ) (ls : List (List ℕ)) → ls ≡ [] → UncompressedAt (t ++ (wire ([] ∷ ls) ++ u)) (length t) ([] ∷ ls)
plain_root t u ls e = subst (λ ls. UncompressedAt (t ++ (wire ([] ∷ ls) ++ u)) (length t) ([] ∷ ls)) (sym e)
    (let x : OctetAt (t ++ (0 ∷ u)) (length t) 0 = record { inside = omega (arith, length-append t (0 ∷ u)); octet = grind (arith, common_steps) } in
    record { labels = []; stop = length t; flat = refl; root_there = x; reads = root x; end = omega arith })

plain_after : (t l u : List ℕ) (ls : List (List ℕ)) → 0 < length l → length l ≤ 63 → UncompressedAt ((t ++ length l ∷ l) ++ (wire ls ++ u)) (length (t ++ length l ∷ l)) ls → UncompressedAt (t ++ (wire (l ∷ ls) ++ u)) (length t) (l ∷ ls)
plain_after t l u ls some few tail =
    let whole : (t ++ length l ∷ l) ++ (wire ls ++ u) ≡ t ++ (length l ∷ ((l ++ wire ls) ++ u)) = append_assoc t (length l ∷ l) (wire ls ++ u) ∙ ap (λ xs. t ++ (length l ∷ xs)) (sym (append_assoc l (wire ls) u)) in
    let offset : length (t ++ length l ∷ l) ≡ length t + 1 + length l = omega (arith, length-append t (length l ∷ l)) in
    let moved = subst (λ p. UncompressedAt (t ++ (length l ∷ ((l ++ wire ls) ++ u))) p ls) offset (subst (λ m. UncompressedAt m (length (t ++ length l ∷ l)) ls) whole tail) in
    let here = subst (λ xs. LabelAt (t ++ (length l ∷ xs)) (length t) l) (sym (append_assoc l (wire ls) u)) (label_plain t l (wire ls ++ u) some few) in
    record {
      labels = l ∷ moved.labels;
      stop = moved.stop;
      flat = (here, moved.flat);
      root_there = moved.root_there;
      reads = label here moved.reads;
      end = omega (arith, moved.end, length-append l (wire ls));
    }

plain_from : (ls : List (List ℕ)) (t u : List ℕ) → IsAbsolute ls → UncompressedAt (t ++ (wire ls ++ u)) (length t) ls
plain_from [] t u a = absurd a
plain_from ([] ∷ ls) t u a = plain_root t u ls a
plain_from ((c ∷ l) ∷ ls) t u a = plain_after t (c ∷ l) u ls (omega arith) a.0 (plain_from ls (t ++ length (c ∷ l) ∷ c ∷ l) u a.1)

pub uncompressed_at : (t u : List ℕ) (ls : List (List ℕ)) → IsAbsolute ls → UncompressedAt (t ++ wire ls ++ u) (length t) ls
uncompressed_at t u ls a = subst (λ m. UncompressedAt m (length t) ls) (sym (append_assoc t (wire ls) u)) (plain_from ls t u a)

pub plain_names : (t u : List ℕ) (ls : List (List ℕ)) → IsAbsoluteName ls → Names 0 (t ++ wire ls ++ u) (length t) ls
plain_names t u ls a = record { pointers = 0; reads = (uncompressed_at t u ls a.0).reads; few_pointers = omega arith; short = a.1 }

pub plain_front : (t u : List ℕ) (ls : List (List ℕ)) → IsAbsoluteName ls → (fs : List (List ℕ)) × Encoding (t ++ wire ls ++ u) (length t) fs stop_root (length t + length (wire ls))
plain_front t u ls a =
    let s = uncompressed_at t u ls a.0 in
    (s.labels, record { stop = s.stop; run = s.flat; ends = (s.root_there, sym s.end) })
