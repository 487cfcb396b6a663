-- The names that a composer wrote are read whatever is written before an offset of the message.
use Rattle.std.proofs.Common.{◌≡◌, ℕ, ◌+◌, ◌-◌, ◌≤◌, ◌<◌, inl, inr, List, [], ◌∷◌, ◌++◌, length, take, drop, take_all, nat_le, nat_lt, if◌then◌else◌, true, false, refl, sym, ap, subst, arith, ◌∙◌, append-nil, length-append, take-take}
use Rattle.std.proofs.lemmas.Grind.{common_steps}
use Rattle.std.proofs.lemmas.Bool.{cases_lt}
use Rattle.std.proofs.lemmas.Bool.Decides.{nat_tests}
use Rattle.std.proofs.lemmas.List.{take-append-le, take-append-drop, drop-take, drop_all, length-take}
use Rattle.std.proofs.lemmas.List.Elements.{All-nil, All-cons, All-head, All-tail, All-append, All-take}
use Rattle.std.specs.List.{All}
use Rattle.domain_label.specs.Wire.{wire, IsAbsolute, IsRelative, IsAbsoluteName}
use Rattle.domain_reading.specs.Grammar.{LabelRun, Reads, Names}
use Rattle.domain_reading.specs.Grammar.Reads.{root, label, pointer}
use Rattle.domain_reading.specs.Touched.{ReadsFrom}
use Rattle.domain_reading.proofs.UncompressedIsRead.{plain_names}
use Rattle.domain_reading.proofs.Touching.{after_more, after_kept, after_from, names_kept, names_after, labels_after, pointer_after, reads_inside, touches_flat}
use Rattle.domain_rdata.specs.ReadBack.{StandsAt}
use Rattle.domain_compress.specs.Compressing.{RememberedLabel, pointer_to, FirstRemembered, LongestSuffix, Compresses, AddsCompressed, remembered_from, remembered_within}
use Rattle.domain_compress.specs.Compressing.Compresses.{pointer as pointed, flat, unread}
use Rattle.domain_compress.specs.Pointed.{flat_plain, pointer_after as pointer_plain, begins_relative, compressed_reads_back}
use Rattle.domain_compress.specs.Standing.{RememberedStands, AllRememberedStand}
use Rattle.domain_compress.proofs.OneResult.{stands_more}

-- ---- more octets, fewer octets, other octets before n

offset_more : (n : ℕ) (t u : List ℕ) (w : RememberedLabel) → RememberedStands n t w → RememberedStands n (t ++ u) w
offset_more n t u w x = record {
  labels = x.labels;
  reads = subst (λ o. ReadsFrom n o w.at x.labels) (sym (take-append-le w.end t u x.inside)) x.reads;
  inside = omega (arith, x.inside, length-append t u);
}

pub remembered_more : (n : ℕ) (t u : List ℕ) (ws : List RememberedLabel) → AllRememberedStand n t ws → AllRememberedStand n (t ++ u) ws
remembered_more n t u [] a = All-nil (RememberedStands n (t ++ u))
remembered_more n t u (w ∷ ws) a = All-cons (RememberedStands n (t ++ u)) w ws (offset_more n t u w (All-head (RememberedStands n t) w ws a)) (remembered_more n t u ws (All-tail (RememberedStands n t) w ws a))

offset_cut : (n e : ℕ) (t : List ℕ) (w : RememberedLabel) → w.end ≤ e → RememberedStands n t w → RememberedStands n (take e t) w
offset_cut n e t w le x =
    record {
      labels = x.labels;
      reads = subst (λ o. ReadsFrom n o w.at x.labels) (sym (take-take w.end e t le)) x.reads;
      inside = let h = x.inside in grind (arith, common_steps);
    }

pub remembered_cut : (n e : ℕ) (t : List ℕ) (ws : List RememberedLabel) → AllRememberedStand n t ws → AllRememberedStand n (take e t) (remembered_within e ws)
remembered_cut n e t [] a = All-nil (RememberedStands n (take e t))
remembered_cut n e t (w ∷ ws) a =
    let here = All-head (RememberedStands n t) w ws a in
    let rest = remembered_cut n e t ws (All-tail (RememberedStands n t) w ws a) in
    elim (nat_le w.end e) as (λ b. nat_le w.end e ≡ b → All (RememberedStands n (take e t)) (if b then w ∷ remembered_within e ws else remembered_within e ws)) [
      | true ↦ λ test. All-cons (RememberedStands n (take e t)) w (remembered_within e ws) (offset_cut n e t w (grind (arith, nat_tests)) here) rest
      | false ↦ λ test. rest
    ] refl

cut_drop : (n e : ℕ) (m : List ℕ) → drop n (take e m) ≡ take (e - n) (drop n m)
cut_drop n e m = elim (cases_lt e n) [
  | inl lt ↦
      let few : length (take e m) ≤ n = omega (arith, length-take e m, lt) in
      let nothing : e - n ≡ 0 = omega (arith, lt) in
      drop_all n (take e m) few ∙ sym (ap (λ k. take k (drop n m)) nothing)
  | inr le ↦
      let whole : n + (e - n) ≡ e = omega (arith, le) in
      ap (λ k. drop n (take k m)) (sym whole) ∙ drop-take n (e - n) m
]

offset_kept : (n : ℕ) (t o : List ℕ) (w : RememberedLabel) → drop n o ≡ drop n t → length o ≡ length t → RememberedStands n t w → RememberedStands n o w
offset_kept n t o w same size x =
    record {
      labels = x.labels;
      reads = after_kept (take w.end o) x.reads (cut_drop n w.end o ∙ (ap (take (w.end - n)) same ∙ sym (cut_drop n w.end t)));
      inside = omega (arith, x.inside, size);
    }

pub remembered_kept : (n : ℕ) (t o : List ℕ) (ws : List RememberedLabel) → drop n o ≡ drop n t → length o ≡ length t → AllRememberedStand n t ws → AllRememberedStand n o ws
remembered_kept n t o [] same size a = All-nil (RememberedStands n o)
remembered_kept n t o (w ∷ ws) same size a = All-cons (RememberedStands n o) w ws (offset_kept n t o w same size (All-head (RememberedStands n t) w ws a)) (remembered_kept n t o ws same size (All-tail (RememberedStands n t) w ws a))

pub stands_kept : (n : ℕ) (t o : List ℕ) (p : ℕ) (c ls : List (List ℕ)) → ReadsFrom n t p c → drop n o ≡ drop n t → StandsAt t p ls → StandsAt o p ls
stands_kept n t o p c ls x same s = (s.0, names_kept o x same s.1, s.2)

-- ---- a name more

-- what an offset of them reads
first_stands : (n : ℕ) (t : List ℕ) (b : List (List ℕ)) (p : ℕ) (ws : List RememberedLabel) → AllRememberedStand n t ws → FirstRemembered t ws b p → (c : List (List ℕ)) × ReadsFrom n t p c
first_stands n t b p [] a first = absurd first
first_stands n t b p (w ∷ ws) a first = elim first [
  | inl here ↦
      let x = All-head (RememberedStands n t) w ws a in
      (x.labels, subst (λ q. ReadsFrom n t q x.labels) (sym here.1) (subst (λ o. ReadsFrom n o w.at x.labels) (take-append-drop w.end t) (after_more (drop w.end t) x.reads)))
  | inr later ↦ first_stands n t b p ws (All-tail (RememberedStands n t) w ws a) later.1
]

at_end : (n : ℕ) (m : List ℕ) (p : ℕ) (c : List (List ℕ)) → ReadsFrom n m p c → RememberedStands n m (record { at = p; end = length m })
at_end n m p c x = record {
  labels = c;
  reads = subst (λ o. ReadsFrom n o p c) (sym (take_all (length m) m (omega arith))) x;
  inside = omega arith;
}

one_more : (n : ℕ) (m : List ℕ) (p : ℕ) (l : List ℕ) (ls c : List (List ℕ)) → ReadsFrom n m p c → AllRememberedStand n m (remembered_from (p + 1 + length l) (length m) ls) → AllRememberedStand n m (remembered_from p (length m) (l ∷ ls))
one_more n m p l ls c x rest =
    let P = RememberedStands n m in
    let ws = remembered_from (p + 1 + length l) (length m) ls in
    let here : RememberedLabel = record { at = p; end = length m } in
    elim (nat_lt 0 (length l)) as (λ b. All P (if b then (if nat_lt p 16384 then here ∷ ws else []) else [])) [
      | true ↦ elim (nat_lt p 16384) as (λ b. All P (if b then here ∷ ws else [])) [
        | true ↦ All-cons P here ws (at_end n m p c x) rest
        | false ↦ All-nil P
      ]
      | false ↦ All-nil P
    ]

labels_stand : (n : ℕ) (m : List ℕ) (a : List (List ℕ)) (p r : ℕ) (c : List (List ℕ)) → n ≤ p → LabelRun m p a r → ReadsFrom n m r c → AllRememberedStand n m (remembered_from p (length m) a)
labels_stand n m [] p r c le f x = All-nil (RememberedStands n m)
labels_stand n m (l ∷ a) p r c le f x =
    one_more n m p l a ((l ∷ a) ++ c) (labels_after (l ∷ a) p le f x) (labels_stand n m a (p + 1 + length l) r c (omega (arith, le)) f.1 x)

flat_stands : (n : ℕ) {m : List ℕ} {p k : ℕ} {ls : List (List ℕ)} → (r : Reads m p k ls) → k ≡ 0 → n ≤ p → AllRememberedStand n m (remembered_from p (length m) ls)
flat_stands n {m} (root x) e le = All-nil (RememberedStands n m)
flat_stands n {m} {p} (label {k = k} {l = l} {rest = ls} x r) e le =
    let here : ReadsFrom n m p (l ∷ ls) = record { pointers = k; reads = label x r; after = λ i h. omega (arith, le, touches_flat (label x r) e i h) } in
    one_more n m p l ls (l ∷ ls) here (flat_stands n r e (omega (arith, le)))
flat_stands n (pointer x lt r) e le = absurd (omega (arith, e))

-- what is written for a name, and the offsets of its labels
pub record NewStands (n : ℕ) (t octets : List ℕ) (labels : List (List ℕ)) : Type 0 where
  pub offsets : AllRememberedStand n (t ++ octets) (remembered_from (length t) (length (t ++ octets)) labels)
  pub read : List (List ℕ)
  pub reads : ReadsFrom n (t ++ octets) (length t) read

new_flat : (n : ℕ) (t : List ℕ) (ls : List (List ℕ)) → IsAbsoluteName ls → n ≤ length t → NewStands n t (wire ls) ls
new_flat n t ls name le =
    let names : Names 0 (t ++ wire ls) (length t) ls = rw (← append-nil (t ++ wire ls)) (plain_names t [] ls name) in
    record {
      offsets = flat_stands n names.reads (omega (arith, names.few_pointers)) le;
      read = ls;
      reads = after_from n (names_after names) le;
    }

new_pointed : (n : ℕ) (t : List ℕ) (ws : List RememberedLabel) (ls a b : List (List ℕ)) (p : ℕ) → IsAbsoluteName ls → n ≤ length t → AllRememberedStand n t ws → LongestSuffix t ws ls a b p → NewStands n t (wire a ++ pointer_to p) a
new_pointed n t ws ls a b p name le stand found =
    let rel : IsRelative a = begins_relative a b (subst IsAbsolute found.parts name.0) (omega (arith, found.more)) in
    let end = first_stands n t b p ws stand found.offset in
    let inside : p < length t = reads_inside end.1.reads in
    let at = pointer_after (omega (arith, le)) (pointer_plain t a p) (omega (arith, inside)) (after_more (wire a ++ pointer_to p) end.1) in
    let flat = flat_plain a t (pointer_to p) rel in
    record {
      offsets = labels_stand n (t ++ (wire a ++ pointer_to p)) a (length t) (length t + length (wire a)) end.0 le flat at;
      read = a ++ end.0;
      reads = labels_after a (length t) le flat at;
    }

new_stands : (n : ℕ) (t : List ℕ) (ws : List RememberedLabel) (ls labels : List (List ℕ)) (s : List ℕ) → IsAbsoluteName ls → n ≤ length t → AllRememberedStand n t ws → Compresses t ws ls labels s → NewStands n t s labels
new_stands n t ws ls labels s name le stand (pointed {a} {b} {p} found read) = new_pointed n t ws ls a b p name le stand found
new_stands n t ws ls labels s name le stand (flat none) = new_flat n t ls name le
new_stands n t ws ls labels s name le stand (unread found not) = new_flat n t ls name le

-- A name that was written is read from n on, and so are those at the offsets of its labels, where those at the
-- offsets before are.
pub added : (n : ℕ) (t u : List ℕ) (ws vs : List RememberedLabel) (ls : List (List ℕ)) → IsAbsoluteName ls → n ≤ length t → AllRememberedStand n t ws → AddsCompressed t ws ls u vs → AllRememberedStand n u vs × ((c : List (List ℕ)) × ReadsFrom n u (length t) c)
added n t u ws vs ls name le stand x =
    let m = t ++ x.octets in
    let P = RememberedStands n m in
    let new = new_stands n t ws ls x.labels x.octets name le stand x.compresses in
    let both : All P (ws ++ remembered_from (length t) (length m) x.labels) = All-append P ws (remembered_from (length t) (length m) x.labels) (remembered_more n t x.octets ws stand) new.offsets in
    let all : All P (take 128 (ws ++ remembered_from (length t) (length t + length x.octets) x.labels)) = subst (λ e. All P (take 128 (ws ++ remembered_from (length t) e x.labels))) (length-append t x.octets) (All-take P 128 (ws ++ remembered_from (length t) (length m) x.labels) both) in
    let same : All P vs = subst (λ vs. All P vs) (sym x.offsets) all in
    (subst (λ o. AllRememberedStand n o vs) (sym x.all) same, (new.read, subst (λ o. ReadsFrom n o (length t) new.read) (sym x.all) new.reads))

-- So a name that was written is read at its offset after more octets, and whatever is written before n.
pub added_stays : (n : ℕ) (t u v o : List ℕ) (ws vs : List RememberedLabel) (ls : List (List ℕ)) → IsAbsoluteName ls → n ≤ length t → AllRememberedStand n t ws → AddsCompressed t ws ls u vs → drop n o ≡ drop n (u ++ v) → StandsAt o (length t) ls
added_stays n t u v o ws vs ls name le stand x same =
    let new = (added n t u ws vs ls name le stand x).1 in
    let P : List ℕ → Type 0 = λ m. StandsAt m (length t) ls in
    let there : StandsAt u (length t) ls = subst P (sym x.all) (compressed_reads_back t ws ls x.labels x.octets name x.compresses).stands in
    stands_kept n (u ++ v) o (length t) new.0 ls (after_more v new.1) same (stands_more u v (length t) ls there)

pub no_remembered : (n : ℕ) (t : List ℕ) → AllRememberedStand n t []
no_remembered n t = All-nil (RememberedStands n t)
