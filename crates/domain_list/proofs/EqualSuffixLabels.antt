-- Wire formats whose last octets are alike end with labels that are.
use Rattle.std.proofs.Common.{inl, inr, ◌≡◌, ℕ, ◌+◌, ◌-◌, ◌≤◌, List, [], ◌∷◌, ◌++◌, length, take, drop, slice_range, refl, sym, ap, subst, ◌∙◌, arith, length-append, append_assoc, Option, None, Some, IfSome, Bor}
use Rattle.std.proofs.lemmas.List.{length-map, append-nil, drop-map, map-append, length-take}
use Rattle.std.proofs.lemmas.Grind.{common_steps}
use Rattle.std.proofs.Math.Seq.{drop-append_seam, drop-append-add, take-add}
use Rattle.std.specs.Char.{to_ascii_lowercase}
use Rattle.domain_label.specs.Lowercase.{lowercase, lowercase_labels}
use Rattle.domain_label.specs.Wire.{wire, AreLabels, IsName}
use Rattle.domain_label.proofs.WireLaws.{nil_from_wire, wire_append, wire_once, absolute_labels, relative_labels}
use Rattle.domain_label.proofs.CanonicalForm.{lowercase_wire}
use Rattle.domain_list.specs.EqualSuffixes.{SuffixesEqual, EqualAfter, OctetSuffixesEqual, KnownSuffixesEqual}

all_of : (o : List ℕ) (i : ℕ) → i ≡ length o → o ≡ take i o ++ []
all_of o i e = grind (arith, common_steps, append-nil)

part_before : (o : List ℕ) (i k : ℕ) → k ≤ i → take i o ≡ take (i - k) o ++ slice_range o (i - k) i
part_before o i k le =
    let e : i - k + (i - (i - k)) ≡ i = omega (arith, le) in
    ap (λ n. take n o) (sym e) ∙ take-add (i - k) (i - (i - k)) o

part_size : (o : List ℕ) (i k : ℕ) → k ≤ i → i ≤ length o → length (slice_range o (i - k) i) ≡ k
part_size o i k le few =
    omega (arith, le, few, ap length (part_before o i k le), length-append (take (i - k) o) (slice_range o (i - k) i), length-take i o, length-take (i - k) o)

pub alike_none : (o p : List ℕ) (i j : ℕ) → i ≡ length o → j ≡ length p → EqualAfter o p (take i o) (take j p) 0
alike_none o p i j e f = record { o_end = []; p_end = []; o_is = all_of o i e; p_is = all_of p j f; alike = refl; size = refl }

-- a part more
pub alike_more : {o p : List ℕ} {i j n : ℕ} (k : ℕ) → EqualAfter o p (take i o) (take j p) n → k ≤ i → i ≤ length o → k ≤ j → j ≤ length p → lowercase (slice_range o (i - k) i) ≡ lowercase (slice_range p (j - k) j) → EqualAfter o p (take (i - k) o) (take (j - k) p) (n + k)
alike_more {o} {p} {i} {j} k t some few more less same =
    let x = slice_range o (i - k) i in
    let y = slice_range p (j - k) j in
    record {
      o_end = x ++ t.o_end;
      p_end = y ++ t.p_end;
      o_is = t.o_is ∙ (ap (λ f. f ++ t.o_end) (part_before o i k some) ∙ append_assoc (take (i - k) o) x t.o_end);
      p_is = t.p_is ∙ (ap (λ g. g ++ t.p_end) (part_before p j k more) ∙ append_assoc (take (j - k) p) y t.p_end);
      alike = map-append to_ascii_lowercase x t.o_end ∙ (ap (λ r. r ++ lowercase t.o_end) same ∙ (ap (λ r. lowercase y ++ r) t.alike ∙ sym (map-append to_ascii_lowercase y t.p_end)));
      size = omega (arith, t.size, length-append x t.o_end, part_size o i k some few);
    }

-- the octets v that o ends with are the last ones of r, where o ends with r, and r is no shorter
last_octets : (f r u v : List ℕ) (j : ℕ) → f ++ r ≡ u ++ v → length v + j ≡ length r → drop j r ≡ v
last_octets f r u v j e n =
    let k : length f + j ≡ length u = omega (arith, n, ap (λ xs. length xs) e, length-append f r, length-append u v) in
    sym (drop-append-add f r j) ∙ (ap (λ i. drop i (f ++ r)) k ∙ (ap (λ xs. drop (length u) xs) e ∙ drop-append_seam u v))

drop_low : (j : ℕ) (r : List ℕ) → lowercase (drop j r) ≡ drop j (lowercase r)
drop_low j r = sym (drop-map to_ascii_lowercase j r)

pub labels_after : (us ps : List (List ℕ)) → AreLabels (us ++ ps) → AreLabels ps
labels_after [] ps a = a
labels_after (u ∷ us) ps a = labels_after us ps a.1

pub ends_alike : (xs ys : List (List ℕ)) (o p : List ℕ) (n : ℕ) → o ≡ wire xs → p ≡ wire ys → AreLabels xs → AreLabels ys → OctetSuffixesEqual o p n → SuffixesEqual xs ys n
ends_alike xs ys o p n e f a b (h, g, t) = λ us ps vs qs c d same le.
    let j = n - length (wire ps) in
    let long : length t.p_end ≡ n = omega (arith, t.size, ap (λ l. length l) t.alike, length-map t.o_end to_ascii_lowercase, length-map t.p_end to_ascii_lowercase) in
    let left : drop j t.o_end ≡ wire ps = last_octets h t.o_end (wire us) (wire ps) j (sym t.o_is ∙ (e ∙ (ap (λ ls. wire ls) c ∙ wire_append us ps))) (omega (arith, t.size)) in
    let right : drop j t.p_end ≡ wire qs = last_octets g t.p_end (wire vs) (wire qs) j (sym t.p_is ∙ (f ∙ (ap (λ ls. wire ls) d ∙ wire_append vs qs))) (omega (arith, long)) in
    let octets : lowercase (wire ps) ≡ lowercase (wire qs) = ap (λ r. lowercase r) (sym left) ∙ (drop_low j t.o_end ∙ (ap (λ r. drop j r) t.alike ∙ (sym (drop_low j t.p_end) ∙ ap (λ r. lowercase r) right))) in
    wire_once (lowercase_labels ps) (lowercase_labels qs) (sym (lowercase_wire ps (labels_after us ps (subst (λ ls. AreLabels ls) c a))) ∙ (octets ∙ lowercase_wire qs (labels_after vs qs (subst (λ ls. AreLabels ls) d b))))

-- of no octets nothing is asked
pub none_alike : (xs ys : List (List ℕ)) → SuffixesEqual xs ys 0
none_alike xs ys = λ us ps vs qs c d same le. ap (λ ls. lowercase_labels ls) (nil_from_wire ps (omega (arith, le)) ∙ sym (nil_from_wire qs (omega (arith, same, le))))

pub name_labels_short : (ls : List (List ℕ)) → IsName ls → AreLabels ls
name_labels_short ls n = elim n [ inl a ↦ absolute_labels ls a.0 | inr r ↦ relative_labels ls r.0 ]

no_octets : (xs ys : List (List ℕ)) (n : ℕ) → n ≡ 0 → SuffixesEqual xs ys n
no_octets xs ys n e = subst (λ n. SuffixesEqual xs ys n) (sym e) (none_alike xs ys)

pub names_alike : (xs ys : List (List ℕ)) (a b : Option (Bor (List ℕ))) (n : ℕ) → IsName xs → IsName ys → IfSome a (λ o. o.now ≡ wire xs) → IfSome b (λ p. p.now ≡ wire ys) → KnownSuffixesEqual a b n → SuffixesEqual xs ys n
names_alike xs ys None b n x y e f k = no_octets xs ys n k
names_alike xs ys (Some o) None n x y e f k = no_octets xs ys n k
names_alike xs ys (Some o) (Some p) n x y e f k = ends_alike xs ys o.now p.now n e f (name_labels_short xs x) (name_labels_short ys y) k
