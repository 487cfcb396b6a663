-- A pointer after labels is read as what it leads to, and whether that is a name.
use Rattle.std.proofs.Common.{◌≡◌, ℕ, suc, ◌+◌, ◌<◌, List, [], ◌∷◌, ◌++◌, length, sym, ap, subst, ◌∙◌, arith}
use Rattle.std.proofs.lemmas.List.{map-append}
use Rattle.domain_label.specs.Wire.{wire, IsRelative, IsAbsoluteName}
use Rattle.domain_label.specs.Lowercase.{lowercase, lowercase_labels}
use Rattle.domain_label.proofs.CanonicalForm.{lowercase_size}
use Rattle.domain_reading.specs.Grammar.{LabelRun, Reads}
use Rattle.domain_reading.specs.Grammar.Reads.{root, label, pointer}
use Rattle.domain_reading.proofs.Reading.{reads_once, reads_more}
use Rattle.domain_compress.specs.Compressing.{pointer_to, IsRead}
use Rattle.domain_compress.specs.Pointed.{flat_plain, pointer_after}
use Rattle.domain_compress.specs.Written.{StandsThrough}

reads_inside : {m : List ℕ} {p k : ℕ} {ls : List (List ℕ)} → Reads m p k ls → p < length m
reads_inside (root x) = x.inside
reads_inside (label x r) = omega (arith, x.inside)
reads_inside (pointer x lt r) = omega (arith, x.inside)

-- Labels and what is read after them.
flat_reads : {m : List ℕ} {r k : ℕ} {ls : List (List ℕ)} (a : List (List ℕ)) (p : ℕ) → LabelRun m p a r → Reads m r k ls → Reads m p k (a ++ ls)
flat_reads {m} {k = k} {ls} [] p f r = subst (λ q. Reads m q k ls) (sym f) r
flat_reads (l ∷ a) p f r = label f.0 (flat_reads a (p + 1 + length l) f.1 r)

-- One pointer more leads along what is read after t.
through_pointer : (t : List ℕ) (a b : List (List ℕ)) (p k : ℕ) → IsRelative a → (s : StandsThrough t p b k) → Reads (t ++ (wire a ++ pointer_to p)) (length t) (suc k) (a ++ s.labels)
through_pointer t a b p k rel s =
    flat_reads a (length t) (flat_plain a t (pointer_to p) rel) (pointer (pointer_after t a p) (omega (arith, reads_inside s.reads)) (reads_more (wire a ++ pointer_to p) s.reads))

pub pointed_read : (t : List ℕ) (ls a b : List (List ℕ)) (p k : ℕ) → IsAbsoluteName ls → ls ≡ a ++ b → IsRelative a → StandsThrough t p b k → k < 255 → IsRead t ls a p
pointed_read t ls a b p k name parts rel s few =
    let same : lowercase_labels (a ++ s.labels) ≡ lowercase_labels ls = map-append lowercase a s.labels ∙ (ap (λ x. lowercase_labels a ++ x) s.same ∙ (sym (map-append lowercase a b) ∙ ap lowercase_labels (sym parts))) in
    let size : length (wire (a ++ s.labels)) ≡ length (wire ls) = sym (lowercase_size (a ++ s.labels)) ∙ (ap (λ x. length (wire x)) same ∙ lowercase_size ls) in
    (a ++ s.labels, record { pointers = suc k; reads = through_pointer t a b p k rel s; few_pointers = omega (arith, few); short = omega (arith, size, name.1) }, same)

-- One pointer too many.
pub pointed_unread : (t : List ℕ) (ls a b : List (List ℕ)) (p k : ℕ) → IsRelative a → StandsThrough t p b k → k ≡ 255 → IsRead t ls a p → ⊥
pointed_unread t ls a b p k rel s many read =
    omega (arith, (reads_once (through_pointer t a b p k rel s) read.1.reads).0, read.1.few_pointers, many)
