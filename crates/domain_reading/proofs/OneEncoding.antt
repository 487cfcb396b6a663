-- The front of a name, its base, and passing over it: each is one.
use Rattle.std.proofs.Common.{◌≡◌, ℕ, ◌+◌, ◌≤◌, inl, inr, List, [], ◌∷◌, ◌++◌, length, refl, sym, ap, subst, arith, ◌∙◌, append_assoc, length-append}
use Rattle.domain_label.specs.Wire.{wire}
use Rattle.domain_reading.specs.Grammar.{LabelAt, Reads, Names, LabelRun, Stop, StopAt, Encoding, FirstLabelAt, IsContiguous}
use Rattle.domain_reading.specs.Grammar.Reads.{root as reads_root, label as reads_label, pointer as reads_pointer}
use Rattle.domain_reading.specs.Grammar.Stop.{root as stop_root, pointer as stop_pointer}
use Rattle.domain_reading.specs.Grammar.FirstLabelAt.{here, past}
use Rattle.domain_reading.specs.Faults.{stop_len, Skips, SkipFault, SkipFaultAt}
use Rattle.domain_reading.specs.declared.fault.NameFault.{NameFault}
use Rattle.domain_reading.specs.declared.fault.NameFault.TheVariants.{ShortInput, BadLabelType, TooManyPointers, LongName}
use Rattle.domain_label.proofs.WireLaws.{length-wire_append}
use Rattle.domain_reading.proofs.Reading.{label_once, pointer_once}

-- ---- the front is one

stop_not_label : {m : List ℕ} {r : ℕ} {l : List ℕ} (e : ℕ) (c : Stop) → StopAt m r c e → LabelAt m r l → ⊥
stop_not_label e stop_root s x = omega (arith, s.0.octet, x.head, x.nonempty)
stop_not_label e (stop_pointer q) s x = omega (arith, s.0.head, x.head, x.short)

stop_once : (m : List ℕ) (r : ℕ) (c d : Stop) (e f : ℕ) → StopAt m r c e → StopAt m r d f → (c ≡ d) × (e ≡ f)
stop_once m r stop_root stop_root e f a b = (refl, a.1 ∙ sym b.1)
stop_once m r stop_root (stop_pointer q) e f a b = absurd (omega (arith, a.0.octet, b.0.head))
stop_once m r (stop_pointer q) stop_root e f a b = absurd (omega (arith, b.0.octet, a.0.head))
stop_once m r (stop_pointer q) (stop_pointer s) e f a b = (ap (λ q. stop_pointer q) (pointer_once a.0 b.0), a.1 ∙ sym b.1)

front_from : (m : List ℕ) (r s e f : ℕ) (c d : Stop) (fs gs : List (List ℕ)) (p : ℕ) → LabelRun m p fs r → StopAt m r c e → LabelRun m p gs s → StopAt m s d f → (fs ≡ gs) × (c ≡ d) × (e ≡ f)
front_from m r s e f c d [] [] p a x b y =
    let same = stop_once m p c d e f (subst (λ q. StopAt m q c e) (sym a) x) (subst (λ q. StopAt m q d f) (sym b) y) in
    (refl, same.0, same.1)
front_from m r s e f c d [] (g ∷ gs) p a x b y = absurd (stop_not_label e c x (subst (λ q. LabelAt m q g) a b.0))
front_from m r s e f c d (g ∷ fs) [] p a x b y = absurd (stop_not_label f d y (subst (λ q. LabelAt m q g) b a.0))
front_from m r s e f c d (g ∷ fs) (h ∷ gs) p a x b y =
    let same = label_once a.0 b.0 in
    let rest = front_from m r s e f c d fs gs (p + 1 + length h) (subst (λ l. LabelRun m (p + 1 + length l) fs r) same a.1) x b.1 y in
    (cc (same, rest.0), rest.1, rest.2)

pub front_once : {m : List ℕ} {p e f : ℕ} {fs gs : List (List ℕ)} {c d : Stop} → Encoding m p fs c e → Encoding m p gs d f → (fs ≡ gs) × (c ≡ d) × (e ≡ f)
front_once {m} {p} {e} {f} {fs} {gs} {c} {d} a b = front_from m _ _ e f c d fs gs p a.run a.ends b.run b.ends

-- ---- the base is one

pub base_once : {m : List ℕ} {p b c : ℕ} → FirstLabelAt m p b → FirstLabelAt m p c → b ≡ c
base_once (here x) (here y) = refl
base_once (here x) (past {q = q} y lt b) = absurd (omega (arith, x q y))
base_once (past {q = q} x lt a) (here y) = absurd (omega (arith, y q x))
base_once {m} {c = c} (past x lt a) (past y lu b) = base_once a (subst (λ q. FirstLabelAt m q c) (pointer_once y x) b)

-- a name whose front, from its base, ends in a pointer does not lie in one piece
pub not_in_one_piece : {m : List ℕ} {p b q e : ℕ} {fs : List (List ℕ)} → FirstLabelAt m p b → Encoding m b fs (stop_pointer q) e → IsContiguous m p → ⊥
not_in_one_piece {m} {b = b} a x (c, gs, f, d, y) =
    let same = front_once x (subst (λ b. Encoding m b gs stop_root f) (base_once d a) y) in
    let no : stop_pointer _ ≡ stop_root = same.1 in
    cc

-- ---- passing over a name: there is a front or a fault, never both, and the fault is one

-- each read name has a front, of no more octets
pub record NameFront (m : List ℕ) (p : ℕ) (ls : List (List ℕ)) : Type 0 where
  pub labels : List (List ℕ)
  pub stop : Stop
  pub end : ℕ
  pub front : Encoding m p labels stop end
  pub short : length (wire labels) + stop_len stop ≤ length (wire ls)

pub front_of : {m : List ℕ} {p k : ℕ} {ls : List (List ℕ)} → Reads m p k ls → NameFront m p ls
front_of {p = p} (reads_root x) = record { labels = []; stop = stop_root; end = p + 1; front = record { stop = p; run = refl; ends = (x, refl) }; short = omega arith }
front_of (reads_label {l = l} {rest = rest} x r) =
    let f = front_of r in
    record {
      labels = l ∷ f.labels;
      stop = f.stop;
      end = f.end;
      front = record { stop = f.front.stop; run = (x, f.front.run); ends = f.front.ends };
      short = omega (arith, f.short, length-append l (wire rest), length-append l (wire f.labels));
    }
front_of {p = p} (reads_pointer {q = q} x lt r) = record { labels = []; stop = stop_pointer q; end = p + 2; front = record { stop = p; run = refl; ends = (x, refl) }; short = omega arith }

pub names_skips : {n : ℕ} {m : List ℕ} {p : ℕ} {ls : List (List ℕ)} → Names n m p ls → (e : ℕ) × Skips m p e
names_skips x =
    let f = front_of x.reads in
    (f.end, record { passed = f.labels; stop = f.stop; front = f.front; short = omega (arith, f.short, x.short) })

-- a skip that has one outcome: where a fault is, no stop and no label that fits
fault_not_stop : (m : List ℕ) (r e : ℕ) (gs : List (List ℕ)) (c : Stop) (fault : NameFault) → StopAt m r c e → length (wire gs) + stop_len c ≤ 255 → SkipFaultAt m gs r fault → ⊥
fault_not_stop m r e gs stop_root ShortInput s short f = grind (arith, s.0.octet, s.0.inside)
fault_not_stop m r e gs stop_root BadLabelType s short f = omega (arith, s.0.octet)
fault_not_stop m r e gs stop_root TooManyPointers s short f = f
fault_not_stop m r e gs stop_root LongName s short f = elim f [ inl a ↦ omega (arith, a.1) | inr b ↦ stop_not_label e stop_root s b.1 ]
fault_not_stop m r e gs (stop_pointer q) ShortInput s short f = grind (arith, s.0.head, s.0.inside)
fault_not_stop m r e gs (stop_pointer q) BadLabelType s short f = omega (arith, s.0.head)
fault_not_stop m r e gs (stop_pointer q) TooManyPointers s short f = f
fault_not_stop m r e gs (stop_pointer q) LongName s short f = elim f [ inl a ↦ omega (arith, a.0.octet, s.0.head) | inr b ↦ stop_not_label e (stop_pointer q) s b.1 ]

fault_not_label : {m : List ℕ} {r : ℕ} {l : List ℕ} (gs : List (List ℕ)) (fault : NameFault) → LabelAt m r l → length (wire gs) + 1 + length l ≤ 255 → SkipFaultAt m gs r fault → ⊥
fault_not_label gs ShortInput x short f = grind (arith, x.head, x.inside, x.short)
fault_not_label gs BadLabelType x short f = omega (arith, x.head, x.short)
fault_not_label gs TooManyPointers x short f = f
fault_not_label gs LongName x short f = elim f [ inl a ↦ omega (arith, a.0.octet, x.head, x.nonempty) | inr b ↦ omega (arith, b.2, ap (λ l. length l) (label_once b.1 x)) ]

-- `done` are the labels that were passed on the way to p
skips_from_not : (m : List ℕ) (r s e : ℕ) (done fs gs : List (List ℕ)) (c : Stop) (fault : NameFault) (p : ℕ) → LabelRun m p fs r → StopAt m r c e → length (wire (done ++ fs)) + stop_len c ≤ 255 → LabelRun m p gs s → SkipFaultAt m (done ++ gs) s fault → ⊥
skips_from_not m r s e done [] [] c fault p a x short b f =
    fault_not_stop m p e (done ++ []) c fault (subst (λ q. StopAt m q c e) (sym a) x) short (subst (λ q. SkipFaultAt m (done ++ []) q fault) (sym b) f)
skips_from_not m r s e done [] (g ∷ gs) c fault p a x short b f = stop_not_label e c x (subst (λ q. LabelAt m q g) a b.0)
skips_from_not m r s e done (l ∷ fs) [] c fault p a x short b f =
    fault_not_label (done ++ []) fault a.0 (omega (arith, short, length-wire_append done (l ∷ fs), length-wire_append done [], length-append l (wire fs))) (subst (λ q. SkipFaultAt m (done ++ []) q fault) (sym b) f)
skips_from_not m r s e done (l ∷ fs) (g ∷ gs) c fault p a x short b f =
    let same = label_once a.0 b.0 in
    let flat = subst (λ l. LabelRun m (p + 1 + length l) fs r) same a.1 in
    let len : length (wire ((done ++ g ∷ []) ++ fs)) ≡ length (wire (done ++ l ∷ fs)) = ap (λ xs. length (wire xs)) (append_assoc done (g ∷ []) fs ∙ ap (λ l. done ++ l ∷ fs) (sym same)) in
    skips_from_not m r s e (done ++ g ∷ []) fs gs c fault (p + 1 + length g) flat x (omega (arith, len, short)) b.1 (subst (λ xs. SkipFaultAt m xs s fault) (sym (append_assoc done (g ∷ []) gs)) f)

pub skips_not_both : {m : List ℕ} {p e : ℕ} {fault : NameFault} → Skips m p e → SkipFault m p fault → ⊥
skips_not_both {p = p} {e} {fault} s f = skips_from_not _ _ _ e [] s.passed f.passed s.stop fault p s.front.run s.front.ends s.short f.run f.at

skip_fault_once : (m : List ℕ) (r : ℕ) (fs : List (List ℕ)) (d e : NameFault) → SkipFaultAt m fs r d → SkipFaultAt m fs r e → d ≡ e
skip_fault_once m r fs ShortInput ShortInput f g = refl
skip_fault_once m r fs ShortInput BadLabelType f g = absurd (grind (arith, g.0, g.1, g.2))
skip_fault_once m r fs ShortInput LongName f g = elim g [ inl a ↦ absurd (grind (arith, a.0.octet, a.0.inside)) | inr b ↦ absurd (grind (arith, b.1.inside, b.1.head, b.1.short)) ]
skip_fault_once m r fs BadLabelType ShortInput f g = absurd (grind (arith, f.0, f.1, f.2))
skip_fault_once m r fs BadLabelType BadLabelType f g = refl
skip_fault_once m r fs BadLabelType LongName f g = elim g [ inl a ↦ absurd (omega (arith, a.0.octet, f.1)) | inr b ↦ absurd (omega (arith, b.1.head, b.1.short, f.1)) ]
skip_fault_once m r fs LongName ShortInput f g = elim f [ inl a ↦ absurd (grind (arith, a.0.octet, a.0.inside)) | inr b ↦ absurd (grind (arith, b.1.inside, b.1.head, b.1.short)) ]
skip_fault_once m r fs LongName BadLabelType f g = elim f [ inl a ↦ absurd (omega (arith, a.0.octet, g.1)) | inr b ↦ absurd (omega (arith, b.1.head, b.1.short, g.1)) ]
skip_fault_once m r fs LongName LongName f g = refl
skip_fault_once m r fs TooManyPointers e f g = absurd f
skip_fault_once m r fs d TooManyPointers f g = absurd g

skip_faults_from : (m : List ℕ) (r s : ℕ) (done fs gs : List (List ℕ)) (d e : NameFault) (p : ℕ) → LabelRun m p fs r → SkipFaultAt m (done ++ fs) r d → length (wire (done ++ fs)) ≤ 255 → LabelRun m p gs s → SkipFaultAt m (done ++ gs) s e → length (wire (done ++ gs)) ≤ 255 → d ≡ e
skip_faults_from m r s done [] [] d e p a f some b g more =
    skip_fault_once m p (done ++ []) d e (subst (λ q. SkipFaultAt m (done ++ []) q d) (sym a) f) (subst (λ q. SkipFaultAt m (done ++ []) q e) (sym b) g)
skip_faults_from m r s done [] (l ∷ gs) d e p a f some b g more =
    absurd (fault_not_label (done ++ []) d b.0 (omega (arith, more, length-wire_append done (l ∷ gs), length-wire_append done [], length-append l (wire gs))) (subst (λ q. SkipFaultAt m (done ++ []) q d) (sym a) f))
skip_faults_from m r s done (l ∷ fs) [] d e p a f some b g more =
    absurd (fault_not_label (done ++ []) e a.0 (omega (arith, some, length-wire_append done (l ∷ fs), length-wire_append done [], length-append l (wire fs))) (subst (λ q. SkipFaultAt m (done ++ []) q e) (sym b) g))
skip_faults_from m r s done (l ∷ fs) (h ∷ gs) d e p a f some b g more =
    let same = label_once a.0 b.0 in
    let flat = subst (λ l. LabelRun m (p + 1 + length l) fs r) same a.1 in
    let left : done ++ l ∷ fs ≡ (done ++ h ∷ []) ++ fs = ap (λ l. done ++ l ∷ fs) same ∙ sym (append_assoc done (h ∷ []) fs) in
    let right : done ++ h ∷ gs ≡ (done ++ h ∷ []) ++ gs = sym (append_assoc done (h ∷ []) gs) in
    skip_faults_from m r s (done ++ h ∷ []) fs gs d e (p + 1 + length h) flat (subst (λ xs. SkipFaultAt m xs r d) left f) (subst (λ xs. length (wire xs) ≤ 255) left some) b.1 (subst (λ xs. SkipFaultAt m xs s e) right g) (subst (λ xs. length (wire xs) ≤ 255) right more)

pub one_skip_fault : {m : List ℕ} {p : ℕ} {d e : NameFault} → SkipFault m p d → SkipFault m p e → d ≡ e
one_skip_fault {p = p} {d} {e} f g = skip_faults_from _ _ _ [] f.passed g.passed d e p f.run f.at f.short g.run g.at g.short
