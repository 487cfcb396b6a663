-- Entries that were composed one after the other.
use Rattle.std.proofs.Common.{◌≡◌, ℕ, ◌+◌, Bool, List, [], ◌∷◌, ◌++◌, length, take, drop, refl, sym, ap, subst, arith, ◌∙◌, append_assoc, append-nil, length-append}
use Rattle.std.proofs.Math.Seq.{take-append_seam, drop-append-add}
use Rattle.std.specs.Int.{w16, to_be_bytes}
use Rattle.domain_message.specs.Composing.{before_length}
use Rattle.domain_message.specs.Entries.{QuestionFields}
use Rattle.domain_message.specs.ReadsBack.{question_reads_back, record_reads_back}
use Rattle.domain_message.specs.Sections.{Run}
use Rattle.domain_message_builder.specs.Contents.{blank_header, PushedRecord, Composed, QuestionMay, RecordMay}
use Rattle.domain_message_builder.specs.Reading.{QuestionReadAt, RecordReadAt}
use Rattle.domain_message_builder.proofs.Blank.{name_under}

-- an entry after others
pub composed_and : {V : Type 0} (May : V → List ℕ → List ℕ → Type 0) (t u s : List ℕ) (xs : List V) (x : V) → Composed May t xs u → May x u s → Composed May t (xs ++ x ∷ []) (u ++ s)
composed_and May t u s [] x all may = (s, subst (λ o. May x o s) all may, ap (λ o. o ++ s) all)
composed_and May t u s (y ∷ xs) x all may = (all.0, all.1, composed_and May (t ++ all.0) u s xs x all.2 may)

-- what was composed is after the octets before it
pub composed_after : {V : Type 0} (May : V → List ℕ → List ℕ → Type 0) (t u : List ℕ) (xs : List V) → Composed May t xs u → (s : List ℕ) × (u ≡ t ++ s)
composed_after May t u [] all = ([], all ∙ sym (append-nil t))
composed_after May t u (x ∷ xs) all =
    let rest = composed_after May (t ++ all.0) u xs all.2 in
    (all.0 ++ rest.0, rest.1 ∙ append_assoc t all.0 rest.0)

-- The same entries stand after another header of twelve octets, as `Under` tells each of them.
pub composed_under : {V : Type 0} (May Under : V → List ℕ → List ℕ → Type 0) (h : List ℕ) → ((x : V) (b s : List ℕ) → May x (blank_header ++ b) s → Under x (h ++ b) s)
    → (xs : List V) (t b u : List ℕ) → t ≡ blank_header ++ b → Composed May t xs u → (c : List ℕ) × (u ≡ blank_header ++ c) × Composed Under (h ++ b) xs (h ++ c)
composed_under May Under h any [] t b u begins all = (b, all ∙ begins, refl)
composed_under May Under h any (x ∷ xs) t b u begins all =
    let s = all.0 in
    let next : t ++ s ≡ blank_header ++ (b ++ s) = ap (λ o. o ++ s) begins ∙ append_assoc blank_header b s in
    let rest = composed_under May Under h any xs (t ++ s) (b ++ s) u next all.2 in
    (rest.0, rest.1, (s, any x b s (subst (λ o. May x o s) begins all.1), subst (λ o. Composed Under o xs (h ++ rest.0)) (sym (append_assoc h b s)) rest.2))

pub question_under : (c : Bool) (h : List ℕ) → length h ≡ 12 → (q : QuestionFields) (b s : List ℕ) → QuestionMay c q (blank_header ++ b) s → QuestionMay c q (h ++ b) s
question_under c h twelve q b s may = record {
  small_type = may.small_type;
  small_class = may.small_class;
  octets = record { named = may.octets.named; name_allowed = name_under h b q.name c may.octets.named twelve may.octets.name_allowed; all = may.octets.all };
}

pub record_under : (c : Bool) (h : List ℕ) → length h ≡ 12 → (r : PushedRecord) (b s : List ℕ) → RecordMay c r (blank_header ++ b) s → RecordMay c r (h ++ b) s
record_under c h twelve r b s may = record {
  small_type = may.small_type;
  small_class = may.small_class;
  small_ttl = may.small_ttl;
  octets = record {
    named = may.octets.named;
    name_allowed = name_under h b r.head.owner c may.octets.named twelve may.octets.name_allowed;
    rdata = may.octets.rdata;
    few = may.octets.few;
    data_allowed = may.octets.data_allowed;
    all = may.octets.all;
  };
}

-- What was composed is read, whatever follows.
pub composed_reads : {V : Type 0} (May : V → List ℕ → List ℕ → Type 0) (At : List ℕ → ℕ → V → ℕ → Type 0) → ((x : V) (t s v : List ℕ) → May x t s → At (t ++ s ++ v) (length t) x (length t + length s))
    → (xs : List V) (t u v : List ℕ) → Composed May t xs u → Run At (u ++ v) (length t) xs (length u)
composed_reads May At reads [] t u v all = ap length all
composed_reads May At reads (x ∷ xs) t u v all =
    let s = all.0 in
    let rest = composed_after May (t ++ s) u xs all.2 in
    let whole : t ++ s ++ (rest.0 ++ v) ≡ u ++ v = sym (append_assoc (t ++ s) rest.0 v) ∙ ap (λ o. o ++ v) (sym rest.1) in
    let on = composed_reads May At reads xs (t ++ s) u v all.2 in
    (length t + length s, subst (λ m. At m (length t) x (length t + length s)) whole (reads x t s (rest.0 ++ v) all.1), subst (λ p. Run At (u ++ v) p xs (length u)) (length-append t s) on)

pub question_read : (c : Bool) (q : QuestionFields) (t s v : List ℕ) → QuestionMay c q t s → QuestionReadAt (t ++ s ++ v) (length t) q (length t + length s)
question_read c q t s v may =
    let back = question_reads_back q.name q.rtype q.class c t s v may.small_type may.small_class may.octets in
    record { name = back.0; at = back.1; same = back.2 }

-- The data is what follows the other parts of the record.
data_there : (t n w d s v : List ℕ) (p : ℕ) → length w ≡ 10 → s ≡ n ++ (w ++ d) → p ≡ length t + length n + 10 → drop p (take (length t + length s) (t ++ s ++ v)) ≡ d
data_there t n w d s v p ten all start =
    let cut : take (length t + length s) (t ++ s ++ v) ≡ t ++ s = subst (λ k. take k (t ++ s ++ v) ≡ t ++ s) (length-append t s) (take-append_seam (t ++ s) v) in
    let parts : t ++ s ≡ (t ++ n ++ w) ++ d = ap (λ o. t ++ o) all ∙ (sym (append_assoc t n (w ++ d)) ∙ sym (append_assoc (t ++ n) w d)) in
    let at : p ≡ length (t ++ n ++ w) + 0 = omega (arith, start, ten, length-append (t ++ n) w, length-append t n) in
    ap (λ o. drop p o) (cut ∙ parts) ∙ (ap (λ k. drop k ((t ++ n ++ w) ++ d)) at ∙ drop-append-add (t ++ n ++ w) d 0)

pub record_read : (c : Bool) (r : PushedRecord) (t s v : List ℕ) → RecordMay c r t s → RecordReadAt (t ++ s ++ v) (length t) r (length t + length s)
record_read c r t s v may =
    let done = may.octets in
    let back = record_reads_back r.head.owner r.head.rtype r.head.class r.head.ttl (λ before data_octets. data_octets ≡ r.rdata) c t s v may.small_type may.small_class may.small_ttl done in
    let w = before_length r.head.rtype r.head.class r.head.ttl ++ to_be_bytes w16 (length done.rdata) in
    let parts : s ≡ done.named ++ (w ++ done.rdata) = done.all ∙ ap (λ o. done.named ++ o) (sym (append_assoc (before_length r.head.rtype r.head.class r.head.ttl) (to_be_bytes w16 (length done.rdata)) done.rdata)) in
    record {
      it = _;
      at = back.1;
      owner = back.2;
      rtype = refl;
      class = refl;
      ttl = refl;
      rdlen = ap length done.data_allowed;
      data_is = data_there t done.named w done.rdata s v (length t + length done.named + 10) refl parts refl ∙ done.data_allowed;
    }
