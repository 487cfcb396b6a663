-- What is composed for a question or a record is read back (RFC 1035, 4.1.2 and 4.1.3), whatever follows it.
use Rattle.std.specs.Prelude.{◌≡◌, ℕ, ◌+◌, ◌-◌, ◌^◌, ◌<◌, ◌≤◌, Bool, List, ◌++◌, length, take, drop, slice_range}
use Rattle.std.specs.Int.{w16, w32, from_be_bytes, to_be_bytes}
use Rattle.std.proofs.Common.{arith, ap, sym, subst, refl, ◌∙◌, append_assoc, length-append}
use Rattle.std.proofs.Math.Seq.{take-append_seam, drop-append_seam}
use Rattle.std.proofs.lemmas.Nat.{from_be_bytes-to_be_bytes_2, from_be_bytes-to_be_bytes_4}
use Rattle.domain_label.specs.Lowercase.{lowercase_labels}
use Rattle.domain_rdata.specs.RecordData.{NameOctets}
use Rattle.domain_reading.proofs.Encodings.{ends_more}
use Rattle.domain_reading.proofs.Reading.{names_more}
use Rattle.domain_header.specs.Numbers.{number16, number32}
use Rattle.domain_message.specs.Composing.{type_and_class, QuestionOctets, RecordOctets}
use Rattle.domain_message.specs.Entries.{WholeNameAt, QuestionFields, QuestionAt, RecordHeaderAt, RecordAt}

-- A name that was composed is read back as an equal name, ignoring ASCII case.
pub name_reads_back : (ls : List (List ℕ)) (b : Bool) (t s u : List ℕ) → NameOctets ls b t s
    → (c : List (List ℕ)) × WholeNameAt (t ++ s ++ u) (length t) c (length t + length s)
    × (lowercase_labels c ≡ lowercase_labels ls)
name_reads_back ls b t s u done = (
  done.read.stands.0,
  record {
    labels = names_more u done.read.stands.1;
    encoding = ends_more (t ++ s) (length t) (length t + length s) u done.read.ends;
  },
  done.read.stands.2,
)

slice_after : (a b c : List ℕ) (p e : ℕ) → p ≡ length a → e ≡ length a + length b
    → slice_range (a ++ (b ++ c)) p e ≡ b
slice_after a b c p e start end =
    let k : e - p ≡ length b = omega (arith, start, end) in
    let d : drop p (a ++ (b ++ c)) ≡ b ++ c = ap (λ n. drop n (a ++ (b ++ c))) start ∙ drop-append_seam a (b ++ c) in
    ap (λ j. take j (drop p (a ++ (b ++ c)))) k
    ∙ (ap (λ xs. take (length b) xs) d ∙ take-append_seam b c)

-- a number that was composed is read back
number16_after : (a c : List ℕ) (p n : ℕ) → p ≡ length a → n < 2 ^ 16
    → number16 (a ++ (to_be_bytes w16 n ++ c)) p ≡ n
number16_after a c p n start small =
    ap (from_be_bytes w16) (slice_after a (to_be_bytes w16 n) c p (p + 2) start
    (ap (λ k. k + 2) start)) ∙ from_be_bytes-to_be_bytes_2 n small

-- A question that was composed is read back: an equal name, ignoring ASCII case, and its type and class.
pub question_reads_back : (name : List (List ℕ)) (rtype class : ℕ) (b : Bool) (t s u : List ℕ)
    → rtype < 2 ^ 16 → class < 2 ^ 16 → QuestionOctets name rtype class b t s
    → (c : List (List ℕ)) × QuestionAt (t ++ s ++ u) (length t)
    (record { name = c; rtype = rtype; class = class }) (length t + length s)
    × (lowercase_labels c ≡ lowercase_labels name)
question_reads_back name rtype class b t s u small_type small_class done =
    let rest = type_and_class rtype class ++ u in
    let named : (c : List (List ℕ)) × WholeNameAt (t ++ done.named ++ rest) (length t) c (length t + length done.named) × (lowercase_labels c ≡ lowercase_labels name) = name_reads_back name b t done.named rest done.name_allowed in
    let e = length t + length done.named in
    let before = t ++ done.named in
    let sized : e ≡ length before = sym (length-append t done.named) in
    let types : before ++ rest ≡ before ++ (to_be_bytes w16 rtype ++ (to_be_bytes w16 class ++ u)) = ap (λ x. before ++ x) (append_assoc (to_be_bytes w16 rtype) (to_be_bytes w16 class) u) in
    let classes : before ++ rest ≡ before ++ to_be_bytes w16 rtype ++ (to_be_bytes w16 class ++ u) = types ∙ sym (append_assoc before (to_be_bytes w16 rtype) (to_be_bytes w16 class ++ u)) in
    let rtype_is : rtype ≡ number16 (before ++ rest) e = sym (ap (λ m. number16 m e) types ∙ number16_after before (to_be_bytes w16 class ++ u) e rtype sized small_type) in
    let after : e + 2 ≡ length (before ++ to_be_bytes w16 rtype) = omega (arith, sized, length-append before (to_be_bytes w16 rtype)) in
    let class_is : class ≡ number16 (before ++ rest) (e + 2) = sym (ap (λ m. number16 m (e + 2)) classes ∙ number16_after (before ++ to_be_bytes w16 rtype) u (e + 2) class after small_class) in
    let size : length s ≡ length done.named + 4 = omega (arith, ap length done.all, length-append done.named (type_and_class rtype class)) in
    let inside : e + 4 ≤ length (before ++ rest) = omega (arith, sized, length-append before rest, length-append (type_and_class rtype class) u) in
    let it : QuestionFields = record { name = named.0; rtype = rtype; class = class } in
    let end : length t + length s ≡ e + 4 = omega (arith, size) in
    let at : QuestionAt (before ++ rest) (length t) it (length t + length s) = record { name_end = e; name = named.1; rtype = rtype_is; class = class_is; inside = inside; end = end } in
    let whole : before ++ rest ≡ t ++ s ++ u = append_assoc t done.named rest ∙ (ap (λ x. t ++ x) (sym (append_assoc done.named (type_and_class rtype class) u)) ∙ (ap (λ x. t ++ (x ++ u)) (sym done.all) ∙ sym (append_assoc t s u))) in
    (named.0, subst (λ m. QuestionAt m (length t) it (length t + length s)) whole at, named.2)

number32_after : (a c : List ℕ) (p n : ℕ) → p ≡ length a → n < 2 ^ 32
    → number32 (a ++ (to_be_bytes w32 n ++ c)) p ≡ n
number32_after a c p n start small =
    ap (from_be_bytes w32) (slice_after a (to_be_bytes w32 n) c p (p + 4) start
    (ap (λ k. k + 4) start)) ∙ from_be_bytes-to_be_bytes_4 n small

-- A record that was composed is read back: an equal owner's name, ignoring ASCII case, its type, class and TTL, and as
-- many octets of data as were composed.
pub record_reads_back : (owner : List (List ℕ)) (rtype class ttl : ℕ)
    (May : List ℕ → List ℕ → Type 0) (b : Bool) (t s u : List ℕ) → rtype < 2 ^ 16 → class < 2 ^ 16
    → ttl < 2 ^ 32 → (done : RecordOctets owner rtype class ttl May b t s)
    → (c : List (List ℕ)) × RecordAt (t ++ s ++ u) (length t)
    (record {
      header = record {
        owner = c;
        rtype = rtype;
        class = class;
        ttl = ttl;
        rdlen = length done.rdata;
      };
      start = length t + length done.named + 10;
      octets = take (length t + length s) (t ++ s ++ u);
    }) (length t + length s)
    × (lowercase_labels c ≡ lowercase_labels owner)
record_reads_back owner rtype class ttl May b t s u small_type small_class small_ttl done =
    let r = to_be_bytes w16 rtype in
    let k = to_be_bytes w16 class in
    let l = to_be_bytes w32 ttl in
    let n = to_be_bytes w16 (length done.rdata) in
    let data_and : List ℕ = done.rdata ++ u in
    let rest = r ++ (k ++ (l ++ (n ++ data_and))) in
    let before = t ++ done.named in
    let named : (c : List (List ℕ)) × WholeNameAt (before ++ rest) (length t) c (length t + length done.named) × (lowercase_labels c ≡ lowercase_labels owner) = name_reads_back owner b t done.named rest done.name_allowed in
    let e = length t + length done.named in
    let at1 : e ≡ length before = sym (length-append t done.named) in
    let at2 : e + 2 ≡ length (before ++ r) = omega (arith, at1, length-append before r) in
    let at3 : e + 4 ≡ length (before ++ r ++ k) = omega (arith, at2, length-append (before ++ r) k) in
    let at4 : e + 8 ≡ length (before ++ r ++ k ++ l) = omega (arith, at3, length-append (before ++ r ++ k) l) in
    let whole2 : before ++ rest ≡ before ++ r ++ (k ++ (l ++ (n ++ data_and))) = sym (append_assoc before r (k ++ (l ++ (n ++ data_and)))) in
    let whole3 : before ++ rest ≡ before ++ r ++ k ++ (l ++ (n ++ data_and)) = whole2 ∙ sym (append_assoc (before ++ r) k (l ++ (n ++ data_and))) in
    let whole4 : before ++ rest ≡ before ++ r ++ k ++ l ++ (n ++ data_and) = whole3 ∙ sym (append_assoc (before ++ r ++ k) l (n ++ data_and)) in
    let rtype_is : rtype ≡ number16 (before ++ rest) e = sym (number16_after before (k ++ (l ++ (n ++ data_and))) e rtype at1 small_type) in
    let class_is : class ≡ number16 (before ++ rest) (e + 2) = sym (ap (λ m. number16 m (e + 2)) whole2 ∙ number16_after (before ++ r) (l ++ (n ++ data_and)) (e + 2) class at2 small_class) in
    let ttl_is : ttl ≡ number32 (before ++ rest) (e + 4) = sym (ap (λ m. number32 m (e + 4)) whole3 ∙ number32_after (before ++ r ++ k) (n ++ data_and) (e + 4) ttl at3 small_ttl) in
    let small_length : length done.rdata < 2 ^ 16 = omega (arith, done.few) in
    let length_is : length done.rdata ≡ number16 (before ++ rest) (e + 8) = sym (ap (λ m. number16 m (e + 8)) whole4 ∙ number16_after (before ++ r ++ k ++ l) data_and (e + 8) (length done.rdata) at4 small_length) in
    let whole : before ++ rest ≡ t ++ s ++ u = sym (ap (λ x. t ++ x ++ u) done.all ∙ simp append_assoc) in
    let long : length (before ++ rest) ≡ e + 10 + length done.rdata + length u = omega (arith, at4, ap length whole4, length-append (before ++ r ++ k ++ l) (n ++ data_and), length-append n data_and, length-append done.rdata u) in
    let total : length (before ++ rest) ≡ length t + length s + length u = omega (arith, ap length whole, length-append (t ++ s) u, length-append t s) in
    let head : RecordHeaderAt (before ++ rest) (length t) (record { owner = named.0; rtype = rtype; class = class; ttl = ttl; rdlen = length done.rdata }) (e + 10) =
    record {
      name_end = e;
      name = named.1;
      rtype = rtype_is;
      class = class_is;
      ttl = ttl_is;
      rdlen = length_is;
      inside = omega (arith, long);
      end = refl;
    } in
    let inside : e + 10 + length done.rdata ≤ length (t ++ s ++ u) = omega (arith, long, ap length whole) in
    let end : length t + length s ≡ e + 10 + length done.rdata = omega (arith, long, total) in (
      named.0,
      record {
        header = subst (λ m. RecordHeaderAt m (length t)
            (record {
              owner = named.0;
              rtype = rtype;
              class = class;
              ttl = ttl;
              rdlen = length done.rdata;
            }) (e + 10)) whole head;
        inside = inside;
        end = end;
        octets = refl;
      },
      named.2,
    )
