-- At each offset is one question or one error, and one record or one error, never both.
use Rattle.std.specs.Prelude.{◌≡◌, ℕ, ◌+◌, ◌<◌, ◌≤◌, ◌⊎◌, List, length, take}
use Rattle.std.proofs.Common.{arith, ap, sym, refl, inl, inr, ◌∙◌}
use Rattle.domain_wire.specs.declared.error.ParseError.{ParseError}
use Rattle.domain_wire.specs.Refusals.{refusal}
use Rattle.domain_wire.specs.Values.{IsReading}
use Rattle.domain_reading.specs.Limits.{max_pointers}
use Rattle.domain_reading.proofs.Reading.{reads_once}
use Rattle.std.proofs.lemmas.Bool.{cases_lt}
use Rattle.domain_reading.proofs.NameOrFault.{names_or_fault, one_fault, name_or_fault, NameOrFault}
use Rattle.domain_reading.proofs.Encodings.{front_inside}
use Rattle.domain_reading.proofs.OneEncoding.{front_once, names_skips}
use Rattle.domain_reading.specs.Faults.{error_of}
use Rattle.domain_message.specs.Entries.{WholeNameAt, NoNameBefore, QuestionFields, QuestionAt, NoQuestion, HeaderFields, RecordHeaderAt, NoRecordHeader, RecordFields, RecordAt, NoRecord}
use Rattle.domain_message.specs.Entries.NoRecord.{no_header, no_data}
use Rattle.domain_header.specs.Numbers.{number16, number32}
use Rattle.domain_message.specs.Entries.NoNameBefore.{no_name, too_short}

pub name_once : {m : List ℕ} {p : ℕ} {xs ys : List (List ℕ)} {e f : ℕ} → WholeNameAt m p xs e
    → WholeNameAt m p ys f → (xs ≡ ys) × (e ≡ f)
name_once a b =
    ((reads_once a.labels.reads b.labels.reads).1, (front_once a.encoding.2 b.encoding.2).2)

-- a name followed by n octets is at p, or is not
pub name_not_both : (n : ℕ) (m : List ℕ) (p : ℕ) (ls : List (List ℕ)) (q : ℕ) (why : ParseError)
    → WholeNameAt m p ls q → q + n ≤ length m → NoNameBefore n m p why → ⊥
name_not_both n m p ls q why a whole (no_name (fault, is, f)) = names_or_fault a.labels f
name_not_both n m p ls q why a whole (too_short xs r b short is) = let same = (name_once a b).1 in omega (arith, same, short, whole)

pub no_name_once : (n : ℕ) (m : List ℕ) (p : ℕ) (why other : ParseError) → NoNameBefore n m p why
    → NoNameBefore n m p other → refusal why ≡ refusal other
no_name_once n m p why other (no_name (d, t, f)) (no_name (e, u, g)) =
    t ∙ (ap error_of (one_fault f g).0 ∙ sym u)
no_name_once n m p why other (no_name (d, t, f)) (too_short xs r b short u) =
    absurd (names_or_fault b.labels f)
no_name_once n m p why other (too_short xs r b short u) (no_name (d, t, f)) =
    absurd (names_or_fault b.labels f)
no_name_once n m p why other (too_short xs r a short t) (too_short ys s b also u) =
    ap refusal (t ∙ sym u)

-- a name begins before its end
pub name_inside : (m : List ℕ) (p : ℕ) (ls : List (List ℕ)) (q : ℕ) → WholeNameAt m p ls q → p ≤ q
name_inside m p ls q a = front_inside a.encoding.2

-- at most one question is at an offset
pub question_once : (m : List ℕ) (p : ℕ) (a b : QuestionFields) (e f : ℕ) → QuestionAt m p a e
    → QuestionAt m p b f → (a ≡ b) × (e ≡ f)
question_once m p a b e f x y =
    let same = name_once x.name y.name in
    let name : a.name ≡ b.name = same.0 in
    let rtype : a.rtype ≡ b.rtype = x.rtype ∙ (ap (λ q. number16 m q) same.1 ∙ sym y.rtype) in
    let class : a.class ≡ b.class = x.class ∙ (ap (λ q. number16 m (q + 2)) same.1 ∙ sym y.class) in (
      (λ i. record { name = name i; rtype = rtype i; class = class i }),
      x.end ∙ (ap (λ q. q + 4) same.1 ∙ sym y.end),
    )

pub question_reading : IsReading QuestionAt NoQuestion
question_reading = record {
  inside = λ m p it e at. let before = name_inside m p it.name at.name_end at.name in let whole = at.inside in let end = at.end in (omega arith, omega arith);
  one_value = question_once;
  not_both = λ m p it e why at no. name_not_both 4 m p it.name at.name_end why at.name at.inside no;
  one_fault = no_name_once 4;
}

header_once : (m : List ℕ) (p : ℕ) (a b : HeaderFields) (e f : ℕ) → RecordHeaderAt m p a e
    → RecordHeaderAt m p b f → (a ≡ b) × (e ≡ f)
header_once m p a b e f x y =
    let same = name_once x.name y.name in
    let owner : a.owner ≡ b.owner = same.0 in
    let rtype : a.rtype ≡ b.rtype = x.rtype ∙ (ap (λ q. number16 m q) same.1 ∙ sym y.rtype) in
    let class : a.class ≡ b.class = x.class ∙ (ap (λ q. number16 m (q + 2)) same.1 ∙ sym y.class) in
    let ttl : a.ttl ≡ b.ttl = x.ttl ∙ (ap (λ q. number32 m (q + 4)) same.1 ∙ sym y.ttl) in
    let rdlen : a.rdlen ≡ b.rdlen = x.rdlen ∙ (ap (λ q. number16 m (q + 8)) same.1 ∙ sym y.rdlen) in (
      (λ i. record {
        owner = owner i;
        rtype = rtype i;
        class = class i;
        ttl = ttl i;
        rdlen = rdlen i;
      }),
      x.end ∙ (ap (λ q. q + 10) same.1 ∙ sym y.end),
    )

pub record_header_reading : IsReading RecordHeaderAt NoRecordHeader
record_header_reading = record {
  inside = λ m p it e at. let before = name_inside m p it.owner at.name_end at.name in let whole = at.inside in let end = at.end in (omega arith, omega arith);
  one_value = header_once;
  not_both =
      λ m p it e why at no. name_not_both 10 m p it.owner at.name_end why at.name at.inside no;
  one_fault = no_name_once 10;
}

-- at most one record is at an offset
pub record_once : (m : List ℕ) (p : ℕ) (a b : RecordFields) (e f : ℕ) → RecordAt m p a e
    → RecordAt m p b f → (a ≡ b) × (e ≡ f)
record_once m p a b e f x y =
    let same = header_once m p a.header b.header a.start b.start x.header y.header in
    let len : a.header.rdlen ≡ b.header.rdlen = ap (λ h. h.rdlen) same.0 in
    let start : a.start ≡ b.start = same.1 in
    let end : e ≡ f = omega (arith, x.end, y.end, len, start) in
    let octets : a.octets ≡ b.octets = x.octets ∙ (ap (λ e. take e m) end ∙ sym y.octets) in
    ((λ i. record { header = same.0 i; start = start i; octets = octets i }), end)

no_record_with : (m : List ℕ) (p : ℕ) (it : HeaderFields) (q : ℕ) (why : ParseError)
    → RecordHeaderAt m p it q → q + it.rdlen ≤ length m → NoRecord m p why → ⊥
no_record_with m p it q why at whole (no_header missing) =
    record_header_reading.not_both m p it q why at missing
no_record_with m p it q why at whole (no_data other r also short because) =
    let same = header_once m p it other q r at also in
    let len : it.rdlen ≡ other.rdlen = ap (λ h. h.rdlen) same.0 in
    let start : q ≡ r = same.1 in
    omega (arith, whole, short, len, start)

no_record_once : (m : List ℕ) (p : ℕ) (why other : ParseError) → NoRecord m p why
    → NoRecord m p other → refusal why ≡ refusal other
no_record_once m p why other (no_header a) (no_header b) = no_name_once 10 m p why other a b
no_record_once m p why other (no_header a) (no_data it q at short because) =
    absurd (record_header_reading.not_both m p it q why at a)
no_record_once m p why other (no_data it q at short because) (no_header b) =
    absurd (record_header_reading.not_both m p it q other at b)
no_record_once m p why other (no_data it q at short because) (no_data and r also less is) =
    ap refusal (because ∙ sym is)

pub record_reading : IsReading RecordAt NoRecord
record_reading = record {
  inside = λ m p it e at. let before = (record_header_reading.inside m p it.header it.start at.header).0 in let whole = at.inside in let end = at.end in (omega arith, omega arith);
  one_value = record_once;
  not_both = λ m p it e why at no. no_record_with m p it.header it.start why at.header at.inside no;
  one_fault = no_record_once;
}

-- A name is at each offset, or none.
pub name_decided : (m : List ℕ) (p : ℕ) → ((ls : List (List ℕ)) × (e : ℕ) × WholeNameAt m p ls e)
    ⊎ ((ls : List (List ℕ)) (e : ℕ) → WholeNameAt m p ls e → ⊥)
name_decided m p = look (name_or_fault max_pointers m p)
  where
    look : NameOrFault max_pointers m p → ((ls : List (List ℕ)) × (e : ℕ) × WholeNameAt m p ls e)
        ⊎ ((ls : List (List ℕ)) (e : ℕ) → WholeNameAt m p ls e → ⊥)
    look (inl (ls, named)) = let skips = names_skips named in inl (ls, skips.0, record { labels = named; encoding = (skips.1.passed, skips.1.stop, skips.1.front) })
    look (inr (why, fault)) = inr (λ ls e at. names_or_fault at.labels fault)

-- A question is at each offset, or none.
pub question_decided : (m : List ℕ) (p : ℕ)
    → ((it : QuestionFields) × (e : ℕ) × QuestionAt m p it e)
    ⊎ ((it : QuestionFields) (e : ℕ) → QuestionAt m p it e → ⊥)
question_decided m p = look (name_decided m p)
  where
    sized : (ls : List (List ℕ)) (q : ℕ) → WholeNameAt m p ls q
        → (length m < q + 4) ⊎ (q + 4 ≤ length m)
        → ((it : QuestionFields) × (e : ℕ) × QuestionAt m p it e)
        ⊎ ((it : QuestionFields) (e : ℕ) → QuestionAt m p it e → ⊥)
    sized ls q at (inl short) = inr (λ it e question. let same = (name_once at question.name).1 in omega (arith, same, short, question.inside))
    sized ls q at (inr inside) =
        inl (
          record { name = ls; rtype = number16 m q; class = number16 m (q + 2) },
          q + 4,
          record {
            name_end = q;
            name = at;
            rtype = refl;
            class = refl;
            inside = inside;
            end = refl;
          },
        )

    look : ((ls : List (List ℕ)) × (e : ℕ) × WholeNameAt m p ls e)
        ⊎ ((ls : List (List ℕ)) (e : ℕ) → WholeNameAt m p ls e → ⊥)
        → ((it : QuestionFields) × (e : ℕ) × QuestionAt m p it e)
        ⊎ ((it : QuestionFields) (e : ℕ) → QuestionAt m p it e → ⊥)
    look (inl (ls, q, at)) = sized ls q at (cases_lt (length m) (q + 4))
    look (inr none) = inr (λ it e question. none it.name question.name_end question.name)

header_decided : (m : List ℕ) (p : ℕ) → ((it : HeaderFields) × (e : ℕ) × RecordHeaderAt m p it e)
    ⊎ ((it : HeaderFields) (e : ℕ) → RecordHeaderAt m p it e → ⊥)
header_decided m p = look (name_decided m p)
  where
    sized : (ls : List (List ℕ)) (q : ℕ) → WholeNameAt m p ls q
        → (length m < q + 10) ⊎ (q + 10 ≤ length m)
        → ((it : HeaderFields) × (e : ℕ) × RecordHeaderAt m p it e)
        ⊎ ((it : HeaderFields) (e : ℕ) → RecordHeaderAt m p it e → ⊥)
    sized ls q at (inl short) = inr (λ it e header. let same = (name_once at header.name).1 in omega (arith, same, short, header.inside))
    sized ls q at (inr inside) =
        inl (
          record {
            owner = ls;
            rtype = number16 m q;
            class = number16 m (q + 2);
            ttl = number32 m (q + 4);
            rdlen = number16 m (q + 8);
          },
          q + 10,
          record {
            name_end = q;
            name = at;
            rtype = refl;
            class = refl;
            ttl = refl;
            rdlen = refl;
            inside = inside;
            end = refl;
          },
        )

    look : ((ls : List (List ℕ)) × (e : ℕ) × WholeNameAt m p ls e)
        ⊎ ((ls : List (List ℕ)) (e : ℕ) → WholeNameAt m p ls e → ⊥)
        → ((it : HeaderFields) × (e : ℕ) × RecordHeaderAt m p it e)
        ⊎ ((it : HeaderFields) (e : ℕ) → RecordHeaderAt m p it e → ⊥)
    look (inl (ls, q, at)) = sized ls q at (cases_lt (length m) (q + 10))
    look (inr none) = inr (λ it e header. none it.owner header.name_end header.name)

-- A record is at each offset, or none.
pub record_decided : (m : List ℕ) (p : ℕ)
    → ((it : RecordFields) × (e : ℕ) × RecordAt m p it e)
    ⊎ ((it : RecordFields) (e : ℕ) → RecordAt m p it e → ⊥)
record_decided m p = look (header_decided m p)
  where
    sized : (h : HeaderFields) (q : ℕ) → RecordHeaderAt m p h q
        → (length m < q + h.rdlen) ⊎ (q + h.rdlen ≤ length m)
        → ((it : RecordFields) × (e : ℕ) × RecordAt m p it e)
        ⊎ ((it : RecordFields) (e : ℕ) → RecordAt m p it e → ⊥)
    sized h q at (inl short) = inr (λ it e it_at. let same = header_once m p h it.header q it.start at it_at.header in let len : h.rdlen ≡ it.header.rdlen = ap (λ x. x.rdlen) same.0 in let start : q ≡ it.start = same.1 in omega (arith, short, it_at.inside, len, start))
    sized h q at (inr inside) =
        inl (
          record { header = h; start = q; octets = take (q + h.rdlen) m },
          q + h.rdlen,
          record { header = at; inside = inside; end = refl; octets = refl },
        )

    look : ((it : HeaderFields) × (e : ℕ) × RecordHeaderAt m p it e)
        ⊎ ((it : HeaderFields) (e : ℕ) → RecordHeaderAt m p it e → ⊥)
        → ((it : RecordFields) × (e : ℕ) × RecordAt m p it e)
        ⊎ ((it : RecordFields) (e : ℕ) → RecordAt m p it e → ⊥)
    look (inl (h, q, at)) = sized h q at (cases_lt (length m) (q + h.rdlen))
    look (inr none) = inr (λ it e it_at. none it.header it.start it_at.header)
