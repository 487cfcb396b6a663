-- The questions and records that `dnsnames list` shows are those that are read here (RFC 1035, 4.1.2 and 4.1.3).
use Rattle.std.specs.Prelude.{◌≡◌, ℕ, ◌+◌, List, ◌∷◌, ◌++◌, drop, take, slice_range}
use Rattle.std.specs.Fmt.{decimal}
use Rattle.std.proofs.Common.{arith, refl, sym, ap, ◌∙◌}
use Rattle.std.proofs.lemmas.Slice.{between_is}
use Rattle.domain_label.specs.Text.{text_with_final_dot}
use Rattle.domain_header.specs.Numbers.{number16, number32}
use Rattle.domain_rdata.specs.AnyData.{unknown_text}
use Rattle.domain_message.specs.Entries.{QuestionFields, QuestionAt, RecordFields, RecordAt}
use Rattle.domain_tool.specs.Lines.{IsQuestion, IsRecord}
use Rattle.domain_lines.specs.Records.{rdata_octets}

-- the line of a question, without the word `question`
abbrev pub asked_line : QuestionFields → List ℕ
asked_line it = 32 ∷ text_with_final_dot it.name ++ 32 ∷ decimal it.rtype ++ 32 ∷ decimal it.class

-- A question that is there is shown so.
pub question_is_listed : (m : List ℕ) (p : ℕ) (it : QuestionFields) (e : ℕ) → QuestionAt m p it e → IsQuestion m p (asked_line it) e
question_is_listed m p it e there = record {
  labels = it.name;
  after = there.name_end;
  name = record { named = there.name.labels; front = there.name.encoding };
  whole = there.inside;
  end = there.end;
  shown = ap (λ t. asked_line (record { name = it.name; rtype = t; class = it.class })) there.rtype
      ∙ ap (λ c. asked_line (record { name = it.name; rtype = number16 m there.name_end; class = c })) there.class;
}

-- What is shown is that of a question which is there.
pub listed_is_question : (m : List ℕ) (p : ℕ) (line : List ℕ) (e : ℕ) → IsQuestion m p line e → (it : QuestionFields) × QuestionAt m p it e × (line ≡ asked_line it)
listed_is_question m p line e shown = (
  record { name = shown.labels; rtype = number16 m shown.after; class = number16 m (shown.after + 2) },
  record {
    name_end = shown.after;
    name = record { labels = shown.name.named; encoding = shown.name.front };
    rtype = refl;
    class = refl;
    inside = shown.whole;
    end = shown.end;
  },
  shown.shown,
)

-- what is shown of owner, type, class, TTL and data of a record
abbrev pub listed_text : List (List ℕ) → ℕ → ℕ → ℕ → List ℕ → List ℕ
listed_text owner rtype class ttl octets =
    32 ∷ text_with_final_dot owner ++ 32 ∷ decimal rtype ++ 32 ∷ decimal class ++ (32 ∷ decimal ttl ++ 32 ∷ unknown_text octets)

-- the line of a record, without the word of its section
abbrev pub listed_line : RecordFields → List ℕ
listed_line it = listed_text it.header.owner it.header.rtype it.header.class it.header.ttl (rdata_octets it)

-- A record that is there is shown so.
pub record_is_listed : (m : List ℕ) (p : ℕ) (it : RecordFields) (e : ℕ) → RecordAt m p it e → IsRecord m p (listed_line it) e
record_is_listed m p it e there =
    let h = there.header in
    let q = h.name_end in
    let n = number16 m (q + 8) in
    let owner = it.header.owner in
    let octets : rdata_octets it ≡ slice_range m (q + 10) (q + 10 + n) =
    ap (drop it.start) there.octets ∙ (ap (λ k. drop k (take e m)) h.end ∙ (ap (λ k. drop (q + 10) (take k m)) (omega (arith, there.end, h.end, h.rdlen)) ∙ sym (between_is m (q + 10) (q + 10 + n)))) in
    record {
      labels = owner;
      after = q;
      name = record { named = h.name.labels; front = h.name.encoding };
      whole = omega (arith, there.inside, h.end, h.rdlen);
      end = omega (arith, there.end, h.end, h.rdlen);
      shown = ap (λ t. listed_text owner t it.header.class it.header.ttl (rdata_octets it)) h.rtype
          ∙ (ap (λ c. listed_text owner (number16 m q) c it.header.ttl (rdata_octets it)) h.class
          ∙ (ap (λ t. listed_text owner (number16 m q) (number16 m (q + 2)) t (rdata_octets it)) h.ttl
          ∙ ap (λ o. listed_text owner (number16 m q) (number16 m (q + 2)) (number32 m (q + 4)) o) octets));
    }

-- What is shown is that of a record which is there.
pub listed_is_record : (m : List ℕ) (p : ℕ) (line : List ℕ) (e : ℕ) → IsRecord m p line e → (it : RecordFields) × RecordAt m p it e × (line ≡ listed_line it)
listed_is_record m p line e shown =
    let q = shown.after in
    let n = number16 m (q + 8) in
    let it : RecordFields = record {
      header = record { owner = shown.labels; rtype = number16 m q; class = number16 m (q + 2); ttl = number32 m (q + 4); rdlen = n };
      start = q + 10;
      octets = take e m;
    } in
    let octets : slice_range m (q + 10) (q + 10 + n) ≡ drop (q + 10) (take e m) = between_is m (q + 10) (q + 10 + n) ∙ ap (λ k. drop (q + 10) (take k m)) (sym shown.end) in (
      it,
      record {
        header = record {
          name_end = q;
          name = record { labels = shown.name.named; encoding = shown.name.front };
          rtype = refl;
          class = refl;
          ttl = refl;
          rdlen = refl;
          inside = omega (arith, shown.whole);
          end = refl;
        };
        inside = shown.whole;
        end = shown.end;
        octets = refl;
      },
      shown.shown ∙ ap (λ o. listed_text shown.labels (number16 m q) (number16 m (q + 2)) (number32 m (q + 4)) o) octets,
    )
