-- Names in data are read in the finished message.
use Rattle.std.proofs.Common.{◌≡◌, ℕ, ◌+◌, inl, inr, List, ◌++◌, length, true, sym, ap, subst, ◌∙◌, append_assoc, length-append}
use Rattle.domain_label.specs.Wire.{labels_in}
use Rattle.domain_reading.specs.Grammar.{EncodingEnds}
use Rattle.domain_reading.proofs.Encodings.{ends_more}
use Rattle.domain_reading.proofs.Reading.{names_more}
use Rattle.domain_rdata.specs.ReadBack.{StandsAt}
use Rattle.domain_message_builder.specs.Contents.{blank_header}
use Rattle.domain_message_builder.proofs.Blank.{names_move}
use Rattle.domain_buffer.specs.Data.{Fields}
use Rattle.domain_buffer.specs.Named.{SameNames, NamesReadBack}

under_header : (f : Fields) (h b octets : List ℕ) → length h ≡ 12 → SameNames f (blank_header ++ b) octets → SameNames f (h ++ b) octets
under_header f h b octets twelve x = record {
  first = x.first;
  first_read = names_move true h b twelve (labels_in f.first) f.before x.first x.first_read;
  second = x.second;
  second_read = elim x.second_read [
    | inl none ↦ inl none
    | inr read ↦ inr (names_move true h b twelve (labels_in f.second) (f.before ++ x.first) x.second read)
  ];
  all = x.all;
}

-- a name that stands at the end of octets, in more of them
stands_in : (t s u m : List ℕ) (p : ℕ) (ls : List (List ℕ)) → m ≡ t ++ s ++ u → p ≡ length t → StandsAt (t ++ s) (length t) ls → StandsAt m p ls
stands_in t s u m p ls all at x = subst (λ q. StandsAt m q ls) (sym at) (subst (λ o. StandsAt o (length t) ls) (sym all) (x.0, names_more u x.1, x.2))

ends_in : (t s u m : List ℕ) (p e : ℕ) → m ≡ t ++ s ++ u → p ≡ length t → e ≡ length t + length s → EncodingEnds (t ++ s) (length t) (length t + length s) → EncodingEnds m p e
ends_in t s u m p e all at end x =
    subst (λ q. EncodingEnds m q e) (sym at) (subst (λ k. EncodingEnds m (length t) k) (sym end) (subst (λ o. EncodingEnds o (length t) (length t + length s)) (sym all) (ends_more (t ++ s) (length t) (length t + length s) u x)))

-- the data and what follows them, from the first name on and from the second on
from_first : (t before first second after u octets : List ℕ) → octets ≡ before ++ (first ++ (second ++ after)) → t ++ octets ++ u ≡ t ++ before ++ first ++ (second ++ after ++ u)
from_first t before first second after u octets all =
    let rest = second ++ after in
    ap (λ o. t ++ o ++ u) all ∙ (append_assoc t (before ++ (first ++ rest)) u
    ∙ (ap (λ o. t ++ o) (append_assoc before (first ++ rest) u ∙ ap (λ o. before ++ o) (append_assoc first rest u))
    ∙ sym (append_assoc (t ++ before) first (rest ++ u) ∙ append_assoc t before (first ++ (rest ++ u)))))

from_second : (t before first second after u octets : List ℕ) → octets ≡ before ++ (first ++ (second ++ after)) → t ++ octets ++ u ≡ t ++ (before ++ first) ++ second ++ (after ++ u)
from_second t before first second after u octets all =
    from_first t before first second after u octets all ∙ (ap (λ o. t ++ before ++ first ++ o) (append_assoc second after u)
    ∙ (ap (λ o. o ++ (second ++ (after ++ u))) (append_assoc t before first) ∙ sym (append_assoc (t ++ (before ++ first)) second (after ++ u))))

pub names_read_back : NamesReadBack
names_read_back f h b octets u twelve same =
    let t = h ++ b in
    let m = t ++ octets ++ u in
    let x = under_header f h b octets twelve same in
    let after = f.after in
    let begin : length t + length f.before ≡ length (t ++ f.before) = sym (length-append t f.before) in
    let front = x.first_read.read in
    let all = from_first t f.before x.first x.second after u octets x.all in
    let behind : length t + length f.before + length x.first ≡ length (t ++ (f.before ++ x.first)) = ap (λ n. n + length x.first) begin ∙ (sym (length-append (t ++ f.before) x.first) ∙ ap length (append_assoc t f.before x.first)) in
    record {
      first = stands_in (t ++ f.before) x.first (x.second ++ after ++ u) m (length t + length f.before) (labels_in f.first) all begin front.stands;
      end = length t + length f.before + length x.first;
      first_ends = ends_in (t ++ f.before) x.first (x.second ++ after ++ u) m (length t + length f.before) (length t + length f.before + length x.first) all begin (ap (λ n. n + length x.first) begin) front.ends;
      second = elim x.second_read [
        | inl none ↦ inl none.0
        | inr read ↦ inr (stands_in (t ++ (f.before ++ x.first)) x.second (after ++ u) m (length t + length f.before + length x.first) (labels_in f.second) (from_second t f.before x.first x.second after u octets x.all) behind read.read.stands)
      ];
    }
