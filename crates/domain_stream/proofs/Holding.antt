-- What a reader holds: at most one message.
use Rattle.std.proofs.Common.{◌≡◌, ℕ, ◌+◌, ◌<◌, ◌≤◌, inl, inr, min, List, [], ◌∷◌, ◌++◌, length, take, drop, get_or, refl, sym, ap, ◌∙◌, arith, append_assoc, length-append, length-take, take-append-drop}
use Rattle.std.specs.Int.{w16, from_be_bytes}
use Rattle.std.proofs.lemmas.Bool.{cases_lt}
use Rattle.std.proofs.lemmas.List.{drop_all}
use Rattle.domain_stream.specs.Framing.{length_field, first_end, first_octets, octets_after, BeginsWithMessage, messages_in, rest_in, IsOneMessage}
use Rattle.domain_stream.specs.Readers.{count_taken}
use Rattle.domain_stream.proofs.Cutting.{field-append, has_first}

-- the length field of two parts: in the second alone, in none, and in both
pub across_second : (h p : List ℕ) → length h ≡ 0 → length_field p ≡ length_field (h ++ p)
across_second [] p none = refl
across_second (high ∷ h) p none = absurd (omega (arith, none))

pub across_none : (h p : List ℕ) → length h < 2 → length p ≡ 0 → 0 ≡ length_field (h ++ p)
across_none [] [] few none = refl
across_none [] (high ∷ p) few none = absurd (omega (arith, none))
across_none (high ∷ []) [] few none = refl
across_none (high ∷ []) (low ∷ p) few none = absurd (omega (arith, none))
across_none (high ∷ low ∷ h) p few none = absurd (omega (arith, few))

pub across_both : (h p : List ℕ) → length h < 2 → 0 < length h → 0 < length p → from_be_bytes w16 (get_or h 0 0 ∷ get_or p 0 0 ∷ []) ≡ length_field (h ++ p)
across_both [] p few some also = absurd (omega (arith, some))
across_both (high ∷ []) [] few some also = absurd (omega (arith, also))
across_both (high ∷ []) (low ∷ p) few some also = refl
across_both (high ∷ low ∷ h) p few some also = absurd (omega (arith, few))

-- octets of at most one message are octets of at most one where more follow
held_before : (h p : List ℕ) → length h ≤ first_end h → length h ≤ first_end (h ++ p)
held_before h p one = elim (cases_lt (length h) 2) [
  | inl few ↦ omega (arith, few)
  | inr two ↦ omega (arith, one, field-append h p two)
]

-- with those that are taken of a piece they are so, too
pub still_one : (h p : List ℕ) → length h ≤ first_end h → length (h ++ take (count_taken h p) p) ≤ first_end (h ++ take (count_taken h p) p)
still_one h p one =
    let n = count_taken h p in
    let t = h ++ take n p in
    let before = held_before h p one in
    let size : length t ≡ length h + min n (length p) = length-append h (take n p) ∙ ap (λ k. length h + k) (length-take n p) in
    elim (cases_lt (length t) 2) [
      | inl few ↦ omega (arith, few)
      | inr two ↦
          let joined : t ++ drop n p ≡ h ++ p = append_assoc h (take n p) (drop n p) ∙ ap (λ x. h ++ x) (take-append-drop n p) in
          let same : length_field t ≡ length_field (h ++ p) = sym (field-append t (drop n p) two) ∙ ap length_field joined in
          omega (arith, size, same, before)
    ]

-- of a piece some octets are taken, while no message is complete
pub some_taken : (h p : List ℕ) → length h < first_end h → 0 < length p → 0 < count_taken h p
some_taken h p cut some = elim (cases_lt (length h) 2) [
  | inl few ↦ omega (arith, few, some)
  | inr two ↦ omega (arith, cut, some, field-append h p two)
]

-- a complete message is all that is held
pub is_one : (o m r : List ℕ) → length o ≤ first_end o → BeginsWithMessage o m r → IsOneMessage o m
is_one o m r one begins =
    let first = has_first o m r begins in
    let nothing : r ≡ [] = begins.rest_is ∙ drop_all (first_end o) o one in
    record { messages = first.messages ∙ ap (λ x. m ∷ messages_in x) nothing; rest = first.rest ∙ ap rest_in nothing }

pub no_rest : (o : List ℕ) → length o ≤ first_end o → first_end o ≤ length o → [] ≡ rest_in o
no_rest o one whole =
    let r = octets_after o in
    let begins : BeginsWithMessage o (first_octets o) r = record { whole = whole; message_is = refl; rest_is = refl } in
    sym ((has_first o (first_octets o) r begins).rest ∙ ap rest_in (drop_all (first_end o) o one))
