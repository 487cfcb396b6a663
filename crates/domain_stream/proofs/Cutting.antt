-- Messages in a stream, one after another from the front.
use Rattle.std.proofs.Common.{◌≡◌, ℕ, zero, suc, ◌+◌, ◌-◌, ◌<◌, ◌≤◌, Bool, true, false, List, [], ◌∷◌, ◌++◌, length, take, drop, get_or, nat_le, if◌then◌else◌, refl, sym, ap, ◌∙◌, arith, length-append, length-drop}
use Rattle.std.proofs.Math.Nat.{le_refl}
use Rattle.std.proofs.lemmas.Bool.{lt-leb, le-leb}
use Rattle.std.proofs.lemmas.List.{take-append-le, drop-append-le}
use Rattle.std.specs.Int.{w16, from_be_bytes}
use Rattle.domain_stream.specs.Framing.{length_field, first_end, first_octets, octets_after, IsIncomplete, BeginsWithMessage, cut_messages, after_messages, messages_in, rest_in, HasMessageThen, HasNoMessage}

if-true : {A : Type 0} (b : Bool) (x y : A) → b ≡ true → (if b then x else y) ≡ x
if-true b x y e = rw e refl

if-false : {A : Type 0} (b : Bool) (x y : A) → b ≡ false → (if b then x else y) ≡ y
if-false b x y e = rw e refl

-- the length field of octets that have one, and of others
pub field_of_two : (o : List ℕ) → 2 ≤ length o → from_be_bytes w16 (get_or o 0 0 ∷ get_or o 1 0 ∷ []) ≡ length_field o
field_of_two [] two = absurd (omega (arith, two))
field_of_two (high ∷ []) two = absurd (omega (arith, two))
field_of_two (high ∷ low ∷ o) two = refl

pub field_of_few : (o : List ℕ) → length o < 2 → 0 ≡ length_field o
field_of_few [] few = refl
field_of_few (high ∷ []) few = refl
field_of_few (high ∷ low ∷ o) few = absurd (omega (arith, few))

-- it stays where more octets follow
pub field-append : (a b : List ℕ) → 2 ≤ length a → length_field (a ++ b) ≡ length_field a
field-append [] b two = absurd (omega (arith, two))
field-append (high ∷ []) b two = absurd (omega (arith, two))
field-append (high ∷ low ∷ a) b two = refl

-- where no message is complete, none is cut off, however many are asked for
no_messages : (n : ℕ) (o : List ℕ) → IsIncomplete o → cut_messages n o ≡ []
no_messages zero o cut = refl
no_messages (suc n) o cut = if-false (nat_le (first_end o) (length o)) _ _ (lt-leb (first_end o) (length o) cut)

all_after : (n : ℕ) (o : List ℕ) → IsIncomplete o → after_messages n o ≡ o
all_after zero o cut = refl
all_after (suc n) o cut = if-false (nat_le (first_end o) (length o)) _ _ (lt-leb (first_end o) (length o) cut)

pub has_none : (o : List ℕ) → IsIncomplete o → HasNoMessage o
has_none o cut = record { messages = no_messages (length o) o cut; rest = all_after (length o) o cut }

-- octets after a message are fewer
pub fewer_after : (n : ℕ) (o : List ℕ) → length o ≤ suc n → length (octets_after o) ≤ n
fewer_after n o few = omega (arith, few, length-drop (first_end o) o)

-- it doesn't matter how many messages are asked for, if they are no fewer than the octets
same_messages : (n k : ℕ) (o : List ℕ) → length o ≤ n → length o ≤ k → cut_messages n o ≡ cut_messages k o
same_messages zero zero o few also = refl
same_messages zero (suc k) o few also = sym (no_messages (suc k) o (omega (arith, few)))
same_messages (suc n) zero o few also = no_messages (suc n) o (omega (arith, also))
same_messages (suc n) (suc k) o few also =
    ap (λ (ms : List (List ℕ)). if nat_le (first_end o) (length o) then first_octets o ∷ ms else []) (same_messages n k (octets_after o) (fewer_after n o few) (fewer_after k o also))

same_rest : (n k : ℕ) (o : List ℕ) → length o ≤ n → length o ≤ k → after_messages n o ≡ after_messages k o
same_rest zero zero o few also = refl
same_rest zero (suc k) o few also = sym (all_after (suc k) o (omega (arith, few)))
same_rest (suc n) zero o few also = all_after (suc n) o (omega (arith, also))
same_rest (suc n) (suc k) o few also =
    ap (λ (r : List ℕ). if nat_le (first_end o) (length o) then r else o) (same_rest n k (octets_after o) (fewer_after n o few) (fewer_after k o also))

-- a complete message is the first of those that are cut off
first_message : (n : ℕ) (o : List ℕ) → length o ≤ n → first_end o ≤ length o → cut_messages n o ≡ first_octets o ∷ messages_in (octets_after o)
first_message zero o few whole = absurd (omega (arith, few, whole))
first_message (suc n) o few whole =
    let r = octets_after o in
    if-true (nat_le (first_end o) (length o)) _ _ (le-leb (first_end o) (length o) whole)
    ∙ ap (λ (ms : List (List ℕ)). first_octets o ∷ ms) (same_messages n (length r) r (fewer_after n o few) (le_refl (length r)))

first_rest : (n : ℕ) (o : List ℕ) → length o ≤ n → first_end o ≤ length o → after_messages n o ≡ rest_in (octets_after o)
first_rest zero o few whole = absurd (omega (arith, few, whole))
first_rest (suc n) o few whole =
    let r = octets_after o in
    if-true (nat_le (first_end o) (length o)) _ _ (le-leb (first_end o) (length o) whole)
    ∙ same_rest n (length r) r (fewer_after n o few) (le_refl (length r))

pub has_first : (o m r : List ℕ) → BeginsWithMessage o m r → HasMessageThen o m r
has_first o m r begins = record {
  messages =
      first_message (length o) o (le_refl (length o)) begins.whole
      ∙ (ap (λ x. x ∷ messages_in (octets_after o)) (sym begins.message_is) ∙ ap (λ x. m ∷ messages_in x) (sym begins.rest_is));
  rest = first_rest (length o) o (le_refl (length o)) begins.whole ∙ ap rest_in (sym begins.rest_is);
  fewer = omega (arith, begins.whole, ap length begins.rest_is, length-drop (first_end o) o);
}

-- octets that follow come after the first message, too
pub begins-append : (a b m r : List ℕ) → BeginsWithMessage a m r → BeginsWithMessage (a ++ b) m (r ++ b)
begins-append a b m r begins =
    let whole : first_end a ≤ length a = begins.whole in
    let two : 2 ≤ length a = omega (arith, whole) in
    let same : first_end (a ++ b) ≡ first_end a = ap (λ n. 2 + n) (field-append a b two) in
    let inside : first_end a - 2 ≤ length (drop 2 a) = omega (arith, whole, length-drop 2 a) in
    record {
      whole = omega (arith, same, whole, length-append a b);
      message_is =
          begins.message_is
          ∙ sym (ap (λ k. take (k - 2) (drop 2 (a ++ b))) same ∙ (ap (take (first_end a - 2)) (drop-append-le 2 a b two) ∙ take-append-le (first_end a - 2) (drop 2 a) b inside));
      rest_is = ap (λ x. x ++ b) begins.rest_is ∙ sym (ap (λ k. drop k (a ++ b)) same ∙ drop-append-le (first_end a) a b whole);
    }
