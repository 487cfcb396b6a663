-- The laws of messages in a stream.
use Rattle.std.proofs.Common.{◌≡◌, ℕ, zero, suc, ◌+◌, ◌*◌, ◌-◌, ◌/◌, ◌%◌, ◌<◌, ◌≤◌, inl, inr, List, [], ◌∷◌, ◌++◌, length, take, drop, refl, sym, ap, subst, ◌∙◌, arith, append_assoc, length-append, length-drop, take-append-drop}
use Rattle.std.specs.Prelude.{All}
use Rattle.std.proofs.Math.Nat.{le_refl}
use Rattle.std.proofs.lemmas.Bool.{cases_lt}
use Rattle.std.proofs.lemmas.List.{take_at, drop_at, drop-drop, length-take-le, get_or-drop}
use Rattle.domain_stream.specs.Framing.{in_stream, all_in_stream, length_field, first_end, first_octets, octets_after, IsIncomplete, BeginsWithMessage, messages_in, rest_in, HasMessageThen}
use Rattle.domain_stream.specs.Laws.{AreInPieces, AreReadBack, AreAllRead}
use Rattle.domain_stream.proofs.Cutting.{has_none, fewer_after, has_first, begins-append}

-- the first message of octets that have one
the_first : (o : List ℕ) → first_end o ≤ length o → BeginsWithMessage o (first_octets o) (octets_after o)
the_first o whole = record { whole = whole; message_is = refl; rest_is = refl }

-- pieces, the first of which has no complete message
pieces_of_none : (a b : List ℕ) → IsIncomplete a → AreInPieces a b
pieces_of_none a b cut =
    let none = has_none a cut in (
      sym (ap (λ ms. ms ++ messages_in (rest_in a ++ b)) none.messages ∙ ap (λ r. messages_in (r ++ b)) none.rest),
      sym (ap (λ r. rest_in (r ++ b)) none.rest),
    )

-- pieces, the first of which begins with a message
pieces_of_first : (a b : List ℕ) → first_end a ≤ length a → AreInPieces (octets_after a) b → AreInPieces a b
pieces_of_first a b whole later =
    let m = first_octets a in
    let r = octets_after a in
    let first = has_first a m r (the_first a whole) in
    let both = has_first (a ++ b) m (r ++ b) (begins-append a b m r (the_first a whole)) in (
      both.messages ∙ (ap (λ ms. m ∷ ms) later.0 ∙ (ap (λ ms. ms ++ messages_in (rest_in r ++ b)) (sym first.messages) ∙ ap (λ x. messages_in a ++ messages_in (x ++ b)) (sym first.rest))),
      both.rest ∙ (later.1 ∙ ap (λ x. rest_in (x ++ b)) (sym first.rest)),
    )

pieces_of_at_most : (n : ℕ) (a b : List ℕ) → length a ≤ n → AreInPieces a b
pieces_of_at_most zero a b few = pieces_of_none a b (omega (arith, few))
pieces_of_at_most (suc n) a b few = elim (cases_lt (length a) (first_end a)) [
  | inl cut ↦ pieces_of_none a b cut
  | inr whole ↦ pieces_of_first a b whole (pieces_of_at_most n (octets_after a) b (fewer_after n a few))
]

pub in_pieces : (a b : List ℕ) → AreInPieces a b
in_pieces a b = pieces_of_at_most (length a) a b (le_refl (length a))

-- the length field of a message that is written
field_written : (m o : List ℕ) → length m ≤ 65535 → length_field (in_stream m ++ o) ≡ length m
field_written m o few = omega (arith, few)

-- a message that is written is the first
written_first : (m o : List ℕ) → length m ≤ 65535 → HasMessageThen (in_stream m ++ o) m o
written_first m o few =
    let all = in_stream m ++ o in
    let same : first_end all ≡ 2 + length m = ap (λ n. 2 + n) (field_written m o few) in
    let begins : BeginsWithMessage all m o =
    record {
      whole = omega (arith, same, length-append m o);
      message_is = sym (take_at m o (first_end all - 2) (omega (arith, same)));
      rest_is = sym (drop_at (in_stream m) o (first_end all) (omega (arith, same)));
    } in
    has_first all m o begins

pub read_back : (ms : List (List ℕ)) (r : List ℕ) → AreReadBack ms r
read_back [] r short cut = let none = has_none r cut in (none.messages, none.rest)
read_back (m ∷ ms) r short cut =
    let parts : all_in_stream (m ∷ ms) ++ r ≡ in_stream m ++ (all_in_stream ms ++ r) = append_assoc (in_stream m) (all_in_stream ms) r in
    let first = written_first m (all_in_stream ms ++ r) (short 0 m (omega arith)) in
    let later = read_back ms r (λ k d below. short (suc k) d (omega (arith, below))) cut in
    (ap messages_in parts ∙ (first.messages ∙ ap (λ xs. m ∷ xs) later.0), ap rest_in parts ∙ (first.rest ∙ later.1))

-- the first message of octets, written, and the octets after it are the octets
first_written : (o : List ℕ) → first_end o ≤ length o → All (λ x. x < 256) o → in_stream (first_octets o) ++ octets_after o ≡ o
first_written [] whole octets = absurd (omega (arith, whole))
first_written (high ∷ []) whole octets = absurd (omega (arith, whole))
first_written (high ∷ low ∷ o) whole octets =
    let n = high * 256 + low in
    let a : high < 256 = octets 0 0 (omega arith) in
    let b : low < 256 = octets 1 0 (omega arith) in
    let m = take (2 + n - 2) o in
    let size : length m ≡ n = length-take-le (2 + n - 2) o (omega (arith, whole)) ∙ omega arith in
    let first : length m / 256 % 256 ≡ high = ap (λ k. k / 256 % 256) size ∙ omega (arith, a, b) in
    let second : length m % 256 ≡ low = ap (λ k. k % 256) size ∙ omega (arith, a, b) in
    let after : drop (2 + n) (high ∷ low ∷ o) ≡ drop (2 + n - 2) o = sym (drop-drop n 2 (high ∷ low ∷ o)) ∙ ap (λ k. drop k o) (omega arith) in
    ap (λ r. (length m / 256 % 256) ∷ (length m % 256) ∷ (m ++ r)) after
    ∙ (ap (λ r. (length m / 256 % 256) ∷ (length m % 256) ∷ r) (take-append-drop (2 + n - 2) o)
    ∙ (ap (λ x. x ∷ (length m % 256) ∷ o) first ∙ ap (λ x. high ∷ x ∷ o) second))

small_after : (n : ℕ) (o : List ℕ) → All (λ x. x < 256) o → All (λ x. x < 256) (drop n o)
small_after n o octets k d below = rw get_or-drop (octets (n + k) d (omega (arith, below, length-drop n o)))

read_of_none : (o : List ℕ) → IsIncomplete o → AreAllRead o
read_of_none o cut octets =
    let none = has_none o cut in
    (ap (λ ms. all_in_stream ms ++ rest_in o) none.messages ∙ none.rest, subst IsIncomplete (sym none.rest) cut)

read_of_first : (o : List ℕ) → first_end o ≤ length o → AreAllRead (octets_after o) → AreAllRead o
read_of_first o whole later octets =
    let m = first_octets o in
    let r = octets_after o in
    let first = has_first o m r (the_first o whole) in
    let rest = later (small_after (first_end o) o octets) in (
      ap (λ ms. all_in_stream ms ++ rest_in o) first.messages
          ∙ (ap (λ x. all_in_stream (m ∷ messages_in r) ++ x) first.rest
          ∙ (append_assoc (in_stream m) (all_in_stream (messages_in r)) (rest_in r)
          ∙ (ap (λ x. in_stream m ++ x) rest.0 ∙ first_written o whole octets))),
      subst IsIncomplete (sym first.rest) rest.1,
    )

read_of_at_most : (n : ℕ) (o : List ℕ) → length o ≤ n → AreAllRead o
read_of_at_most zero o few = read_of_none o (omega (arith, few))
read_of_at_most (suc n) o few = elim (cases_lt (length o) (first_end o)) [
  | inl cut ↦ read_of_none o cut
  | inr whole ↦ read_of_first o whole (read_of_at_most n (octets_after o) (fewer_after n o few))
]

pub all_read : (o : List ℕ) → AreAllRead o
all_read o = read_of_at_most (length o) o (le_refl (length o))
