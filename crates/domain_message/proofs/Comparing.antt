-- Questions of two messages, compared one after the other.
use Rattle.std.proofs.Common.{◌≡◌, ℕ, ◌+◌, ◌-◌, ◌<◌, List, [], ◌∷◌, length, refl, sym, subst, ◌∙◌, arith, true, false, true≢false}
use Rattle.std.specs.Prelude.{Bool, IsTrue}
use Rattle.std.specs.Cmp.Lexicographic.{pointwise}
use Rattle.std.proofs.lemmas.Bool.{and_from, and_parts}
use Rattle.octseq.specs.declared.parse.Parser.{Parser}
use Rattle.octseq.specs.Parsing.{message, position, MovesTo}
use Rattle.domain_message.specs.Answering.{SameQuestions, SameNext, OtherNext}
use Rattle.domain_wire.specs.declared.error.ParseError.{ParseError}
use Rattle.domain_message.specs.Entries.{QuestionFields, QuestionAt, NoQuestion}
use Rattle.domain_message.specs.ParserFacts.{same_message}
use Rattle.domain_message.specs.Readings.{question_once, question_reading}
use Rattle.domain_message.specs.Sections.{Run}

same_none : (like : QuestionFields → QuestionFields → Bool) (m : List ℕ) (p : ℕ) (o : List ℕ) (q : ℕ) → SameQuestions like m p o q 0
same_none like m p o q = record { ours = []; theirs = []; our_end = p; their_end = q; many = refl; our_run = refl; their_run = refl; same = refl }

-- one question more at the front
same_more : {like : QuestionFields → QuestionFields → Bool} {m o : List ℕ} {p q e f k : ℕ} → SameNext like m p e o q f → SameQuestions like m e o f k → SameQuestions like m p o q (k + 1)
same_more {like = like} {e = e} {f = f} next rest = record {
  ours = next.our ∷ rest.ours;
  theirs = next.their ∷ rest.theirs;
  our_end = rest.our_end;
  their_end = rest.their_end;
  many = omega (arith, rest.many);
  our_run = (e, next.our_at, rest.our_run);
  their_run = (f, next.their_at, rest.their_run);
  same = and_from (like next.our next.their) (pointwise like rest.ours rest.theirs) next.same rest.same;
}

-- the first questions of two lists
pub record Parts (like : QuestionFields → QuestionFields → Bool) (m : List ℕ) (p : ℕ) (o : List ℕ) (q k : ℕ) : Type 0 where
  pub e : ℕ
  pub f : ℕ
  pub next : SameNext like m p e o q f
  pub rest : SameQuestions like m e o f k

parts_of : (like : QuestionFields → QuestionFields → Bool) (m : List ℕ) (p : ℕ) (o : List ℕ) (q k our_end their_end : ℕ) (xs ys : List QuestionFields) → length xs ≡ k + 1 → Run QuestionAt m p xs our_end → Run QuestionAt o q ys their_end → IsTrue (pointwise like xs ys) → Parts like m p o q k
parts_of like m p o q k our_end their_end [] ys many our their same = absurd (omega (arith, many))
parts_of like m p o q k our_end their_end (x ∷ xs) [] many our their same = absurd (cc)
parts_of like m p o q k our_end their_end (x ∷ xs) (y ∷ ys) many our their same =
    let both = and_parts (like x y) (pointwise like xs ys) same in
    record {
      e = our.0;
      f = their.0;
      next = record { our = x; their = y; our_at = our.1; their_at = their.1; same = both.0 };
      rest = record { ours = xs; theirs = ys; our_end = our_end; their_end = their_end; many = omega (arith, many); our_run = our.2; their_run = their.2; same = both.1 };
    }

same_parts : (like : QuestionFields → QuestionFields → Bool) (m : List ℕ) (p : ℕ) (o : List ℕ) (q k : ℕ) → SameQuestions like m p o q (k + 1) → Parts like m p o q k
same_parts like m p o q k all = parts_of like m p o q k all.our_end all.their_end all.ours all.theirs all.many all.our_run all.their_run all.same

-- one question less at the front
same_less : (like : QuestionFields → QuestionFields → Bool) (m : List ℕ) (p : ℕ) (o : List ℕ) (q e f k : ℕ) → SameNext like m p e o q f → SameQuestions like m p o q (k + 1) → SameQuestions like m e o f k
same_less like m p o q e f k next all =
    let parts = same_parts like m p o q k all in
    let our : parts.e ≡ e = (question_once m p parts.next.our next.our parts.e e parts.next.our_at next.our_at).1 in
    let their : parts.f ≡ f = (question_once o q parts.next.their next.their parts.f f parts.next.their_at next.their_at).1 in
    subst (λ v. SameQuestions like m v o f k) our (subst (λ w. SameQuestions like m parts.e o w k) their parts.rest)

-- The first i questions are the same, so all are the same if and only if the remaining ones are.
pub record SameSoFar (like : QuestionFields → QuestionFields → Bool) (m o : List ℕ) (n i : ℕ) (our their : Parser) : Type 0 where
  pub our_octets : message our ≡ m
  pub their_octets : message their ≡ o
  pub forth : SameQuestions like m (position our) o (position their) (n - i) → SameQuestions like m 12 o 12 n
  pub back : SameQuestions like m 12 o 12 n → SameQuestions like m (position our) o (position their) (n - i)

pub so_far_none : (like : QuestionFields → QuestionFields → Bool) (m o : List ℕ) (n : ℕ) (our their : Parser) → message our ≡ m → message their ≡ o → position our ≡ 12 → position their ≡ 12 → SameSoFar like m o n 0 our their
so_far_none like m o n our their ours theirs at there =
    let all : n - 0 ≡ n = omega arith in
    record {
      our_octets = ours;
      their_octets = theirs;
      forth = λ same. subst (λ k. SameQuestions like m 12 o 12 k) all (subst (λ p. SameQuestions like m p o 12 (n - 0)) at (subst (λ q. SameQuestions like m (position our) o q (n - 0)) there same));
      back = λ same. subst (λ q. SameQuestions like m (position our) o q (n - 0)) (sym there) (subst (λ p. SameQuestions like m p o 12 (n - 0)) (sym at) (subst (λ k. SameQuestions like m 12 o 12 k) (sym all) same));
    }

-- the next questions over the octets of the messages
next_over : (like : QuestionFields → QuestionFields → Bool) (m o : List ℕ) (our their : Parser) (e f : ℕ) → message our ≡ m → message their ≡ o → SameNext like (message our) (position our) e (message their) (position their) f → SameNext like m (position our) e o (position their) f
next_over like m o our their e f ours theirs next = subst (λ x. SameNext like x (position our) e o (position their) f) ours (subst (λ y. SameNext like (message our) (position our) e y (position their) f) theirs next)

pub so_far_more : (like : QuestionFields → QuestionFields → Bool) (m o : List ℕ) (n i : ℕ) (our their our_next their_next : Parser) → SameSoFar like m o n i our their → i < n → SameNext like (message our) (position our) (position our_next) (message their) (position their) (position their_next) → MovesTo our our_next (position our_next) → MovesTo their their_next (position their_next) → SameSoFar like m o n (i + 1) our_next their_next
so_far_more like m o n i our their our_next their_next so_far few next moves also =
    let one : n - (i + 1) + 1 ≡ n - i = omega (arith, few) in
    let here = next_over like m o our their (position our_next) (position their_next) so_far.our_octets so_far.their_octets next in
    record {
      our_octets = same_message our our_next (position our_next) moves ∙ so_far.our_octets;
      their_octets = same_message their their_next (position their_next) also ∙ so_far.their_octets;
      forth = λ same. so_far.forth (subst (λ k. SameQuestions like m (position our) o (position their) k) one (same_more here same));
      back = λ same. same_less like m (position our) o (position their) (position our_next) (position their_next) (n - (i + 1)) here (subst (λ k. SameQuestions like m (position our) o (position their) k) (sym one) (so_far.back same));
    }

pub so_far_other : (like : QuestionFields → QuestionFields → Bool) (m o : List ℕ) (n i : ℕ) (our their : Parser) → SameSoFar like m o n i our their → i < n → OtherNext like (message our) (position our) (message their) (position their) → SameQuestions like m 12 o 12 n → ⊥
so_far_other like m o n i our their so_far few other same =
    let one : n - i ≡ n - (i + 1) + 1 = omega (arith, few) in
    let parts = same_parts like m (position our) o (position their) (n - (i + 1)) (subst (λ k. SameQuestions like m (position our) o (position their) k) one (so_far.back same)) in
    other parts.e parts.f (subst (λ x. SameNext like x (position our) parts.e (message their) (position their) parts.f) (sym so_far.our_octets) (subst (λ y. SameNext like m (position our) parts.e y (position their) parts.f) (sym so_far.their_octets) parts.next))

pub so_far_all : (like : QuestionFields → QuestionFields → Bool) (m o : List ℕ) (n i : ℕ) (our their : Parser) → SameSoFar like m o n i our their → i ≡ n → SameQuestions like m 12 o 12 n
so_far_all like m o n i our their so_far all =
    let none : 0 ≡ n - i = omega (arith, all) in
    so_far.forth (subst (λ k. SameQuestions like m (position our) o (position their) k) none (same_none like m (position our) o (position their)))

-- where a question is missing no next questions are the same
pub ours_missing : {like : QuestionFields → QuestionFields → Bool} {m o : List ℕ} {p q e f : ℕ} {why : ParseError} → SameNext like m p e o q f → NoQuestion m p why → ⊥
ours_missing {m = m} {p = p} {e = e} {why = why} next missing = question_reading.not_both m p next.our e why next.our_at missing

pub theirs_missing : {like : QuestionFields → QuestionFields → Bool} {m o : List ℕ} {p q e f : ℕ} {why : ParseError} → SameNext like m p e o q f → NoQuestion o q why → ⊥
theirs_missing {o = o} {q = q} {f = f} {why = why} next missing = question_reading.not_both o q next.their f why next.their_at missing

-- questions that aren't equal
pub not_same : {like : QuestionFields → QuestionFields → Bool} {m o : List ℕ} {p q e f g h : ℕ} {a b : QuestionFields} → SameNext like m p e o q f → QuestionAt m p a g → QuestionAt o q b h → like a b ≡ false → ⊥
not_same {like = like} {m = m} {o = o} {p = p} {q = q} {e = e} {f = f} {g = g} {h = h} {a = a} {b = b} next our their other =
    let ours : next.our ≡ a = (question_once m p next.our a e g next.our_at our).0 in
    let theirs : next.their ≡ b = (question_once o q next.their b f h next.their_at their).0 in
    let same : like a b ≡ true = subst (λ x. like x b ≡ true) ours (subst (λ y. like next.our y ≡ true) theirs next.same) in
    true≢false (sym same ∙ other)
