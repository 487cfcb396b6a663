-- What holds while the lines of a message are written.
use Rattle.std.proofs.Common.{◌≡◌, ℕ, ◌+◌, ◌<◌, ◌≤◌, List, [], ◌∷◌, ◌++◌, length, drop, length-append, append_assoc, refl, sym, ap, subst, ◌∙◌, arith, Option, Bool, true, false, cond}
use Rattle.std.specs.Prelude.{Result, Ok, Err, ◌↔◌, IsTrue, nat_eq, slice_index}
use Rattle.std.specs.List.{list_any}
use Rattle.std.proofs.lemmas.List.{append-nil}
use Rattle.std.proofs.lemmas.Bool.{ne_eqb, iff_false}
use Rattle.std.specs.Io.KnownBytes.{Keeps}
use Rattle.octseq.specs.declared.parse.Parser.{Parser}
use Rattle.octseq.specs.Parsing.{message, position, MovesTo}
use Rattle.domain_wire.specs.declared.error.ParseError.{ParseError}
use Rattle.domain_wire.specs.declared.error.ParseError.TheVariants.{ShortInput}
use Rattle.domain_header.specs.Numbers.{number16}
use Rattle.domain_message.specs.Entries.{QuestionAt, NoQuestion, RecordFields, RecordAt, NoRecord}
use Rattle.domain_message.specs.ParserFacts.{same_message}
use Rattle.domain_message.specs.RunFacts.{run_and}
use Rattle.domain_message.specs.Sections.{Run, counted_records}
use Rattle.domain_message.specs.declared.section.Section.{Section}
use Rattle.domain_message.specs.declared.section.Section.TheVariants.{Answer, Authority, Additional}
use Rattle.domain_tool.specs.Engines.{IfRefused}
use Rattle.domain_tool.specs.declared.tool.ToolError.{ToolError}
use Rattle.domain_tool.specs.declared.tool.ToolError.TheVariants.{Parse, Text, Read, Write, Memory}
use Rattle.domain_lines.specs.Flags.{flag_text}
use Rattle.domain_lines.specs.Records.{is_opt_in, IsEntryText}
use Rattle.domain_lines.specs.Messages.{codes_line, counts_line, header_lines, header_rcode, questions_heading, section_heading, IsQuestionText, AreTextsOf, ShowsAll, ShowsSome, WritesAll, WritesSome, ShowsQuestions, ShowsSection, StopsInSection, ShowsAnswers, ShowsAuthority, ShowsRest, trailing_text, PutsMessage, PutsUntil, WritesMessage, WritesUntil, WritesShown}
use Rattle.domain_lines.specs.Writing.{Wrote}
use Rattle.domain_lines.specs.Messages.StopsShowing.{no_header, no_question, no_answer, no_authority, no_additional}
use Rattle.domain_lines.proofs.InAndOut.{appends_kept}

-- the lines of one more
lines_and : {V : Type 0} (IsText : List V → V → List ℕ → Type 0) (before xs : List V) (x : V) (text last : List ℕ) → AreTextsOf IsText before xs text → IsText (before ++ xs) x last → AreTextsOf IsText before (xs ++ x ∷ []) (text ++ last)
lines_and IsText before [] x text last none is =
    (last, [], subst (λ b. IsText b x last) (append-nil before) is, refl, ap (λ t. t ++ last) none ∙ sym (append-nil last))
lines_and IsText before (y ∷ ys) x text last lines is =
    let after = subst (λ b. IsText b x last) (sym (append_assoc before (y ∷ []) ys)) is in
    (lines.0, lines.1 ++ last, lines.2, lines_and IsText (before ++ y ∷ []) ys x lines.1 last lines.3 after, ap (λ t. t ++ last) lines.4 ∙ append_assoc lines.0 lines.1 last)

-- The lines of n entries were put: `Puts` says so of a text.
pub record Written {V : Type 0} (At : List ℕ → ℕ → V → ℕ → Type 0) (IsText : List V → V → List ℕ → Type 0) (first : Parser) (n : ℕ) (p : Parser) (Puts : List ℕ → Type 0) : Type 0 where
  pub entries : List V
  pub many : length entries ≡ n
  pub run : Run At (message first) (position first) entries (position p)
  pub moves : MovesTo first p (position p)
  pub text : List ℕ
  pub lines : AreTextsOf IsText [] entries text
  pub puts : Puts text

-- The records of a section were put, and it is known whether an OPT record is among them.
pub record Recorded (rcode : ℕ) (s : Section) (first : Parser) (n : ℕ) (p : Parser) (Puts : List ℕ → Type 0) (seen : Bool) : Type 0 where
  pub written : Written RecordAt (IsEntryText rcode s) first n p Puts
  pub known : seen ≡ list_any (is_opt_in s) written.entries

-- what holds of the reason of a refusal
pub refused_so : (r : Result (Unit {0}) ToolError) (P Q : ParseError → Type 0) → ((e : ParseError) → P e → Q e) → IfRefused r P → IfRefused r Q
refused_so (Ok done) P Q so x = tt
refused_so (Err (Parse e)) P Q so x = so e x
refused_so (Err (Text e)) P Q so x = x
refused_so (Err Read) P Q so x = tt
refused_so (Err Write) P Q so x = tt
refused_so (Err Memory) P Q so x = tt

-- the word of a flag
pub flag_is : (set : Bool) (flag : ℕ) (word shown : List ℕ) → (IsTrue set ↔ (flag ≡ 1)) → shown ≡ cond set word [] → shown ≡ flag_text flag word
flag_is true flag word shown says is = let one : flag ≡ 1 = says.0 refl in rw one is
flag_is false flag word shown says is = let other : nat_eq flag 1 ≡ false = ne_eqb flag 1 (iff_false says refl) in rw other is

codes_line_is : {id high low id' high' low' : ℕ} → id ≡ id' → high ≡ high' → low ≡ low' → codes_line id high low ≡ codes_line id' high' low'
codes_line_is {id} {high} {low} {id'} {high'} {low'} x y z = ap (λ id. codes_line id high low) x ∙ (ap (λ high. codes_line id' high low) y ∙ ap (λ low. codes_line id' high' low) z)

counts_line_is : {high low q a u d high' low' q' a' u' d' : ℕ} → high ≡ high' → low ≡ low' → q ≡ q' → a ≡ a' → u ≡ u' → d ≡ d' → counts_line high low q a u d ≡ counts_line high' low' q' a' u' d'
counts_line_is {high} {low} {q} {a} {u} {d} {high'} {low'} {q'} {a'} {u'} {d'} h l x y z w =
    ap (λ high. counts_line high low q a u d) h ∙ (ap (λ low. counts_line high' low q a u d) l ∙ (ap (λ q. counts_line high' low' q a u d) x ∙ (ap (λ a. counts_line high' low' q' a u d) y ∙ (ap (λ u. counts_line high' low' q' a' u d) z ∙ ap (λ d. counts_line high' low' q' a' u' d) w))))

-- What was written of a message stays so where no more is.
pub still_shown : (m : List ℕ) (old mid new : Option (List ℕ)) → WritesMessage m old mid → Keeps mid new → WritesShown m true old new
still_shown m old mid new x kept = (x.0, x.1, appends_kept old mid new x.0 x.2 kept)

pub still_stopped : (why : ParseError) (m : List ℕ) (old mid new : Option (List ℕ)) → WritesUntil m why old mid → Keeps mid new → WritesShown m false old new
still_stopped why m old mid new x kept = (why, (x.0, x.1, appends_kept old mid new x.0 x.2 kept))

-- Texts that are put into something one after another: `Takes a b text` says that a becomes b by a text.
module _ {S : Type 0} (Takes : S → S → List ℕ → Type 0) (nothing : (a : S) → Takes a a []) (joined : (a b c : S) (first second : List ℕ) → Takes a b first → Takes b c second → Takes a c (first ++ second)) where
  pub written_none : {V : Type 0} (At : List ℕ → ℕ → V → ℕ → Type 0) (IsText : List V → V → List ℕ → Type 0) (p : Parser) (old : S) → Written At IsText p 0 p (Takes old old)
  written_none At IsText p old = record { entries = []; many = refl; run = refl; moves = record { octets = refl; end = refl; offset = refl }; text = []; lines = refl; puts = nothing old }

  pub written_more : {V : Type 0} (At : List ℕ → ℕ → V → ℕ → Type 0) (IsText : List V → V → List ℕ → Type 0) (first p q : Parser) (n : ℕ) (old now new : S) (x : V) (last : List ℕ) → (before : Written At IsText first n p (Takes old now)) → At (message p) (position p) x (position q) → MovesTo p q (position q) → IsText before.entries x last → Takes now new last → Written At IsText first (n + 1) q (Takes old new)
  written_more At IsText first p q n old now new x last before at moves is more = record {
    entries = before.entries ++ x ∷ [];
    many = length-append before.entries (x ∷ []) ∙ ap (λ k. k + 1) before.many;
    run = run_and At (message first) (position first) (position p) (position q) before.entries x before.run (subst (λ m. At m (position p) x (position q)) (same_message first p (position p) before.moves) at);
    moves = record { octets = moves.octets ∙ before.moves.octets; end = moves.end ∙ before.moves.end; offset = refl };
    text = before.text ++ last;
    lines = lines_and IsText [] before.entries x before.text last before.lines is;
    puts = joined old now new before.text last before.puts more;
  }

  pub written_all : {V : Type 0} (At : List ℕ → ℕ → V → ℕ → Type 0) (IsText : List V → V → List ℕ → Type 0) (first p : Parser) (n k : ℕ) (old now : S) → Written At IsText first k p (Takes old now) → k ≡ n → WritesAll At IsText (message first) (position first) n (position p) (Takes old now)
  written_all At IsText first p n k old now before all = (before.text, record { entries = before.entries; many = before.many ∙ all; run = before.run; lines = before.lines }, before.puts)

  -- the next entry is missing
  pub written_missing : {V : Type 0} (At : List ℕ → ℕ → V → ℕ → Type 0) (Fails : List ℕ → ℕ → ParseError → Type 0) (IsText : List V → V → List ℕ → Type 0) (first p : Parser) (n k : ℕ) (old now : S) (why : ParseError) → Written At IsText first k p (Takes old now) → k < n → Fails (message p) (position p) why → WritesSome At Fails IsText (message first) (position first) n (Takes old now) why
  written_missing At Fails IsText first p n k old now why before few missing = (before.text, record { entries = before.entries; few = omega (arith, few, before.many); offset = position p; run = before.run; lines = before.lines; next = subst (λ m. Fails m (position p) why) (same_message first p (position p) before.moves) missing }, before.puts)

  -- none yet
  pub recorded_none : (rcode : ℕ) (s : Section) (p : Parser) (old : S) → Recorded rcode s p 0 p (Takes old old) false
  unfolding written_none
  recorded_none rcode s p old = record { written = written_none RecordAt (IsEntryText rcode s) p old; known = refl }

  -- one more
  pub recorded_more : (rcode : ℕ) (s : Section) (first p q : Parser) (n : ℕ) (old now new : S) (x : RecordFields) (seen still_seen : Bool) → Recorded rcode s first n p (Takes old now) seen → RecordAt (message p) (position p) x (position q) → MovesTo p q (position q)
      → ((others : List RecordFields) → seen ≡ list_any (is_opt_in s) others → (text : List ℕ) × IsEntryText rcode s others x text × Takes now new text)
      → ((others : List RecordFields) → seen ≡ list_any (is_opt_in s) others → still_seen ≡ list_any (is_opt_in s) (others ++ x ∷ [])) → Recorded rcode s first (n + 1) q (Takes old new) still_seen
  unfolding written_more
  recorded_more rcode s first p q n old now new x seen still_seen before at moves shown known =
      let text = shown before.written.entries before.known in
      record {
        written = written_more RecordAt (IsEntryText rcode s) first p q n old now new x text.0 before.written at moves text.1 text.2;
        known = known before.written.entries before.known;
      }

  pub wrote_section : (m : List ℕ) (s : Section) (r p e n : ℕ) (old mid new : S) → r ≡ header_rcode m → n ≡ counted_records m s → Takes old mid (section_heading s ++ 10 ∷ []) → WritesAll RecordAt (IsEntryText r s) m p n e (Takes mid new) → Wrote (ShowsSection m s p e) (Takes old new)
  wrote_section m s r p e n old mid new code count head all =
      let lines = subst (λ r. ShowsAll RecordAt (IsEntryText r s) m p (counted_records m s) e all.0) code (subst (λ n. ShowsAll RecordAt (IsEntryText r s) m p n e all.0) count all.1) in
      ((section_heading s ++ 10 ∷ []) ++ all.0, (all.0, lines, refl), joined old mid new (section_heading s ++ 10 ∷ []) all.0 head all.2)

  pub stopped_section : (m : List ℕ) (s : Section) (r p n : ℕ) (old mid new : S) (result : Result (Unit {0}) ToolError) → r ≡ header_rcode m → n ≡ counted_records m s → Takes old mid (section_heading s ++ 10 ∷ []) → IfRefused result (λ why. WritesSome RecordAt NoRecord (IsEntryText r s) m p n (Takes mid new) why) → IfRefused result (λ why. Wrote (λ text. StopsInSection m s p text why) (Takes old new))
  stopped_section m s r p n old mid new result code count head = refused_so result (λ why. WritesSome RecordAt NoRecord (IsEntryText r s) m p n (Takes mid new) why) (λ why. Wrote (λ text. StopsInSection m s p text why) (Takes old new)) (λ why some.
      let lines = subst (λ r. ShowsSome RecordAt NoRecord (IsEntryText r s) m p (counted_records m s) some.0 why) code (subst (λ n. ShowsSome RecordAt NoRecord (IsEntryText r s) m p n some.0 why) count some.1) in
      ((section_heading s ++ 10 ∷ []) ++ some.0, (some.0, lines, refl), joined old mid new (section_heading s ++ 10 ∷ []) some.0 head some.2))

  pub wrote_questions : (m : List ℕ) (p e n : ℕ) (old mid new : S) → 12 ≤ length m → p ≡ 12 → n ≡ number16 m 4 → Takes old mid (header_lines m ++ questions_heading) → WritesAll QuestionAt IsQuestionText m p n e (Takes mid new) → Wrote (ShowsQuestions m e) (Takes old new)
  wrote_questions m p e n old mid new long start count head all =
      let lines = subst (λ n. ShowsAll QuestionAt IsQuestionText m 12 n e all.0) count (subst (λ p. ShowsAll QuestionAt IsQuestionText m p n e all.0) start all.1) in
      (header_lines m ++ questions_heading ++ all.0, (all.0, long, lines, refl), joined old mid new (header_lines m ++ questions_heading) all.0 head all.2)

  pub stopped_questions : (m : List ℕ) (p n : ℕ) (old mid new : S) (r : Result (Unit {0}) ToolError) → 12 ≤ length m → p ≡ 12 → n ≡ number16 m 4 → Takes old mid (header_lines m ++ questions_heading) → IfRefused r (λ why. WritesSome QuestionAt NoQuestion IsQuestionText m p n (Takes mid new) why) → IfRefused r (λ why. PutsUntil m why (Takes old new))
  stopped_questions m p n old mid new r long start count head = refused_so r (λ why. WritesSome QuestionAt NoQuestion IsQuestionText m p n (Takes mid new) why) (λ why. PutsUntil m why (Takes old new)) (λ why some.
      let lines = subst (λ n. ShowsSome QuestionAt NoQuestion IsQuestionText m 12 n some.0 why) count (subst (λ p. ShowsSome QuestionAt NoQuestion IsQuestionText m p n some.0 why) start some.1) in
      (header_lines m ++ questions_heading ++ some.0, no_question (some.0, long, lines, refl), joined old mid new (header_lines m ++ questions_heading) some.0 head some.2))

  pub wrote_answers : (m o : List ℕ) (p e : ℕ) (old mid new : S) → o ≡ m → Wrote (ShowsQuestions m p) (Takes old mid) → Wrote (ShowsSection o Answer p e) (Takes mid new) → Wrote (ShowsAnswers m e) (Takes old new)
  wrote_answers m o p e old mid new same before here = (before.0 ++ here.0, (p, before.0, here.0, before.1, subst (λ o. ShowsSection o Answer p e here.0) same here.1, refl), joined old mid new before.0 here.0 before.2 here.2)

  pub wrote_authority : (m o : List ℕ) (p e : ℕ) (old mid new : S) → o ≡ m → Wrote (ShowsAnswers m p) (Takes old mid) → Wrote (ShowsSection o Authority p e) (Takes mid new) → Wrote (ShowsAuthority m e) (Takes old new)
  wrote_authority m o p e old mid new same before here = (before.0 ++ here.0, (p, before.0, here.0, before.1, subst (λ o. ShowsSection o Authority p e here.0) same here.1, refl), joined old mid new before.0 here.0 before.2 here.2)

  pub wrote_rest : (m o : List ℕ) (p e n : ℕ) (old mid new : S) → o ≡ m → n ≡ length (drop e o) → Wrote (ShowsSection m Additional p e) (Takes old mid) → Takes mid new (trailing_text n) → Wrote (ShowsRest m p) (Takes old new)
  wrote_rest m o p e n old mid new same count here after =
      let last = subst (λ n. Takes mid new (trailing_text n)) (count ∙ ap (λ o. length (drop e o)) same) after in
      (here.0 ++ trailing_text (length (drop e m)), (e, here.0, here.1, refl), joined old mid new here.0 (trailing_text (length (drop e m))) here.2 last)

  pub wrote_message : (m o : List ℕ) (p : ℕ) (old mid new : S) → o ≡ m → Wrote (ShowsAuthority m p) (Takes old mid) → Wrote (ShowsRest o p) (Takes mid new) → PutsMessage m (Takes old new)
  wrote_message m o p old mid new same before rest = (before.0 ++ rest.0, (p, before.0, rest.0, before.1, subst (λ o. ShowsRest o p rest.0) same rest.1, refl), joined old mid new before.0 rest.0 before.2 rest.2)

  pub stopped_answers : (m o : List ℕ) (p : ℕ) (old mid new : S) (r : Result (Unit {0}) ToolError) → o ≡ m → Wrote (ShowsQuestions m p) (Takes old mid) → IfRefused r (λ why. Wrote (λ text. StopsInSection o Answer p text why) (Takes mid new)) → IfRefused r (λ why. PutsUntil m why (Takes old new))
  stopped_answers m o p old mid new r same before = refused_so r (λ why. Wrote (λ text. StopsInSection o Answer p text why) (Takes mid new)) (λ why. PutsUntil m why (Takes old new)) (λ why here. (before.0 ++ here.0, no_answer p before.0 here.0 before.1 (subst (λ o. StopsInSection o Answer p here.0 why) same here.1) refl, joined old mid new before.0 here.0 before.2 here.2))

  pub stopped_authority : (m o : List ℕ) (p : ℕ) (old mid new : S) (r : Result (Unit {0}) ToolError) → o ≡ m → Wrote (ShowsAnswers m p) (Takes old mid) → IfRefused r (λ why. Wrote (λ text. StopsInSection o Authority p text why) (Takes mid new)) → IfRefused r (λ why. PutsUntil m why (Takes old new))
  stopped_authority m o p old mid new r same before = refused_so r (λ why. Wrote (λ text. StopsInSection o Authority p text why) (Takes mid new)) (λ why. PutsUntil m why (Takes old new)) (λ why here. (before.0 ++ here.0, no_authority p before.0 here.0 before.1 (subst (λ o. StopsInSection o Authority p here.0 why) same here.1) refl, joined old mid new before.0 here.0 before.2 here.2))

  pub stopped_additional : (m o : List ℕ) (p : ℕ) (old mid new : S) (r : Result (Unit {0}) ToolError) → o ≡ m → Wrote (ShowsAuthority m p) (Takes old mid) → IfRefused r (λ why. Wrote (λ text. StopsInSection o Additional p text why) (Takes mid new)) → IfRefused r (λ why. PutsUntil m why (Takes old new))
  stopped_additional m o p old mid new r same before = refused_so r (λ why. Wrote (λ text. StopsInSection o Additional p text why) (Takes mid new)) (λ why. PutsUntil m why (Takes old new)) (λ why here. (before.0 ++ here.0, no_additional p before.0 here.0 before.1 (subst (λ o. StopsInSection o Additional p here.0 why) same here.1) refl, joined old mid new before.0 here.0 before.2 here.2))

  -- a message of fewer octets than a header has
  pub stopped_short : (m : List ℕ) (old : S) → length m < 12 → PutsUntil m ShortInput (Takes old old)
  stopped_short m old short = ([], no_header short refl refl, nothing old)

  -- the lines of the header, and the line above the questions
  pub wrote_header : (m : List ℕ) (id high low q a u d : ℕ) (old one two new : S) → id ≡ number16 m 0 → high ≡ slice_index m 2 → low ≡ slice_index m 3 → q ≡ number16 m 4 → a ≡ number16 m 6 → u ≡ number16 m 8 → d ≡ number16 m 10
      → Takes old one (codes_line id high low ++ 10 ∷ []) → Takes one two (counts_line high low q a u d ++ 10 ∷ []) → Takes two new questions_heading → Takes old new (header_lines m ++ questions_heading)
  wrote_header m id high low q a u d old one two new i h l x y z w first second third =
      let first = subst (λ t. Takes old one (t ++ 10 ∷ [])) (codes_line_is i h l) first in
      let second = subst (λ t. Takes one two (t ++ 10 ∷ [])) (counts_line_is h l x y z w) second in
      joined old two new (header_lines m) questions_heading (joined old one two _ _ first second) third
