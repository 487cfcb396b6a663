-- Entries that were skipped, one after the other.
use Rattle.std.proofs.Common.{◌≡◌, ℕ, ◌+◌, ◌<◌, List, [], ◌∷◌, ◌++◌, length, length-append, refl, sym, ap, subst, ◌∙◌, arith}
use Rattle.std.specs.Prelude.{Result, Ok, Some}
use Rattle.octseq.specs.declared.parse.Parser.{Parser}
use Rattle.octseq.specs.Parsing.{message, position, MovesTo}
use Rattle.domain_wire.specs.declared.error.ParseError.{ParseError}
use Rattle.domain_message.specs.Sections.{Run, entries_left, counted_records, Begins, BeginsAfter, Misses, QuestionsTo, RecordsTo, NoRecords, records_section, records_message, records_offset, records_left}
use Rattle.domain_header.specs.Numbers.{number16}
use Rattle.domain_message.specs.SectionOrder.{section_after}
use Rattle.domain_message.specs.Entries.{QuestionAt, RecordAt, NoRecord}
use Rattle.domain_message.specs.Sections.Misses.{now}
use Rattle.domain_message.specs.declared.section.RecordSection.{RecordSection}
use Rattle.domain_message.specs.declared.section.Section.{Section}
use Rattle.domain_message.specs.ParserFacts.{same_message}
use Rattle.domain_message.specs.RunFacts.{run_and}

-- The parser skipped n entries.
pub record Skipped {V : Type 0} (At : List ℕ → ℕ → V → ℕ → Type 0) (old : Parser) (n : ℕ) (new : Parser) : Type 0 where
  pub items : List V
  pub many : length items ≡ n
  pub run : Run At (message old) (position old) items (position new)
  pub moves : MovesTo old new (position new)

pub skipped_none : {V : Type 0} (At : List ℕ → ℕ → V → ℕ → Type 0) (p : Parser) → Skipped At p 0 p
skipped_none At p = record { items = []; many = refl; run = refl; moves = record { octets = refl; end = refl; offset = refl } }

pub skipped_more : {V : Type 0} (At : List ℕ → ℕ → V → ℕ → Type 0) (old mid new : Parser) (n : ℕ) (x : V) → Skipped At old n mid → At (message mid) (position mid) x (position new) → MovesTo mid new (position new) → Skipped At old (n + 1) new
skipped_more At old mid new n x before at moves = record {
  items = before.items ++ x ∷ [];
  many = length-append before.items (x ∷ []) ∙ ap (λ k. k + 1) before.many;
  run = run_and At (message old) (position old) (position mid) (position new) before.items x before.run (subst (λ m. At m (position mid) x (position new)) (same_message old mid (position mid) before.moves) at);
  moves = record { octets = moves.octets ∙ before.moves.octets; end = moves.end ∙ before.moves.end; offset = refl };
}

-- all entries were skipped, and a section begins after them
pub begins : {V : Type 0} (At : List ℕ → ℕ → V → ℕ → Type 0) (old new : Parser) (n : ℕ) (c : Result ℕ ParseError) (s : Section) (it : RecordSection) → c ≡ Ok n → Skipped At old n new → Begins (message new) s (position new) it → BeginsAfter At (message old) (position old) c s it
begins At old new n c s it is skipped begin = (skipped.items, position new, is ∙ ap (λ k. Ok k) (sym skipped.many), skipped.run, subst (λ m. Begins m s (position new) it) (same_message old new (position new) skipped.moves) begin)

-- an entry is missing
pub misses : {V : Type 0} (At : List ℕ → ℕ → V → ℕ → Type 0) (Fails : List ℕ → ℕ → ParseError → Type 0) (old mid : Parser) (k n : ℕ) (c : Result ℕ ParseError) (why : ParseError) → c ≡ Ok n → Skipped At old k mid → k < n → Fails (message mid) (position mid) why → Misses At Fails (message old) (position old) c why
misses At Fails old mid k n c why is skipped few fails = now n is record {
  before = skipped.items;
  few = omega (arith, few, skipped.many);
  offset = position mid;
  run = skipped.run;
  missing = subst (λ m. Fails m (position mid) why) (same_message old mid (position mid) skipped.moves) fails;
}

pub questions_to : (m : List ℕ) (s : Section) (it : RecordSection) → BeginsAfter QuestionAt m 12 (Ok (number16 m 4)) s it → (e : ℕ) × QuestionsTo m e × Begins m s e it
questions_to m s it (xs, e, many, run, begin) = (e, (xs, sym (ap (λ c. entries_left c) many), run), begin)

-- the section after another
abbrev pub GivesSection : RecordSection → RecordSection → Type 0
GivesSection self it = (s : Section) × (section_after (records_section self) ≡ Some s) × BeginsAfter RecordAt (records_message self) (records_offset self) (records_left self) s it

pub records_to : (m : List ℕ) (s t : Section) (p : ℕ) (self it : RecordSection) → section_after s ≡ Some t → Begins m s p self → GivesSection self it → (e : ℕ) × RecordsTo m s p e × Begins m t e it
records_to m s t p self it next begin (u, is, (xs, e, many, run, after)) =
    let same : u ≡ t = cc (next, is, begin.section) in
    let octets = begin.message in
    let position = begin.offset in
    let count : length xs ≡ counted_records m s = sym (ap (λ c. entries_left c) many) ∙ ap (λ c. entries_left c) begin.left in
    (e, (xs, count, subst (λ o. Run RecordAt o p xs e) octets (subst (λ q. Run RecordAt (records_message self) q xs e) position run)), subst (λ o. Begins o t e it) octets (subst (λ v. Begins (records_message self) v e it) same after))

pub no_records : (m : List ℕ) (s : Section) (p : ℕ) (self : RecordSection) (why : ParseError) → Begins m s p self → Misses RecordAt NoRecord (records_message self) (records_offset self) (records_left self) why → NoRecords m s p why
no_records m s p self why begin misses =
    subst (λ c. Misses RecordAt NoRecord m p c why) begin.left (subst (λ q. Misses RecordAt NoRecord m q (records_left self) why) begin.offset (subst (λ o. Misses RecordAt NoRecord o (records_offset self) (records_left self) why) begin.message misses))
