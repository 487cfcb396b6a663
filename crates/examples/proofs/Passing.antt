-- From what `limit_to` returned to the records of the section.
use Rattle.std.proofs.Common.{◌≡◌, ℕ, ◌+◌, List, [], ◌∷◌, ◌++◌, length, length-append, refl, sym, ap, subst, ◌∙◌, inl, inr, arith}
use Rattle.std.specs.Prelude.{Bool, true, false, nat_eq, All, Some, None, Ok, Err}
use Rattle.std.proofs.lemmas.Bool.{eqb-true, eqb-false}
use Rattle.std.proofs.lemmas.List.Elements.{All-nil, All-cons}
use Rattle.octseq.specs.declared.octets.Octets.{Ghosts}
use Rattle.octseq.specs.Parsing.{message, position}
use Rattle.domain_wire.specs.declared.error.ParseError.{ParseError}
use Rattle.domain_parsed.specs.declared.parsed.ParsedName.{ParsedName}
use Rattle.domain_message.specs.Entries.{RecordFields, RecordAt, NoRecord}
use Rattle.domain_message.specs.Kept.{keeps, AreOthers, IsMadeOf, GivesKept, kept_parser, kept_left, kept_class}
use Rattle.domain_message.specs.Sections.{Run, Begins, counted_records, entries_left, records_message, records_offset, records_left}
use Rattle.domain_message.specs.declared.section.RecordSection.{RecordSection}
use Rattle.domain_message.specs.declared.section.Section.{Section}
use Rattle.domain_message.specs.declared.kept.RecordIter.{RecordIter}
use Rattle.domain_message.specs.declared.resource_record.Record.{Record}
use Rattle.examples.specs.MessageHosts.{StopsAtRecord}

-- The record is of another type.
abbrev pub IsNot : ℕ → RecordFields → Type 0
IsNot t it = it.header.rtype ≡ t → ⊥

-- The records from the iterator s up to the iterator u are as Read says.
pub record Passed {D E : Type 0} (Read : List RecordFields → Type 0) (s u : RecordIter D E) : Type 0 where
  pub octets : message (kept_parser u) ≡ message (kept_parser s)
  pub class : kept_class u ≡ false
  pub before : List RecordFields
  pub read : Read before
  pub count : kept_left s ≡ length before + kept_left u
  pub run : Run RecordAt (message (kept_parser s)) (position (kept_parser s)) before (position (kept_parser u))

pub passed_none : {D E : Type 0} (Read : List RecordFields → Type 0) (s : RecordIter D E) → kept_class s ≡ false → Read [] → Passed Read s s
passed_none Read s class read = record { octets = refl; class = class; before = []; read = read; count = omega arith; run = refl }

run_append : (m : List ℕ) (p q e : ℕ) (xs ys : List RecordFields) → Run RecordAt m p xs q → Run RecordAt m q ys e → Run RecordAt m p (xs ++ ys) e
run_append m p q e [] ys a b = subst (λ r. Run RecordAt m r ys e) a b
run_append m p q e (x ∷ xs) ys a b = (a.0, a.1, run_append m a.0 q e xs ys a.2 b)

kept_type : (t : ℕ) (c : Bool) (it : RecordFields) → c ≡ false → keeps (λ r. nat_eq r t) c it ≡ true → it.header.rtype ≡ t
kept_type t c it any kept =
    let same : nat_eq it.header.rtype t ≡ true = subst (λ b. keeps (λ r. nat_eq r t) b it ≡ true) any kept in
    eqb-true it.header.rtype t same

other_type : (t : ℕ) (c : Bool) (it : RecordFields) → c ≡ false → keeps (λ r. nat_eq r t) c it ≡ false → IsNot t it
other_type t c it any kept =
    let other : nat_eq it.header.rtype t ≡ false = subst (λ b. keeps (λ r. nat_eq r t) b it ≡ false) any kept in
    eqb-false it.header.rtype t other

other_types : (t : ℕ) (c : Bool) (its : List RecordFields) → c ≡ false → AreOthers (keeps (λ r. nat_eq r t) c) its → All (IsNot t) its
other_types t c [] any others = All-nil (IsNot t)
other_types t c (it ∷ its) any others = All-cons (IsNot t) it its (other_type t c it any others.0) (other_types t c its any others.1)

-- Of the records left at s the next one of the type t is this, those before it are as More says, and its data was
-- read.
pub record Found {O D E V : Type 0} {g : Ghosts O} (t : ℕ) (seen : D → V) (At : List ℕ → ℕ → V → ℕ → Type 0) (More : List RecordFields → Type 0) (s u : RecordIter D E) (made : Record (ParsedName O g) D) : Type 0 where
  pub octets : message (kept_parser u) ≡ message (kept_parser s)
  pub class : kept_class u ≡ false
  pub before : List RecordFields
  pub more : More before
  pub offset : ℕ
  pub run : Run RecordAt (message (kept_parser s)) (position (kept_parser s)) before offset
  pub it : RecordFields
  pub at : RecordAt (message (kept_parser s)) offset it (position (kept_parser u))
  pub of_type : it.header.rtype ≡ t
  pub made_of : IsMadeOf {g = g} (λ _. t) seen (λ _. At) it made
  pub count : kept_left s ≡ length before + 1 + kept_left u

-- What is said of records goes on over those of other types.
abbrev pub GoesOn : ℕ → (List RecordFields → Type 0) → Type 0
GoesOn t Read = (xs ys : List RecordFields) → Read xs → All (IsNot t) ys → Read (xs ++ ys)

pub found : {O D E V : Type 0} {g : Ghosts O} (t : ℕ) (seen : D → V) (At : List ℕ → ℕ → V → ℕ → Type 0) (Fails : ℕ → List ℕ → ℕ → ParseError → Type 0) (Becomes : ParseError → E → Type 0) (Read : List RecordFields → Type 0) → GoesOn t Read → (s mid u : RecordIter D E) (made : Record (ParsedName O g) D) → Passed Read s mid → GivesKept {g = g} (λ _. t) seen (λ r. nat_eq r t) (λ _. At) Fails Becomes mid (Some (Ok made)) u → Found {g = g} t seen At Read s u made
found {g = g} t seen At Fails Becomes Read goes s mid u made passed (octets, class, (it, first, made_of)) = record {
  octets = octets ∙ passed.octets;
  class = class ∙ passed.class;
  before = passed.before ++ first.before;
  more = goes passed.before first.before passed.read (other_types t (kept_class mid) first.before passed.class first.others);
  offset = first.offset;
  run = run_append (message (kept_parser s)) (position (kept_parser s)) (position (kept_parser mid)) first.offset passed.before first.before passed.run (subst (λ m. Run RecordAt m (position (kept_parser mid)) first.before first.offset) passed.octets first.run);
  it = it;
  at = subst (λ m. RecordAt m first.offset it (position (kept_parser u))) passed.octets first.at;
  of_type = kept_type t (kept_class mid) it passed.class first.kept;
  made_of = made_of;
  count = omega (arith, passed.count, first.count, length-append passed.before first.before);
}

-- The record that was found is passed by.
pub passed_found : {O D E V : Type 0} {g : Ghosts O} (t : ℕ) (seen : D → V) (At : List ℕ → ℕ → V → ℕ → Type 0) (Read More : List RecordFields → Type 0) (s u : RecordIter D E) (made : Record (ParsedName O g) D) (f : Found {g = g} t seen At Read s u made) → More (f.before ++ (f.it ∷ [])) → Passed More s u
passed_found t seen At Read More s u made f more = record {
  octets = f.octets;
  class = f.class;
  before = f.before ++ (f.it ∷ []);
  read = more;
  count = omega (arith, f.count, length-append f.before (f.it ∷ []));
  run = run_append (message (kept_parser s)) (position (kept_parser s)) f.offset (position (kept_parser u)) f.before (f.it ∷ []) f.run (position (kept_parser u), f.at, refl);
}

-- All records that were left at s are as Read says.
pub record AllRead {D E : Type 0} (Read : List RecordFields → Type 0) (s : RecordIter D E) : Type 0 where
  pub records : List RecordFields
  pub read : Read records
  pub count : length records ≡ kept_left s
  pub end : ℕ
  pub run : Run RecordAt (message (kept_parser s)) (position (kept_parser s)) records end

pub all_read : {O D E V : Type 0} (g : Ghosts O) (t : ℕ) (seen : D → V) (At : List ℕ → ℕ → V → ℕ → Type 0) (Fails : ℕ → List ℕ → ℕ → ParseError → Type 0) (Becomes : ParseError → E → Type 0) (Read : List RecordFields → Type 0) → GoesOn t Read → (s mid u : RecordIter D E) → Passed Read s mid → GivesKept {g = g} (λ _. t) seen (λ r. nat_eq r t) (λ _. At) Fails Becomes mid None u → AllRead Read s
all_read g t seen At Fails Becomes Read goes s mid u passed (octets, class, (none, over)) = record {
  records = passed.before ++ none.before;
  read = goes passed.before none.before passed.read (other_types t (kept_class mid) none.before passed.class none.others);
  count = omega (arith, passed.count, none.count, length-append passed.before none.before);
  end = none.offset;
  run = run_append (message (kept_parser s)) (position (kept_parser s)) (position (kept_parser mid)) none.offset passed.before none.before passed.run (subst (λ m. Run RecordAt m (position (kept_parser mid)) none.before none.offset) passed.octets none.run);
}

-- Reading stopped.
pub stopped : {O D V : Type 0} (g : Ghosts O) (t : ℕ) (seen : D → V) (At : List ℕ → ℕ → V → ℕ → Type 0) (No : List ℕ → ℕ → ParseError → Type 0) (Becomes : ParseError → ParseError → Type 0) (Read : List RecordFields → Type 0) → ((a b : ParseError) → Becomes a b → b ≡ a) → GoesOn t Read → (s mid u : RecordIter D ParseError) (why : ParseError) → Passed Read s mid → GivesKept {g = g} (λ _. t) seen (λ r. nat_eq r t) (λ _. At) (λ _. No) Becomes mid (Some (Err why)) u → StopsAtRecord t Read No (message (kept_parser s)) (position (kept_parser s)) (kept_left s) why
stopped g t seen At No Becomes Read becomes goes s mid u why passed (octets, class, (over, inl (other, misses, is))) = record {
  before = passed.before ++ misses.before;
  read = goes passed.before misses.before passed.read (other_types t (kept_class mid) misses.before passed.class misses.others);
  few = omega (arith, passed.count, misses.few, length-append passed.before misses.before);
  offset = misses.offset;
  run = run_append (message (kept_parser s)) (position (kept_parser s)) (position (kept_parser mid)) misses.offset passed.before misses.before passed.run (subst (λ m. Run RecordAt m (position (kept_parser mid)) misses.before misses.offset) passed.octets misses.run);
  stops = inl (subst (λ m. NoRecord m misses.offset why) passed.octets (subst (λ e. NoRecord (message (kept_parser mid)) misses.offset e) (sym (becomes other why is)) misses.missing));
}
stopped g t seen At No Becomes Read becomes goes s mid u why passed (octets, class, (over, inr breaks)) = record {
  before = passed.before ++ breaks.before;
  read = goes passed.before breaks.before passed.read (other_types t (kept_class mid) breaks.before passed.class breaks.others);
  few = omega (arith, passed.count, breaks.few, length-append passed.before breaks.before);
  offset = breaks.offset;
  run = run_append (message (kept_parser s)) (position (kept_parser s)) (position (kept_parser mid)) breaks.offset passed.before breaks.before passed.run (subst (λ m. Run RecordAt m (position (kept_parser mid)) breaks.before breaks.offset) passed.octets breaks.run);
  stops = inr (breaks.it, breaks.end, subst (λ m. RecordAt m breaks.offset breaks.it breaks.end) passed.octets breaks.at, kept_type t (kept_class mid) breaks.it passed.class breaks.kept, subst (λ e. No breaks.it.octets breaks.it.start e) (sym (becomes breaks.broken.0 why breaks.broken.2)) breaks.broken.1);
}

-- The iterator is at p of the message m, with n records left.
pub record IsAt {D E : Type 0} (m : List ℕ) (p n : ℕ) (s : RecordIter D E) : Type 0 where
  pub octets : message (kept_parser s) ≡ m
  pub offset : position (kept_parser s) ≡ p
  pub left : kept_left s ≡ n

-- where `limit_to` begins
pub begins_at : {D E : Type 0} (m : List ℕ) (which : Section) (p : ℕ) (section : RecordSection) (s : RecordIter D E) → Begins m which p section → message (kept_parser s) ≡ records_message section → position (kept_parser s) ≡ records_offset section → kept_left s ≡ entries_left (records_left section) → IsAt m p (counted_records m which) s
begins_at m which p section s begins octets offset left = record {
  octets = octets ∙ begins.message;
  offset = offset ∙ begins.offset;
  left = left ∙ ap (λ n. entries_left n) begins.left;
}

pub run_at : {D E : Type 0} (m : List ℕ) (p n e : ℕ) (its : List RecordFields) (s : RecordIter D E) → IsAt m p n s → Run RecordAt (message (kept_parser s)) (position (kept_parser s)) its e → Run RecordAt m p its e
run_at m p n e its s at run = subst (λ o. Run RecordAt o p its e) at.octets (subst (λ q. Run RecordAt (message (kept_parser s)) q its e) at.offset run)

pub stops_at : {D E : Type 0} (t : ℕ) (Read : List RecordFields → Type 0) (No : List ℕ → ℕ → ParseError → Type 0) (m : List ℕ) (p n : ℕ) (s : RecordIter D E) (why : ParseError) → IsAt m p n s → StopsAtRecord t Read No (message (kept_parser s)) (position (kept_parser s)) (kept_left s) why → StopsAtRecord t Read No m p n why
stops_at t Read No m p n s why at stops =
    subst (λ k. StopsAtRecord t Read No m p k why) at.left (subst (λ q. StopsAtRecord t Read No m q (kept_left s) why) at.offset (subst (λ o. StopsAtRecord t Read No o (position (kept_parser s)) (kept_left s) why) at.octets stops))
