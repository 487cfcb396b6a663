-- How the OPT record of a message is found.
use Rattle.std.proofs.Common.{◌≡◌, ◌∙◌, ℕ, List, sym, ap, subst, inl, inr}
use Rattle.std.specs.Prelude.{Bool, false, nat_eq, Option, Some, None, Result, Ok, Err}
use Rattle.octseq.specs.declared.octets.Octets.{Ghosts}
use Rattle.octseq.specs.Parsing.{message, position}
use Rattle.domain_wire.specs.declared.error.ParseError.{ParseError}
use Rattle.domain_label.specs.Wire.{Root}
use Rattle.domain_parsed.specs.ParsedNames.{parsed_labels}
use Rattle.domain_parsed.specs.declared.parsed.ParsedName.{ParsedName}
use Rattle.domain_header.specs.Numbers.{number16}
use Rattle.domain_message.specs.Entries.{RecordFields}
use Rattle.domain_message.specs.Kept.{keeps, FirstKept, MissesKept, TakesKept, IsMadeOf, HasDataError, GivesKept, kept_parser, kept_left, kept_class}
use Rattle.domain_message.specs.RecordParts.{owner_of, class_of, ttl_of, data_of}
use Rattle.domain_header.specs.Values.{class_number, ttl_seconds}
use Rattle.domain_message.specs.Sections.{Begins, entries_left, records_message, records_offset, records_left}
use Rattle.domain_message.specs.declared.section.RecordSection.{RecordSection}
use Rattle.domain_message.specs.declared.section.Section.TheVariants.{Additional}
use Rattle.domain_message.specs.declared.kept.RecordIter.{RecordIter}
use Rattle.domain_message.specs.declared.resource_record.Record.{Record}
use Rattle.domain_message.specs.Options.{AreAllThatIsLeft}
use Rattle.domain_message.specs.OptRecords.{is_opt, SaysOpt, opt_class, opt_ttl, opt_data}
use Rattle.domain_message.specs.OptDataViews.{opt_octets}
use Rattle.domain_message.specs.declared.edns_data.OptData.{OptData}
use Rattle.domain_message.specs.declared.edns.OptRecord.{OptRecord}

-- the iterator is over this message, and over records of any class
pub record IsOver (m : List ℕ) (s : RecordIter OptData ParseError) : Type 0 where
  pub octets : message (kept_parser s) ≡ m
  pub class : kept_class s ≡ false

-- what `next` gives of OPT records
abbrev pub GivesOpt : {O : Type 0} (g : Ghosts O) → (ParseError → ParseError → Type 0) → RecordIter OptData ParseError → Option (Result (Record (ParsedName O g) OptData) ParseError) → RecordIter OptData ParseError → Type 0
GivesOpt g Becomes = GivesKept {g = g} (λ _. 41) opt_octets (λ t. nat_eq t 41) (λ _. AreAllThatIsLeft) (λ _ _ _ _. ⊥) Becomes

-- what it took of the message: at p, with n records left, up to q, with k left
abbrev pub TakesOpt : {O : Type 0} (g : Ghosts O) → (ParseError → ParseError → Type 0) → List ℕ → ℕ → ℕ → Option (Result (Record (ParsedName O g) OptData) ParseError) → ℕ → ℕ → Type 0
TakesOpt g Becomes = TakesKept is_opt (IsMadeOf {g = g} (λ _. 41) opt_octets (λ _. AreAllThatIsLeft)) (HasDataError Becomes (λ _ _ _ _. ⊥)) Becomes

pub over_next : {O : Type 0} (g : Ghosts O) (Becomes : ParseError → ParseError → Type 0) (m : List ℕ) (s t : RecordIter OptData ParseError) (r : Option (Result (Record (ParsedName O g) OptData) ParseError)) → IsOver m s → GivesOpt g Becomes s r t → IsOver m t
over_next g Becomes m s t r over gives = record { octets = gives.0 ∙ over.octets; class = gives.1 ∙ over.class }

-- a call took the next OPT record of the message
pub took : {O : Type 0} (g : Ghosts O) (Becomes : ParseError → ParseError → Type 0) (m : List ℕ) (s t : RecordIter OptData ParseError) (r : Option (Result (Record (ParsedName O g) OptData) ParseError)) (p n : ℕ) → IsOver m s → position (kept_parser s) ≡ p → kept_left s ≡ n → GivesOpt g Becomes s r t → TakesOpt g Becomes m p n r (position (kept_parser t)) (kept_left t)
took g Becomes m s t r p n over offset left gives =
    let Made = IsMadeOf {g = g} (λ _. 41) opt_octets (λ _. AreAllThatIsLeft) in
    let Broken : RecordFields → ParseError → Type 0 = HasDataError Becomes (λ _ _ _ _. ⊥) in
    let P : Bool → Type 0 = λ b. TakesKept (keeps (λ t. nat_eq t 41) b) Made Broken Becomes (message (kept_parser s)) (position (kept_parser s)) (kept_left s) r (position (kept_parser t)) (kept_left t) in
    let Q : List ℕ → Type 0 = λ o. TakesOpt g Becomes o (position (kept_parser s)) (kept_left s) r (position (kept_parser t)) (kept_left t) in
    let R : ℕ → Type 0 = λ i. TakesOpt g Becomes m i (kept_left s) r (position (kept_parser t)) (kept_left t) in
    let S : ℕ → Type 0 = λ i. TakesOpt g Becomes m p i r (position (kept_parser t)) (kept_left t) in
    subst S left (subst R offset (subst Q over.octets (subst P over.class gives.2)))

-- where the records of the section begin
pub begins_over : (m : List ℕ) (e : ℕ) (section : RecordSection) (s : RecordIter OptData ParseError) → Begins m Additional e section → message (kept_parser s) ≡ records_message section → kept_class s ≡ false → IsOver m s
begins_over m e section s begins octets class = record { octets = octets ∙ begins.message; class = class }

pub all_left : (m : List ℕ) (e : ℕ) (section : RecordSection) (n : ℕ) → Begins m Additional e section → n ≡ entries_left (records_left section) → n ≡ number16 m 10
all_left m e section n begins left = left ∙ ap entries_left begins.left

-- an error is that of a record that is missing, since data of this type has none
pub opt_missing : {O : Type 0} (g : Ghosts O) (Becomes : ParseError → ParseError → Type 0) (m : List ℕ) (p n q k : ℕ) (why : ParseError) → ((a b : ParseError) → Becomes a b → b ≡ a) → TakesOpt g Becomes m p n (Some (Err why)) q k → MissesKept is_opt m p n why
opt_missing g Becomes m p n q k why becomes (over, inl (other, misses, is)) = subst (λ w. MissesKept is_opt m p n w) (sym (becomes other why is)) misses
opt_missing g Becomes m p n q k why becomes (over, inr breaks) = absurd breaks.broken.1

-- the owner that was read is the root, or isn't
pub owner_is_root : {O : Type 0} {g : Ghosts O} (it : RecordFields) (made : Record (ParsedName O g) OptData) (owner : ParsedName O g) → IsMadeOf {g = g} (λ _. 41) opt_octets (λ _. AreAllThatIsLeft) it made → owner ≡ owner_of made → parsed_labels owner ≡ Root → it.header.owner ≡ Root
owner_is_root it made owner of is root = sym of.owner ∙ (ap parsed_labels (sym is) ∙ root)

pub owner_is_other : {O : Type 0} {g : Ghosts O} (it : RecordFields) (made : Record (ParsedName O g) OptData) (owner : ParsedName O g) → IsMadeOf {g = g} (λ _. 41) opt_octets (λ _. AreAllThatIsLeft) it made → owner ≡ owner_of made → (parsed_labels owner ≡ Root → ⊥) → it.header.owner ≡ Root → ⊥
owner_is_other it made owner of is other root = other (ap parsed_labels is ∙ (of.owner ∙ root))

-- what is read of the record is what it says
pub says_opt : {O : Type 0} {g : Ghosts O} (it : RecordFields) (made : Record (ParsedName O g) OptData) (opt : OptRecord) → it.header.owner ≡ Root → IsMadeOf {g = g} (λ _. 41) opt_octets (λ _. AreAllThatIsLeft) it made → opt_class opt ≡ class_number (class_of made) → opt_ttl opt ≡ ttl_seconds (ttl_of made) → opt_data opt ≡ data_of made → SaysOpt it opt
says_opt it made opt root of class ttl same = record {
  root = root;
  class = class ∙ of.class;
  ttl = ttl ∙ of.ttl;
  options = (of.data_is.0, subst (λ d. AreAllThatIsLeft it.octets it.start (opt_octets d) of.data_is.0) (sym same) of.data_is.1);
}
