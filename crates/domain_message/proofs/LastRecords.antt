-- The last record of a section.
use Rattle.std.proofs.Common.{◌≡◌, ℕ, ◌+◌, ◌<◌, List, sym, ap, subst, arith, ◌∙◌}
use Rattle.octseq.specs.Parsing.{message, position}
use Rattle.octseq.specs.declared.parse.Parser.{Parser}
use Rattle.domain_header.specs.Numbers.{number16}
use Rattle.domain_wire.specs.declared.error.ParseError.{ParseError}
use Rattle.domain_message.specs.Entries.{RecordAt, NoRecord}
use Rattle.domain_message.specs.LastRecords.{IsLastAt, IsLastRecord, LacksRecord}
use Rattle.domain_message.specs.ParserFacts.{same_message}
use Rattle.domain_message.specs.RecordModel.{record_fields}
use Rattle.domain_message.specs.Sections.{Run, Lacks, Begins, entries_left, records_offset, records_left}
use Rattle.domain_message.specs.declared.record.ParsedRecord.{ParsedRecord}
use Rattle.domain_message.specs.declared.section.RecordSection.{RecordSection}
use Rattle.domain_message.specs.declared.section.Section.TheVariants.{Additional}
use Rattle.domain_message.proofs.Sections.{Skipped}

-- After k records that are there, one more is the last of k + 1.
pub last_is : (old mid : Parser) (m : List ℕ) (p n k e : ℕ) (it : ParsedRecord) → message old ≡ m → position old ≡ p → Skipped RecordAt old k mid → RecordAt (message mid) (position mid) (record_fields it) e → n ≡ k + 1 → IsLastAt m p n it
last_is old mid m p n k e it octets offset skipped at count =
    let many = skipped.many in (
      skipped.items,
      position mid,
      e,
      subst (λ x. Run RecordAt x p skipped.items (position mid)) octets (subst (λ q. Run RecordAt (message old) q skipped.items (position mid)) offset skipped.run),
      subst (λ x. RecordAt x (position mid) (record_fields it) e) (same_message old mid (position mid) skipped.moves ∙ octets) at,
      omega (arith, count, many),
    )

-- Behind k records that are there none is.
pub lacks_is : (old mid : Parser) (m : List ℕ) (p n k : ℕ) (why : ParseError) → message old ≡ m → position old ≡ p → Skipped RecordAt old k mid → NoRecord (message mid) (position mid) why → k < n → Lacks RecordAt NoRecord m p n why
lacks_is old mid m p n k why octets offset skipped missing few =
    let many = skipped.many in
    record {
      before = skipped.items;
      few = omega (arith, few, many);
      offset = position mid;
      run = subst (λ x. Run RecordAt x p skipped.items (position mid)) octets (subst (λ q. Run RecordAt (message old) q skipped.items (position mid)) offset skipped.run);
      missing = subst (λ x. NoRecord x (position mid) why) (same_message old mid (position mid) skipped.moves ∙ octets) missing;
    }

-- ---- of the additional section

pub last_additional : (m : List ℕ) (e : ℕ) (s : RecordSection) (it : ParsedRecord) → Begins m Additional e s → IsLastRecord s it → IsLastAt m e (number16 m 10) it
last_additional m e s it begins last =
    subst (λ n. IsLastAt m e n it) (ap entries_left begins.left)
    (subst (λ p. IsLastAt m p (entries_left (records_left s)) it) begins.offset
    (subst (λ x. IsLastAt x (records_offset s) (entries_left (records_left s)) it) begins.message last))

pub lacks_additional : (m : List ℕ) (e : ℕ) (s : RecordSection) (why : ParseError) → Begins m Additional e s → LacksRecord s why → Lacks RecordAt NoRecord m e (number16 m 10) why
lacks_additional m e s why begins lacks =
    subst (λ n. Lacks RecordAt NoRecord m e n why) (ap entries_left begins.left)
    (subst (λ p. Lacks RecordAt NoRecord m p (entries_left (records_left s)) why) begins.offset
    (subst (λ x. Lacks RecordAt NoRecord x (records_offset s) (entries_left (records_left s)) why) begins.message lacks))

pub none_additional : (m : List ℕ) (e : ℕ) (s : RecordSection) → Begins m Additional e s → entries_left (records_left s) ≡ 0 → number16 m 10 ≡ 0
none_additional m e s begins none = sym (ap entries_left begins.left) ∙ none
