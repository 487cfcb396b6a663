-- The text of a zone is loaded as that zone.
use Rattle.std.proofs.Common.{◌≡◌, ◌≢◌, ◌∙◌, ℕ, List, [], ◌∷◌, ◌++◌, map, Some, refl, sym, ap, subst, append-nil}
use Rattle.std.specs.List.{AllByRecursion, AllZip, Contains}
use Rattle.std.proofs.lemmas.List.Elements.{All-contains, recursion_from_All}
use Rattle.domain_label.proofs.WireLaws.{labels_in_wire}
use Rattle.domain_label.specs.Wire.{wire, Root, IsAbsoluteName, labels_in}
use Rattle.domain_list.specs.Ends.{EndsWith}
use Rattle.domain_zone.proofs.Good.{faultless}
use Rattle.domain_zone.proofs.Had.{canonical_had}
use Rattle.domain_zone.specs.Building.{Inserted, Holds}
use Rattle.domain_zone.specs.Kept.{zone_view}
use Rattle.domain_zone.specs.declared.building.InsertError.{InsertError}
use Rattle.domain_zone.specs.declared.building.InsertError.TheVariants as insert
use Rattle.domain_zone.specs.declared.fault.ZoneFault.{ZoneFault}
use Rattle.domain_zone.specs.declared.kept.Zone as kept
use Rattle.domain_zone_laws.specs.Zone.{Zone, RRset, IsDataType, NSEC3}
use Rattle.domain_zone_load.specs.declared.error.LoadError.{LoadError}
use Rattle.domain_zone_load.specs.declared.error.LoadError.TheVariants as load
use Rattle.domain_zone_load.specs.Loads.{FailsAt, IsNoZone, IsText, IsZoneOf, MakesNone, records_of, StopsAt}
use Rattle.domain_zone_load.specs.Takings.{CanBeIn, CanNotBeIn, first_setting, IsIncludeEntry, IsRefusedRecord}
use Rattle.domain_zone_text.proofs.Lines.{reads_records}
use Rattle.domain_zone_text.proofs.Outcomes.{one_entry, one_outcome}
use Rattle.domain_rdata_text.specs.declared.place.Place.{Place}
use Rattle.domain_zone_text.specs.declared.error.EntryFault.{EntryFault}
use Rattle.domain_zone_text.specs.declared.error.EntryReason.{EntryReason}
use Rattle.domain_zone_text.specs.Lines.{Written, IsRecord, ReadsRecords, after_record, record_said}
use Rattle.domain_zone_text.specs.Meanings.{Setting}
use Rattle.domain_zone_text.specs.Reading.{EntrySaid, IsEntryFault}
use Rattle.domain_zone_text.specs.Reading.EntrySaid.{blank}
use Rattle.domain_zone_text.specs.Readers.{ReadsNext}
use Rattle.domain_zone_write.proofs.Alike.{zone_alike}
use Rattle.domain_zone_write.proofs.Members.{all_from}
use Rattle.domain_zone_write.proofs.Reading.{IsSayable, are_records, line_among, next_reads, none_left, parted, reads_blank, records_back}
use Rattle.domain_zone_write.proofs.Same.{alike_from, alike_to, same_records, there_of}
use Rattle.domain_zone_write.specs.Laws.{IsLoadedAs, IsMemory, IsReadable, IsReadableZone, IsSameZone}
use Rattle.domain_zone_write.specs.Texts.{IsLineOf, IsZoneText, zone_records}

-- a record of the zone, of whose entry P holds
abbrev StoppingOf : Zone → ℕ → (EntrySaid → Type 0) → Type 0
StoppingOf z class P = (r : Inserted) × (w : Written) × Contains (zone_records z) r × IsLineOf class r w × P (record_said w)

module _ (z : Zone) (apex : List ℕ) (class : ℕ) (text : List ℕ) (ok : IsReadableZone class z) (at : labels_in apex ≡ z.apex) (lines : IsZoneText class z text) where
  name_of : (r : Inserted) → Contains (zone_records z) r → IsAbsoluteName r.owner
  name_of r c =
      let it = there_of z r c in
      let named = All-contains (λ (s : RRset). IsAbsoluteName s.owner × EndsWith s.owner z.apex) z.rrsets it.0 ok.zone.names it.1 in
      subst (λ (x : Inserted). IsAbsoluteName x.owner) it.2.2 named.0

  sayable : AllByRecursion (IsSayable class) (zone_records z)
  sayable = recursion_from_All (IsSayable class) (zone_records z) (all_from (IsSayable class) (zone_records z)
      (λ r c. record { readable = All-contains (IsReadable class) (zone_records z) r ok.records c; name = name_of r c }))

  records : AllByRecursion IsRecord lines.0
  records = are_records class (zone_records z) lines.0 sayable lines.1

  reads : (s : Setting) → ReadsRecords s text lines.0
  reads s = subst (λ (x : List ℕ). ReadsRecords s x lines.0) (sym lines.2) (reads_records lines.0 records s)

  -- ---- all entries are read
  -- what a text's entries add are the records of the zone
  records_are : (rs : List Inserted) → IsText text apex class rs → rs ≡ zone_records z
  records_are rs it =
      let s = first_setting apex class in
      let has = parted s it.left text [] it.takes.entries lines.0 it.takes.has (reads s) in
      let all : lines.0 ≡ has.before = has.parts ∙ (ap (λ (x : List Written). has.before ++ x) (none_left it.left has.after has.reads) ∙ append-nil has.before) in
      it.takes.are ∙ (ap records_of (has.entries ∙ ap (λ (x : List Written). map record_said x) (sym all)) ∙ records_back class (zone_records z) lines.0 sayable lines.1)

  -- so they are the zone
  pub same_zone : (made : kept.Zone) → IsZoneOf text apex class made → IsSameZone class z made
  same_zone made it =
      let view = zone_view made in
      let holds : Holds (zone_records z) view.rrsets = subst (λ (x : List Inserted). Holds x view.rrsets) (records_are it.records it.text_has) it.holds in
      record {
        apex = it.apex_is ∙ at;
        class_is = it.class_is;
        records = sym (same_records z view ok.canonical ok.zone (canonical_had view made.canonical) holds);
      }

  -- ---- no entry is refused
  no_fault_of : (t : Setting) (rest : List ℕ) (after : List Written) (f : EntryFault) → ReadsRecords t rest after → IsEntryFault t rest f → ⊥
  no_fault_of t rest [] f have bad =
      let bad_end : IsEntryFault t [] f = subst (λ (x : List ℕ). IsEntryFault t x f) have bad in
      one_outcome t [] blank [] t f (reads_blank t) bad_end
  no_fault_of t rest (w ∷ after) f have bad = one_outcome t rest (record_said w) have.0 (after_record t w) f have.1 bad

  unfailing : (place : Place) (why : EntryReason) → FailsAt (first_setting apex class) text (labels_in apex) class place why → ⊥
  unfailing place why it =
      let s = first_setting apex class in
      let has = parted s it.left text it.rest it.before.entries lines.0 it.before.has (reads s) in
      no_fault_of it.left it.rest has.after it.fault.found has.reads it.fault.is

  -- the entry that stops is a record of the zone
  stopping_at : (P : EntrySaid → Type 0) (t : Setting) (rest : List ℕ) (before after : List Written) (said : EntrySaid) (behind : List ℕ) (u : Setting)
      → lines.0 ≡ before ++ after → ReadsRecords t rest after → ReadsNext t rest (Some said) behind u → P said → StoppingOf z class P
  stopping_at P t rest before [] said behind u parts have next p =
      absurd (subst (λ (x : List ℕ). ReadsNext t x (Some said) behind u) have next)
  stopping_at P t rest before (w ∷ after) said behind u parts have next p =
      let same = (one_entry t rest said (record_said w) behind have.0 u (after_record t w) (next_reads t rest said behind u next) have.1).0 in
      let it = line_among class (zone_records z) before after w (subst (λ (x : List Written). AllZip (IsLineOf class) (zone_records z) x) parts lines.1) in
      (it.0, w, it.1, it.2, subst P same p)

  stopping : (P : EntrySaid → Type 0) (place : Place) → StopsAt (first_setting apex class) text (labels_in apex) class place P → StoppingOf z class P
  stopping P place it =
      let s = first_setting apex class in
      let has = parted s it.left text it.rest it.before.entries lines.0 it.before.has (reads s) in
      stopping_at P it.left it.rest has.before has.after it.said it.after it.next has.parts has.reads it.reads it.refused

  can_be : (r : Inserted) (w : Written) → Contains (zone_records z) r → IsLineOf class r w → CanBeIn (labels_in apex) class (labels_in (wire (w.owner ++ Root))) w.class w.rtype
  can_be r w c line =
      let it = there_of z r c in
      let s = it.0 in
      let named = All-contains (λ (x : RRset). IsAbsoluteName x.owner × EndsWith x.owner z.apex) z.rrsets s ok.zone.names it.1 in
      let kind = All-contains (λ (x : RRset). IsDataType x.rtype × (x.rtype ≢ NSEC3)) z.rrsets s ok.zone.types it.1 in
      let owner : s.owner ≡ labels_in (wire (w.owner ++ Root)) = ap (λ (x : Inserted). x.owner) it.2.2 ∙ (sym line.owner_is ∙ sym (labels_in_wire (w.owner ++ Root))) in
      let rtype : s.rtype ≡ w.rtype = ap (λ (x : Inserted). x.rtype) it.2.2 ∙ sym line.rtype_is in (
        line.class_is,
        subst (λ (x : List (List ℕ)). EndsWith (labels_in (wire (w.owner ++ Root))) x) (sym at) (subst (λ (x : List (List ℕ)). EndsWith x z.apex) owner named.1),
        subst (λ (x : ℕ). IsDataType x × (x ≢ NSEC3)) rtype kind,
      )

  refused_for : (apex : List (List ℕ)) (owner : List (List ℕ)) (c t : ℕ) (why : InsertError) → CanBeIn apex class owner c t → CanNotBeIn apex class owner c t why → why ≡ insert.Memory
  refused_for apex owner c t insert.OtherClass can not_so = absurd (not_so can.0)
  refused_for apex owner c t insert.OutOfZone can not_so = absurd (not_so can.1)
  refused_for apex owner c t insert.NotDataType can not_so = absurd (not_so can.2)
  refused_for apex owner c t insert.Memory can not_so = refl

  no_include : (place : Place) → StopsAt (first_setting apex class) text (labels_in apex) class place IsIncludeEntry → ⊥
  no_include place it = (stopping IsIncludeEntry place it).4

  no_refusal : (place : Place) (why : InsertError) → StopsAt (first_setting apex class) text (labels_in apex) class place (IsRefusedRecord (labels_in apex) class why) → why ≡ insert.Memory
  no_refusal place why it =
      let stop = stopping (IsRefusedRecord (labels_in apex) class why) place it in
      refused_for (labels_in apex) (labels_in (wire (stop.1.owner ++ Root))) stop.1.class stop.1.rtype why (can_be stop.0 stop.1 stop.2 stop.3) stop.4

  -- ---- the RRsets have no fault
  made_one : (fault : ZoneFault) → MakesNone text apex class fault → ⊥
  made_one fault it =
      let t = it.zone in
      let holds : Holds (zone_records z) t.rrsets = subst (λ (x : List Inserted). Holds x t.rrsets) (records_are it.records it.text_has) it.holds in
      let good = zone_alike z t ok.zone it.canonical.sorted (it.apex_is ∙ at)
      (alike_to z t ok.canonical ok.zone it.canonical holds)
      (alike_from z t ok.canonical ok.zone it.canonical holds) in
      faultless t fault it.faulty it.canonical good

  pub refused_by_memory : (why : LoadError) → IsNoZone text apex class why → IsMemory why
  refused_by_memory (load.Entry place why) it = unfailing place why it
  refused_by_memory (load.Include place) it = no_include place it
  refused_by_memory (load.Record place why) it = no_refusal place why it
  refused_by_memory (load.Zone fault) it = made_one fault it
  refused_by_memory load.Memory it = tt

  pub loaded : IsLoadedAs text apex class z
  loaded = record { same = same_zone; accepted = refused_by_memory }
