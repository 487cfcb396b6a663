-- What a push leaves in the caller's buffer, and in the builder beside it.
use Rattle.std.proofs.Common.{◌≡◌, ℕ, ◌+◌, ◌-◌, ◌≤◌, ◌<◌, ◌^◌, inl, inr, List, [], ◌∷◌, ◌++◌, length, take, drop, true, false, nat_lt, if◌then◌else◌, ◌/◌, ◌%◌, refl, sym, ap, subst, ◌∙◌, arith, append_assoc, length-append, take-take}
use Rattle.std.proofs.lemmas.Grind.{common_steps}
use Rattle.std.proofs.lemmas.Bool.{cases_lt, true≢false}
use Rattle.std.proofs.lemmas.List.{length-take, length-take-le, drop-take}
use Rattle.std.proofs.lemmas.List.Elements.{All-nil, All-cons, All-append, All-take}
use Rattle.std.proofs.Math.Seq.{take-append-add}
use Rattle.std.specs.Int.{w16, to_be_bytes}
use Rattle.std.specs.List.{All}
use Rattle.domain_label.specs.Wire.{labels_in, IsAbsoluteWire}
use Rattle.domain_compress.specs.Compressing.{RememberedLabel, Compresses, remembered_from}
use Rattle.domain_compress.specs.Planned.{offsets, remembered_in_table}
use Rattle.domain_compress.specs.Pointed.{compressed_reads_back}
use Rattle.domain_message.specs.Composing.{type_and_class, before_length}
use Rattle.domain_message.specs.declared.section.Section.{Section}
use Rattle.domain_message.specs.declared.section.Section.TheVariants.{Answer, Authority, Additional}
use Rattle.domain_rdata.specs.ReadBack.{Appended}
use Rattle.domain_rdata.specs.RecordData.{NameOctets}
use Rattle.domain_message_builder.specs.Contents.{RecordHead, Content, AsksIn, RecordsIn, Holds}
use Rattle.domain_message_builder.specs.Pushes.{with_header, record_count, later_count, CountsQuestion, CountsRecord, PushesQuestion, PushesRecord}
use Rattle.domain_message_builder.specs.SectionStarts.{IsInOrder, starts_after}
use Rattle.domain_message_builder.proofs.Pushing.{pushes_question, pushes_record}
use Rattle.domain_message_builder.proofs.Ordering.{ordered_all, ordered_after}
use Rattle.domain_message_builder.proofs.Rewinding.{rewinds}
use Rattle.domain_message_builder.proofs.Finishing.{finished}
use Rattle.domain_message_builder.specs.Cuts.{Truncates}
use Rattle.domain_message_builder.specs.Reading.{IsMessageOf}
use Rattle.domain_header.specs.Bits.{SetsBits}
use Rattle.domain_header.specs.Headers.{header_octets, counts_octets}
use Rattle.domain_header.specs.declared.counts.HeaderCounts.{HeaderCounts}
use Rattle.domain_header.specs.declared.flags.Header.{Header}
use Rattle.domain_buffer.specs.Puts.{PutsAt}
use Rattle.domain_buffer.specs.Builders.{builder_state, header_of, starts_of, counts_of, table_of, questioned, with_one_more, entered, asked_by_wire, octets_after_owner, Exactly, IsUsable, Enters, PushesData}
use Rattle.domain_buffer.proofs.Puts.{puts_take, puts_size, puts_first}
use Rattle.domain_buffer.specs.Plans.{IsTable, Spells, more_of_table}
use Rattle.domain_buffer.specs.declared.builder.Builder.{Builder}

-- A pointer can lead to offsets below 16,384.
kept_low : (p : ℕ) (here : RememberedLabel) (ws : List RememberedLabel) → here.at ≡ p → All (λ q. q < 16384) (offsets ws) → All (λ q. q < 16384) (offsets (if nat_lt p 16384 then here ∷ ws else []))
kept_low p here ws at low = elim (cases_lt p 16384) [
  | inl less ↦ (
      let same : here ∷ ws ≡ (if nat_lt p 16384 then here ∷ ws else []) = grind (arith, common_steps) in
      subst (λ l. All (λ q. q < 16384) (offsets l)) same (All-cons (λ q. q < 16384) here.at (offsets ws) (omega (arith, at, less)) low))
  | inr more ↦ (
      let none : [] ≡ (if nat_lt p 16384 then here ∷ ws else []) = grind (arith, common_steps) in
      subst (λ l. All (λ q. q < 16384) (offsets l)) none (All-nil (λ q. q < 16384)))
]

low_offsets : (ls : List (List ℕ)) (p end : ℕ) → All (λ q. q < 16384) (offsets (remembered_from p end ls))
low_offsets [] p end = All-nil (λ q. q < 16384)
low_offsets (l ∷ ls) p end =
    let ws = remembered_from (p + 1 + length l) end ls in
    let here : RememberedLabel = record { at = p; end = end } in
    elim (nat_lt 0 (length l)) as (λ b. All (λ q. q < 16384) (offsets (if b then (if nat_lt p 16384 then here ∷ ws else []) else []))) [
      | true ↦ kept_low p here ws refl (low_offsets ls (p + 1 + length l) end)
      | false ↦ All-nil (λ q. q < 16384)
    ]

-- The table stays one.
pub more_is_table : (table : List ℕ) (start : ℕ) (labels : List (List ℕ)) → IsTable table → IsTable (more_of_table 128 table start labels)
more_is_table table start labels is =
    let all = table ++ offsets (remembered_from start start labels) in
    let low : All (λ q. q < 16384) all = All-append (λ q. q < 16384) table (offsets (remembered_from start start labels)) is.1 (low_offsets labels start start) in
    (omega (arith, length-take 128 (take 128 all)), All-take (λ q. q < 16384) 128 (take 128 all) (All-take (λ q. q < 16384) 128 all low))

-- An entry was written.
pub enters : (o : List ℕ) (b : Builder) (name : List ℕ) (begin : ℕ) (named rest o' : List ℕ) (b' : Builder) → Spells (take b.len o) (table_of b) name begin named → PutsAt b.len (named ++ rest) o o' → b'.len ≡ b.len + length (named ++ rest) → b'.len ≤ b.limit → b'.table_len ≤ 128
    → table_of b' ≡ more_of_table 128 (table_of b) b.len (labels_in (take begin name)) → Enters o b name rest o' b'
enters o b name begin named rest o' b' spells puts ends within few remembers = record {
  begin = begin;
  named = named;
  compresses = spells.compresses;
  puts = puts;
  ends = ends;
  within = within;
  few = few;
  remembers = remembers;
}

entered_octets : (o : List ℕ) (b : Builder) (name rest o' : List ℕ) (b' : Builder) → IsUsable o b → (e : Enters o b name rest o' b') → take b'.len o' ≡ take b.len o ++ (e.named ++ rest)
entered_octets o b name rest o' b' u e = ap (λ n. take n o') e.ends ∙ puts_take b.len (e.named ++ rest) o o' (omega (arith, e.ends, e.within, u.room)) e.puts

entered_size : (o : List ℕ) (b : Builder) (name rest o' : List ℕ) (b' : Builder) → IsUsable o b → Enters o b name rest o' b' → b'.len ≡ length (take b'.len o')
entered_size o b name rest o' b' u e =
    let size = puts_size b.len (e.named ++ rest) o o' (omega (arith, e.ends, e.within, u.room)) e.puts in
    sym (length-take-le b'.len o' (omega (arith, size, e.within, u.room)))

name_octets : (t table name named : List ℕ) (ls : List (List ℕ)) → IsAbsoluteWire name → Compresses t (remembered_in_table table) (labels_in name) ls named → NameOctets (labels_in name) true t named
name_octets t table name named ls wired compresses = record {
  read = compressed_reads_back t (remembered_in_table table) (labels_in name) ls named wired.1 compresses;
  flat = λ h. absurd (true≢false h);
}

-- what is left after octets were put behind the message
pub usable_after : (o : List ℕ) (b : Builder) (s o' : List ℕ) (x : Builder) → IsUsable o b → PutsAt b.len s o o' → x.len ≡ b.len + length s → x.len ≤ b.limit → x.limit ≡ b.limit → x.table_len ≤ 128 → IsTable (table_of x) → IsInOrder (starts_of x) x.len → IsUsable o' x
usable_after o b s o' x u puts ends within limit few table ordered =
    let room : b.len + length s ≤ length o = omega (arith, ends, within, u.room) in
    let size = puts_size b.len s o o' room puts in
    let low : 12 ≤ b.len = omega (arith, u.ordered.0, u.ordered.1, u.ordered.2, u.ordered.3) in
    record {
      room = omega (arith, limit, size, u.room);
      small = omega (arith, limit, u.small);
      within = omega (arith, limit, within);
      ordered = ordered;
      few = few;
      table = table;
      begun = puts_first 12 b.len s o o' low (omega (arith, room)) puts ∙ u.begun;
    }

still_usable : (o : List ℕ) (b : Builder) (name rest o' : List ℕ) (b' x : Builder) → IsUsable o b → Enters o b name rest o' b' → x.limit ≡ b.limit → x.len ≡ b'.len → x.table_len ≡ b'.table_len → x.table ≡ b'.table → IsInOrder (starts_of x) x.len → IsUsable o' x
still_usable o b name rest o' b' x u e limit len count table ordered =
    let same : table_of x ≡ table_of b' = ap (λ n. take n x.table) count ∙ ap (take b'.table_len) table in
    let is = subst IsTable (sym (same ∙ e.remembers)) (more_is_table (table_of b) b.len (labels_in (take e.begin name)) u.table) in
    usable_after o b (e.named ++ rest) o' x u e.puts (len ∙ e.ends) (omega (arith, len, e.within)) limit (omega (arith, count, e.few)) is ordered

enters_same : (o : List ℕ) (b : Builder) (name rest o' : List ℕ) (b' x : Builder) → Enters o b name rest o' b' → x.len ≡ b'.len → x.table_len ≡ b'.table_len → x.table ≡ b'.table → Enters o b name rest o' x
enters_same o b name rest o' b' x e len count table = record {
  begin = e.begin;
  named = e.named;
  compresses = e.compresses;
  puts = e.puts;
  ends = len ∙ e.ends;
  within = omega (arith, len, e.within);
  few = omega (arith, count, e.few);
  remembers = ap (λ n. take n x.table) count ∙ (ap (take b'.table_len) table ∙ e.remembers);
}

-- A question was pushed.
pub question_pushed : (o : List ℕ) (b : Builder) (name : List ℕ) (rtype class : ℕ) (o' : List ℕ) (b' x : Builder) → rtype < 2 ^ 16 → class < 2 ^ 16 → IsUsable o b → IsAbsoluteWire name → record_count (counts_of b) ≡ 0 → Enters o b name (type_and_class rtype class) o' b' → b' ≡ entered b b' → x ≡ questioned b'
    → PushesQuestion true (asked_by_wire name rtype class) (builder_state o b) (builder_state o' x) × IsUsable o' x × Enters o b name (type_and_class rtype class) o' x
question_pushed o b name rtype class o' b' x small_type small_class u wired none e others counted =
    let rest = type_and_class rtype class in
    let t = take b.len o in
    let y : Builder = questioned (entered b b') in
    let same : y ≡ x = ap questioned (sym others) ∙ sym counted in
    let made = take b'.len o' in
    let ends = entered_size o b name rest o' b' u e in
    let added : Appended (AsksIn true (asked_by_wire name rtype class) t) t made = record {
      octets = e.named ++ rest;
      allowed = record { named = e.named; name_allowed = name_octets t (table_of b) name e.named (labels_in (take e.begin name)) wired e.compresses; all = refl };
      all = entered_octets o b name rest o' b' u e;
    } in
    let counts : CountsQuestion (counts_of b) (counts_of y) = record { questions = refl; answers = refl; authority = refl; additional = refl } in
    let pushes = pushes_question true (asked_by_wire name rtype class) (builder_state o b) (counts_of y) (starts_of y) made b'.len small_type small_class (λ h. absurd (omega (arith, h, none))) counts refl ends (omega (arith, ends, e.within)) added in
    let low : 12 ≤ b'.len = omega (arith, e.ends, u.ordered.0, u.ordered.1, u.ordered.2, u.ordered.3) in
    let usable = still_usable o b name rest o' b' y u e refl refl refl refl (ordered_all b'.len b'.len low (omega arith)) in
    subst (λ z. PushesQuestion true (asked_by_wire name rtype class) (builder_state o b) (builder_state o' z) × IsUsable o' z × Enters o b name rest o' z) same (pushes, usable, enters_same o b name rest o' b' y e refl refl refl)

-- A record with data that `May` allows was added.
pub record_added : (section : Section) (o : List ℕ) (b : Builder) (owner : List ℕ) (head : RecordHead) (May : List ℕ → List ℕ → Type 0) (rdata o' : List ℕ) (b' y : Builder) → head.rtype < 2 ^ 16 → head.class < 2 ^ 16 → head.ttl < 2 ^ 32 → head.owner ≡ labels_in owner → IsUsable o b → IsAbsoluteWire owner → (0 < later_count section (counts_of b) → ⊥) → (e : Enters o b owner (octets_after_owner head rdata) o' b')
    → May (take b.len o ++ e.named ++ before_length head.rtype head.class head.ttl ++ to_be_bytes w16 (length rdata)) rdata → CountsRecord section (counts_of b) (counts_of y) → starts_of y ≡ starts_after section b'.len (starts_of b) → PushesRecord true section head May (builder_state o b) (record (builder_state o b) { counts = counts_of y; starts = starts_of y; octets = take b'.len o' })
record_added section o b owner head May rdata o' b' y small_type small_class small_ttl named u wired none e allowed counts at =
    let rest = octets_after_owner head rdata in
    let t = take b.len o in
    let made = take b'.len o' in
    let ends = entered_size o b owner rest o' b' u e in
    let few : length rdata ≤ 65535 = omega (arith, e.ends, e.within, u.small, length-append e.named rest, length-append (before_length head.rtype head.class head.ttl) (to_be_bytes w16 (length rdata) ++ rdata), length-append (to_be_bytes w16 (length rdata)) rdata) in
    let added : Appended (RecordsIn true head May t) t made = record {
      octets = e.named ++ rest;
      allowed = record {
        named = e.named;
        name_allowed = subst (λ ls. NameOctets ls true t e.named) (sym named) (name_octets t (table_of b) owner e.named (labels_in (take e.begin owner)) wired e.compresses);
        rdata = rdata;
        few = few;
        data_allowed = allowed;
        all = refl;
      };
      all = entered_octets o b owner rest o' b' u e;
    } in
    pushes_record section true head May (builder_state o b) (counts_of y) (starts_of y) made b'.len small_type small_class small_ttl none counts at ends (omega (arith, ends, e.within)) added

-- A record was pushed.
pub record_pushed : (section : Section) (o : List ℕ) (b : Builder) (owner : List ℕ) (head : RecordHead) (rdata o' : List ℕ) (b' x : Builder) → head.rtype < 2 ^ 16 → head.class < 2 ^ 16 → head.ttl < 2 ^ 32 → head.owner ≡ labels_in owner → IsUsable o b → IsAbsoluteWire owner → (0 < later_count section (counts_of b) → ⊥) → Enters o b owner (octets_after_owner head rdata) o' b'
    → b' ≡ entered b b' → x ≡ with_one_more section b' → PushesData section owner head rdata o b o' x
record_pushed Answer o b owner head rdata o' b' x small_type small_class small_ttl named u wired none e others counts =
    let y : Builder = with_one_more Answer (entered b b') in
    let same : y ≡ x = ap (with_one_more Answer) (sym others) ∙ sym counts in
    let ordered = ordered_after Answer (starts_of b) b.len b'.len (omega (arith, e.ends)) u.ordered in
    subst (λ z. PushesData Answer owner head rdata o b o' z) same (record {
      enters = enters_same o b owner (octets_after_owner head rdata) o' b' y e refl refl refl;
      pushes = record_added Answer o b owner head (Exactly rdata) rdata o' b' y small_type small_class small_ttl named u wired none e refl (refl, refl, refl, refl) refl;
      usable = still_usable o b owner (octets_after_owner head rdata) o' b' y u e refl refl refl refl ordered;
    })
record_pushed Authority o b owner head rdata o' b' x small_type small_class small_ttl named u wired none e others counts =
    let y : Builder = with_one_more Authority (entered b b') in
    let same : y ≡ x = ap (with_one_more Authority) (sym others) ∙ sym counts in
    let ordered = ordered_after Authority (starts_of b) b.len b'.len (omega (arith, e.ends)) u.ordered in
    subst (λ z. PushesData Authority owner head rdata o b o' z) same (record {
      enters = enters_same o b owner (octets_after_owner head rdata) o' b' y e refl refl refl;
      pushes = record_added Authority o b owner head (Exactly rdata) rdata o' b' y small_type small_class small_ttl named u wired none e refl (refl, refl, refl, refl) refl;
      usable = still_usable o b owner (octets_after_owner head rdata) o' b' y u e refl refl refl refl ordered;
    })
record_pushed Additional o b owner head rdata o' b' x small_type small_class small_ttl named u wired none e others counts =
    let y : Builder = with_one_more Additional (entered b b') in
    let same : y ≡ x = ap (with_one_more Additional) (sym others) ∙ sym counts in
    let ordered = ordered_after Additional (starts_of b) b.len b'.len (omega (arith, e.ends)) u.ordered in
    subst (λ z. PushesData Additional owner head rdata o b o' z) same (record {
      enters = enters_same o b owner (octets_after_owner head rdata) o' b' y e refl refl refl;
      pushes = record_added Additional o b owner head (Exactly rdata) rdata o' b' y small_type small_class small_ttl named u wired none e refl (refl, refl, refl, refl) refl;
      usable = still_usable o b owner (octets_after_owner head rdata) o' b' y u e refl refl refl refl ordered;
    })

-- the builder whose records were taken away, with other flags
abbrev pub cut : Builder → ℕ → Builder
cut b flags = record b { len = b.answer_start; flags = flags; answers = 0; authority = 0; additional = 0; authority_start = b.answer_start; additional_start = b.answer_start }

-- TC is set
pub tc_added : (f : ℕ) → f / 512 % 2 ≡ 0 → SetsBits 2 2 1 (f / 256) ((f + 512) / 256)
tc_added f clear = record { set = omega (arith, clear); below = omega (arith, clear); above = omega (arith, clear) }

pub tc_kept : (f : ℕ) → (f / 512 % 2 ≡ 0 → ⊥) → SetsBits 2 2 1 (f / 256) (f / 256)
tc_kept f set = record { set = omega (arith, set); below = refl; above = refl }

pub cuts : (o : List ℕ) (b : Builder) (flags : ℕ) → IsUsable o b → SetsBits 2 2 1 (b.flags / 256) (flags / 256) → flags % 256 ≡ b.flags % 256 → Truncates true (builder_state o b) (builder_state o (cut b flags)) × IsUsable o (cut b flags)
cuts o b flags u tc low =
    let inside : b.answer_start ≤ b.len = omega (arith, u.ordered.1, u.ordered.2, u.ordered.3) in
    let header = header_of (cut b flags) in (
      record {
        header = record { id = refl; high = tc; low = low };
        rewinds = rewinds Answer true (with_header header (builder_state o b)) (counts_of (cut b flags)) (starts_of (cut b flags)) b.answer_start (take b.answer_start o) (refl, refl, refl, refl) refl refl (sym (take-take b.answer_start b.len o inside));
      },
      record {
        room = u.room;
        small = u.small;
        within = omega (arith, inside, u.within);
        ordered = ordered_all b.answer_start b.answer_start u.ordered.0 (omega arith);
        few = u.few;
        table = u.table;
        begun = u.begun;
      },
    )

-- The header was put over the blank one.
pub header_put : (hdr o o' : List ℕ) (h : Header) (n : HeaderCounts) → hdr ≡ header_octets h ++ counts_octets n → PutsAt 0 hdr o o' → o' ≡ header_octets h ++ (counts_octets n ++ drop 12 o)
header_put hdr o o' h n e puts = puts ∙ (ap (λ x. take 0 o ++ x ++ drop (0 + length x) o) e ∙ append_assoc (header_octets h) (counts_octets n) (drop 12 o))

taken_under : (x o : List ℕ) (n : ℕ) → length x ≡ 12 → 12 ≤ n → take n (x ++ drop 12 o) ≡ x ++ drop 12 (take n o)
taken_under x o n twelve more =
    let after : n ≡ length x + (n - 12) = omega (arith, twelve, more) in
    let whole : n ≡ 12 + (n - 12) = omega (arith, more) in
    ap (λ i. take i (x ++ drop 12 o)) after ∙ (take-append-add x (drop 12 o) (n - 12) ∙ ap (λ y. x ++ y) (sym (ap (λ i. drop 12 (take i o)) whole ∙ drop-take 12 (n - 12) o)))

-- The message is read as what was pushed.
pub finishes : (o : List ℕ) (b : Builder) (o' : List ℕ) (it : Content) → IsUsable o b → b.id < 2 ^ 16 → b.questions < 2 ^ 16 → b.answers < 2 ^ 16 → b.authority < 2 ^ 16 → b.additional < 2 ^ 16
    → o' ≡ header_octets (header_of b) ++ (counts_octets (counts_of b) ++ drop 12 o) → Holds true (builder_state o b) it → IsMessageOf (header_of b) it (take b.len o')
finishes o b o' it u id questions answers authority additional written holds =
    let h = header_octets (header_of b) in
    let n = counts_octets (counts_of b) in
    let low : 12 ≤ b.len = omega (arith, u.ordered.0, u.ordered.1, u.ordered.2, u.ordered.3) in
    let twelve : length (h ++ n) ≡ 12 = refl in
    let made : take b.len o' ≡ h ++ (n ++ drop 12 (take b.len o)) =
    ap (take b.len) (written ∙ sym (append_assoc h n (drop 12 o))) ∙ (taken_under (h ++ n) o b.len twelve low ∙ append_assoc h n (drop 12 (take b.len o))) in
    finished true (builder_state o b) it (take b.len o') id questions answers authority additional holds made
