-- What a record leaves whose data have names.
use Rattle.std.proofs.Common.{◌≡◌, ◌⊎◌, ℕ, ◌+◌, ◌≤◌, ◌<◌, ◌^◌, inl, inr, List, [], ◌++◌, length, take, true, refl, sym, ap, subst, ◌∙◌, arith, append_assoc, length-append, take-take}
use Rattle.std.specs.Int.{w16, to_be_bytes}
use Rattle.domain_label.specs.Wire.{labels_in, IsWire, IsAbsoluteWire}
use Rattle.domain_compress.specs.Compressing.{remembered_from}
use Rattle.domain_compress.specs.Planned.{offsets, remembered_in_table}
use Rattle.domain_message.specs.Composing.{before_length}
use Rattle.domain_message.specs.declared.section.Section.{Section}
use Rattle.domain_message.specs.declared.section.Section.TheVariants.{Answer, Authority, Additional}
use Rattle.domain_rdata.specs.RecordData.{NameOctets}
use Rattle.domain_message_builder.specs.Contents.{RecordHead}
use Rattle.domain_message_builder.specs.Pushes.{later_count, CountsRecord, PushesRecord}
use Rattle.domain_message_builder.specs.SectionStarts.{IsInOrder, starts_after}
use Rattle.domain_message_builder.proofs.Ordering.{ordered_after}
use Rattle.domain_buffer.specs.Puts.{PutsAt}
use Rattle.domain_buffer.specs.Plans.{IsTable, Spells, more_of_table}
use Rattle.domain_buffer.specs.Builders.{builder_state, starts_of, counts_of, table_of, with_one_more, entered, octets_after_owner, IsUsable, Enters}
use Rattle.domain_buffer.specs.Data.{Fields, IsSecond, IsNamed}
use Rattle.domain_buffer.specs.Named.{SpelledNames, SpellsAny, SpellsNames, written_data, names_remembered, owner_remembered, EntersNamed, NamedTooBig, WritesAfterOwner, HasNoRoomAfterOwner, SameNames, PushesNamed}
use Rattle.domain_buffer.specs.declared.builder.Builder.{Builder}
use Rattle.domain_buffer.proofs.Puts.{puts_take, puts_size, puts_both}
use Rattle.domain_buffer.proofs.Later.{name_octets_later}
use Rattle.domain_buffer.proofs.Building.{more_is_table, usable_after, record_added}

-- the parts of a spelled name, or of nothing
pub any_wire : (t table name : List ℕ) (begin : ℕ) (octets : List ℕ) → SpellsAny t table name begin octets → IsWire (take begin name)
any_wire t table name begin octets s = elim s [
  | inl none ↦ subst (λ n. IsWire (take begin n)) (sym none.0) (subst (λ k. IsWire (take k [])) (sym none.1) (refl, tt))
  | inr some ↦ some.1.wire_form
]

pub any_inside : (t table name : List ℕ) (begin : ℕ) (octets : List ℕ) → SpellsAny t table name begin octets → begin ≤ length name
any_inside t table name begin octets s = elim s [
  | inl none ↦ omega (arith, none.1)
  | inr some ↦ some.1.inside
]

pub second_any : (names : ℕ) (second : List ℕ) → IsSecond names second → (second ≡ []) ⊎ IsAbsoluteWire second
second_any names second s = elim s [ inl one ↦ inl one.1 | inr two ↦ inr two.1 ]

-- The offsets stay a table.
pub names_are_table : (table : List ℕ) (f : Fields) (s : SpelledNames) (p : ℕ) → IsTable table → IsTable (names_remembered table f s p)
names_are_table table f s p is =
    let first = labels_in (take s.first_begin f.first) in
    let at = p + length f.before in
    more_is_table (more_of_table 128 table at first) (at + length s.first) (labels_in (take s.second_begin f.second)) (more_is_table table at first is)

-- ---- writing

-- how many octets the data have
pub data_size : (before first second after : List ℕ) → length (before ++ (first ++ (second ++ after))) ≡ length before + length first + length second + length after
data_size before first second after = omega (arith, length-append before (first ++ (second ++ after)), length-append first (second ++ after), length-append second after)

-- a head with its length before them
pub head_and_data : (front octets : List ℕ) (n : ℕ) (head : List ℕ) → head ≡ front ++ to_be_bytes w16 n → n ≡ length octets → head ++ octets ≡ front ++ (to_be_bytes w16 (length octets) ++ octets)
head_and_data front octets n head is len = ap (λ x. x ++ octets) (is ∙ ap (λ k. front ++ to_be_bytes w16 k) len) ∙ append_assoc front (to_be_bytes w16 (length octets)) octets

-- five parts, one after the other
pub puts_five : (p q : ℕ) (a b c d e o m n o' : List ℕ) → q ≡ p + length a + length b + length c → p + length a + length b + length c + length d + length e ≤ length o → PutsAt p (a ++ (b ++ c)) o m → PutsAt q d m n → PutsAt (q + length d) e n o' → PutsAt p (a ++ (b ++ (c ++ (d ++ e)))) o o'
puts_five p q a b c d e o m n o' at fits first second third =
    let size : length (a ++ (b ++ c)) ≡ length a + length b + length c = omega (arith, length-append a (b ++ c), length-append b c) in
    let long : length m ≡ length o = puts_size p (a ++ (b ++ c)) o m (omega (arith, size, fits)) first in
    let rest : PutsAt q (d ++ e) m o' = puts_both q (q + length d) d e m n o' refl (omega (arith, at, long, fits)) second third in
    let all = puts_both p q (a ++ (b ++ c)) (d ++ e) o m o' (omega (arith, at, size)) (omega (arith, size, fits, length-append d e)) first rest in
    subst (λ s. PutsAt p s o o') (append_assoc a (b ++ c) (d ++ e) ∙ ap (λ s. a ++ s) (append_assoc b c (d ++ e))) all

-- Offsets that were added to a table of 128.
pub more_table : (n : ℕ) (table new : List ℕ) (start : ℕ) (labels : List (List ℕ)) → n ≡ 128 → IsTable table → new ≡ more_of_table n table start labels → IsTable new
more_table n table new start labels size is added = subst IsTable (sym (added ∙ ap (λ k. more_of_table k table start labels) size)) (more_is_table table start labels is)

pub names_added : (table : List ℕ) (f : Fields) (s : SpelledNames) (p at k n : ℕ) (first both : List ℕ) → k ≡ 128 → n ≡ 128 → first ≡ more_of_table k table (p + length f.before) (labels_in (take s.first_begin f.first)) → both ≡ more_of_table n first at (labels_in (take s.second_begin f.second)) → at ≡ p + length f.before + length s.first → both ≡ names_remembered table f s p
names_added table f s p at k n first both k_is n_is added more at_is =
    let labels = labels_in (take s.first_begin f.first) in
    let others = labels_in (take s.second_begin f.second) in
    let here = added ∙ ap (λ k. more_of_table k table (p + length f.before) labels) k_is in
    more ∙ (ap (λ n. more_of_table n first at others) n_is ∙ (ap (λ x. more_of_table 128 x at others) here ∙ ap (λ q. more_of_table 128 (more_of_table 128 table (p + length f.before) labels) q others) at_is))

-- The rest of a record was put behind an owner's name.
pub named_entered : (o : List ℕ) (b : Builder) (owner : List ℕ) (head : RecordHead) (f : Fields) (begin : ℕ) (named m o' table table' : List ℕ) (at end count : ℕ) (b' : Builder) → IsUsable o b → Spells (take b.len o) (table_of b) owner begin named → at ≡ b.len + length named → at + 10 ≤ b.limit → PutsAt b.len named o m → table ≡ owner_remembered b owner begin
    → WritesAfterOwner m at b.limit table (before_length head.rtype head.class head.ttl) f end count o' table' → b'.len ≡ end → b'.table_len ≡ count → b'.table ≡ table' → EntersNamed o b owner head f o' b'
named_entered o b owner head f begin named m o' table table' at end count b' u spelled at_is room puts is w ends few remembers =
    let octets = written_data f w.names in
    let rest = octets_after_owner head octets in
    let front = before_length head.rtype head.class head.ttl in
    let size : length rest ≡ 10 + length octets = omega (arith, length-append front (to_be_bytes w16 (length octets) ++ octets), length-append (to_be_bytes w16 (length octets)) octets) in
    let message : take at m ≡ take b.len o ++ named = ap (λ k. take k m) at_is ∙ puts_take b.len named o m (omega (arith, at_is, room, u.room)) puts in
    let all : b.len + length named + length rest ≤ length o = omega (arith, size, at_is, w.ends, w.within, u.room) in
    let kept : take b'.table_len b'.table ≡ take count table' = ap (λ n. take n b'.table) few ∙ ap (take count) remembers in
    record {
      begin = begin;
      named = named;
      names = w.names;
      spells = record { owner_spelled = spelled; names_spelled = subst (λ t. SpellsNames t (owner_remembered b owner begin) f w.names) message (subst (λ x. SpellsNames (take at m) x f w.names) is w.spells) };
      puts = puts_both b.len at named rest o m o' at_is all puts w.puts;
      ends = omega (arith, ends, w.ends, at_is, size, length-append named rest);
      within = omega (arith, ends, w.within);
      few = omega (arith, few, w.few);
      remembers = kept ∙ (w.remembers ∙ (ap (λ x. names_remembered x f w.names (at + 10)) is ∙ ap (λ k. names_remembered (owner_remembered b owner begin) f w.names (k + 10)) at_is));
    }

-- It doesn't fit.
pub named_too_big : (o : List ℕ) (b : Builder) (owner : List ℕ) (f : Fields) (begin : ℕ) (named m table : List ℕ) (at : ℕ) → IsUsable o b → Spells (take b.len o) (table_of b) owner begin named → at ≡ b.len + length named → at + 10 ≤ b.limit → PutsAt b.len named o m → table ≡ owner_remembered b owner begin → HasNoRoomAfterOwner m at b.limit table f → NamedTooBig o b owner f
named_too_big o b owner f begin named m table at u spelled at_is room puts is w =
    let message : take at m ≡ take b.len o ++ named = ap (λ k. take k m) at_is ∙ puts_take b.len named o m (omega (arith, at_is, room, u.room)) puts in
    let names = subst (λ t. SpellsNames t (owner_remembered b owner begin) f w.names) message (subst (λ x. SpellsNames (take at m) x f w.names) is w.spells) in
    inr (begin, named, w.names, record { owner_spelled = spelled; names_spelled = names }, omega (arith, at_is, w.long))

-- ---- pushing

-- a name of the data is read back behind what stands between the owner's name and it
read_there : (t front size x table name : List ℕ) (begin : ℕ) (s : List ℕ) → IsAbsoluteWire name → Spells t table name begin s → NameOctets (labels_in name) true (t ++ front ++ size ++ x) s
read_there t front size x table name begin s wired spelled =
    let there : t ++ front ++ size ++ x ≡ t ++ (front ++ size ++ x) = ap (λ z. z ++ x) (append_assoc t front size) ∙ append_assoc t (front ++ size) x in
    subst (λ z. NameOctets (labels_in name) true z s) (sym there) (name_octets_later t (front ++ size ++ x) (remembered_in_table table) (labels_in name) (labels_in (take begin name)) s wired.1 spelled.compresses)

same_names : (rtype : ℕ) (t front size table : List ℕ) (f : Fields) (s : SpelledNames) → IsNamed rtype f → SpellsNames t table f s → SameNames f (t ++ front ++ size) (written_data f s)
same_names rtype t front size table f s n spelled = record {
  first = s.first;
  first_read = read_there t front size f.before table f.first s.first_begin s.first n.first spelled.first;
  second = s.second;
  second_read = elim spelled.second [
    | inl none ↦ inl (none.0, none.2)
    | inr some ↦ inr (read_there t front size (f.before ++ s.first) table f.second s.second_begin s.second some.0 some.1)
  ];
  all = refl;
}

-- the same entry with the offsets of the owner's name alone
abbrev plain : Builder → List ℕ → Builder
plain b table = record b { table_len = 128; table = table }

abbrev plainly : (o : List ℕ) (b : Builder) (owner : List ℕ) (head : RecordHead) (f : Fields) (o' : List ℕ) (b' : Builder) → (e : EntersNamed o b owner head f o' b') → Enters o b owner (octets_after_owner head (written_data f e.names)) o' (plain b' (owner_remembered b owner e.begin))
plainly o b owner head f o' b' e = record {
  begin = e.begin;
  named = e.named;
  compresses = e.spells.owner_spelled.compresses;
  puts = e.puts;
  ends = e.ends;
  within = e.within;
  few = omega arith;
  remembers = take-take 128 128 (take 128 (table_of b ++ offsets (remembered_from b.len b.len (labels_in (take e.begin owner))))) (omega arith);
}

named_same : (o : List ℕ) (b : Builder) (owner : List ℕ) (head : RecordHead) (f : Fields) (o' : List ℕ) (b' x : Builder) → EntersNamed o b owner head f o' b' → x.len ≡ b'.len → x.table_len ≡ b'.table_len → x.table ≡ b'.table → EntersNamed o b owner head f o' x
named_same o b owner head f o' b' x e len count table = record {
  begin = e.begin;
  named = e.named;
  names = e.names;
  spells = e.spells;
  puts = e.puts;
  ends = len ∙ e.ends;
  within = omega (arith, len, e.within);
  few = omega (arith, count, e.few);
  remembers = ap (λ n. take n x.table) count ∙ (ap (take b'.table_len) table ∙ e.remembers);
}

named_usable : (o : List ℕ) (b : Builder) (owner : List ℕ) (head : RecordHead) (f : Fields) (o' : List ℕ) (x : Builder) → IsUsable o b → EntersNamed o b owner head f o' x → x.limit ≡ b.limit → IsInOrder (starts_of x) x.len → IsUsable o' x
named_usable o b owner head f o' x u e limit ordered =
    let own = more_is_table (table_of b) b.len (labels_in (take e.begin owner)) u.table in
    let is = subst IsTable (sym e.remembers) (names_are_table (owner_remembered b owner e.begin) f e.names (b.len + length e.named + 10) own) in
    usable_after o b (e.named ++ octets_after_owner head (written_data f e.names)) o' x u e.puts e.ends e.within limit e.few is ordered

named_made : (section : Section) (o : List ℕ) (b : Builder) (owner : List ℕ) (head : RecordHead) (f : Fields) (o' : List ℕ) (b' y : Builder) → head.rtype < 2 ^ 16 → head.class < 2 ^ 16 → head.ttl < 2 ^ 32 → head.owner ≡ labels_in owner → IsUsable o b → IsAbsoluteWire owner → (0 < later_count section (counts_of b) → ⊥) → IsNamed head.rtype f → EntersNamed o b owner head f o' b'
    → CountsRecord section (counts_of b) (counts_of y) → starts_of y ≡ starts_after section b'.len (starts_of b) → PushesRecord true section head (SameNames f) (builder_state o b) (record (builder_state o b) { counts = counts_of y; starts = starts_of y; octets = take b'.len o' })
named_made section o b owner head f o' b' y small_type small_class small_ttl named u wired none n e counts at =
    let octets = written_data f e.names in
    let allowed = same_names head.rtype (take b.len o ++ e.named) (before_length head.rtype head.class head.ttl) (to_be_bytes w16 (length octets)) (owner_remembered b owner e.begin) f e.names n e.spells.names_spelled in
    record_added section o b owner head (SameNames f) octets o' (plain b' (owner_remembered b owner e.begin)) y small_type small_class small_ttl named u wired none (plainly o b owner head f o' b' e) allowed counts at

-- A record whose data have names was pushed.
pub named_pushed : (section : Section) (o : List ℕ) (b : Builder) (owner : List ℕ) (head : RecordHead) (f : Fields) (o' : List ℕ) (b' x : Builder) → head.rtype < 2 ^ 16 → head.class < 2 ^ 16 → head.ttl < 2 ^ 32 → head.owner ≡ labels_in owner → IsUsable o b → IsAbsoluteWire owner → (0 < later_count section (counts_of b) → ⊥) → IsNamed head.rtype f → EntersNamed o b owner head f o' b'
    → b' ≡ entered b b' → x ≡ with_one_more section b' → PushesNamed section owner head f o b o' x
named_pushed Answer o b owner head f o' b' x small_type small_class small_ttl named u wired none n e others counts =
    let y : Builder = with_one_more Answer (entered b b') in
    let same : y ≡ x = ap (with_one_more Answer) (sym others) ∙ sym counts in
    let made = named_same o b owner head f o' b' y e refl refl refl in
    let longer : b.len ≤ b'.len = omega (arith, e.ends) in
    subst (λ z. PushesNamed Answer owner head f o b o' z) same (record {
      enters = made;
      pushes = named_made Answer o b owner head f o' b' y small_type small_class small_ttl named u wired none n e (refl, refl, refl, refl) refl;
      usable = named_usable o b owner head f o' y u made refl (ordered_after Answer (starts_of b) b.len b'.len longer u.ordered);
    })
named_pushed Authority o b owner head f o' b' x small_type small_class small_ttl named u wired none n e others counts =
    let y : Builder = with_one_more Authority (entered b b') in
    let same : y ≡ x = ap (with_one_more Authority) (sym others) ∙ sym counts in
    let made = named_same o b owner head f o' b' y e refl refl refl in
    let longer : b.len ≤ b'.len = omega (arith, e.ends) in
    subst (λ z. PushesNamed Authority owner head f o b o' z) same (record {
      enters = made;
      pushes = named_made Authority o b owner head f o' b' y small_type small_class small_ttl named u wired none n e (refl, refl, refl, refl) refl;
      usable = named_usable o b owner head f o' y u made refl (ordered_after Authority (starts_of b) b.len b'.len longer u.ordered);
    })
named_pushed Additional o b owner head f o' b' x small_type small_class small_ttl named u wired none n e others counts =
    let y : Builder = with_one_more Additional (entered b b') in
    let same : y ≡ x = ap (with_one_more Additional) (sym others) ∙ sym counts in
    let made = named_same o b owner head f o' b' y e refl refl refl in
    let longer : b.len ≤ b'.len = omega (arith, e.ends) in
    subst (λ z. PushesNamed Additional owner head f o b o' z) same (record {
      enters = made;
      pushes = named_made Additional o b owner head f o' b' y small_type small_class small_ttl named u wired none n e (refl, refl, refl, refl) refl;
      usable = named_usable o b owner head f o' y u made refl (ordered_after Additional (starts_of b) b.len b'.len longer u.ordered);
    })
