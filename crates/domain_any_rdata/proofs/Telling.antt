-- The text of data, field by field.
use Rattle.std.proofs.Common.{◌≡◌, ◌∙◌, ℕ, ◌≤◌, ◌<◌, Bool, true, false, nat_le, if◌then◌else◌, List, [], ◌∷◌, ◌++◌, length, drop, Option, None, Some, refl, sym, ap, subst, arith, append_assoc, append-nil}
use Rattle.std.specs.Prelude.{is_some, option_map, slice_range, codes}
use Rattle.std.proofs.Math.Seq.{drop-append_seam}
use Rattle.std.proofs.lemmas.Bool.{false≢true}
use Rattle.std.proofs.lemmas.Bool.Decides.{nat_tests}
use Rattle.std.proofs.lemmas.Grind.{put_two, flat_map-append}
use Rattle.std.specs.Fmt.{HasWritten, decimal}
use Rattle.std.specs.List.{flat_map}
use Rattle.std.specs.declared.fmt.Formatter.{Formatter}
use Rattle.domain_descriptor.specs.Rdatas.{rdata_begin, field_kind, field_message, field_begin, field_after, IsRdata}
use Rattle.domain_descriptor.specs.Table.{known_fields}
use Rattle.domain_descriptor.specs.declared.kind.FieldKind.{FieldKind}
use Rattle.domain_descriptor.specs.declared.kind.FieldKind.TheVariants as kinds
use Rattle.domain_descriptor.specs.declared.rdata.Field.{Field}
use Rattle.domain_descriptor.specs.declared.rdata.Rdata.{Rdata}
use Rattle.domain_field_text.specs.FieldTexts.{lead, field_octets_text}
use Rattle.domain_field_text.specs.Held.{held_text, HasFieldText}
use Rattle.domain_field_text.specs.Names.{zone_name}
use Rattle.domain_field_text.specs.declared.field.FieldText.{FieldText}
use Rattle.domain_fields.specs.Parts.{Part}
use Rattle.domain_reading.specs.Grammar.{Names}
use Rattle.domain_list.specs.Moving.{HasMoved}
use Rattle.domain_rdata.specs.AnyData.{spaced_octet, unknown_text}
use Rattle.domain_any_rdata.proofs.Cutting.{hand_first}
use Rattle.domain_any_rdata.proofs.Named.{parts_of_data, named_part, octets_part}
use Rattle.domain_any_rdata.specs.Parts.{parts_at, part_of, raw_octets, rdata_parts}
use Rattle.domain_any_rdata.specs.Readers.{remaining_octets, in_hand}
use Rattle.domain_any_rdata.specs.declared.reader.OctetReader.{OctetReader}
use Rattle.domain_any_rdata.specs.Texts.{part_text, IsTold, both_texts, text_or_nothing, parts_text, text_or_octets, plain_octets, fields_text, rdata_text, shown_data}

-- the remaining fields, where one was taken
one_taken : (b : Bool) (ks rest : List FieldKind) (k : FieldKind) (xs others : List Part) (x : Part) → ks ≡ k ∷ rest → xs ≡ x ∷ others
    → parts_text b ks xs ≡ both_texts (part_text b k x) (parts_text false rest others)
one_taken b ks rest k xs others x kinds parts = ap (λ y. parts_text b y xs) kinds ∙ ap (λ y. parts_text b (k ∷ rest) y) parts

none_taken : (b : Bool) (ks : List FieldKind) (xs : List Part) → ks ≡ [] → parts_text b ks xs ≡ Some []
none_taken b ks xs none = ap (λ y. parts_text b y xs) none

-- ---- whether each field has a text
has_both : (a b : Option (List ℕ)) → is_some a ≡ true → is_some (both_texts a b) ≡ is_some b
has_both None b told = absurd (false≢true told)
has_both (Some s) None told = refl
has_both (Some s) (Some t) told = refl

lacks_first : (a b : Option (List ℕ)) → is_some a ≡ false → is_some (both_texts a b) ≡ false
lacks_first None b told = refl
lacks_first (Some s) b told = absurd (false≢true (sym told))

-- The remaining ones, of which the next is the first of data or isn't, decide.
abbrev pub Decides : Option (List ℕ) → List FieldKind → List Part → Type 0
Decides all ks xs = (b : Bool) × (is_some all ≡ is_some (parts_text b ks xs))

pub decides_more : (all : Option (List ℕ)) (ks rest : List FieldKind) (k : FieldKind) (xs others : List Part) (x : Part) → Decides all ks xs → ks ≡ k ∷ rest → xs ≡ x ∷ others
    → (t : Bool) → IsTold k x t → t ≡ true → Decides all rest others
decides_more all ks rest k xs others x (b, still) kinds parts t told has =
    (false, still ∙ (ap is_some (one_taken b ks rest k xs others x kinds parts) ∙ has_both (part_text b k x) (parts_text false rest others) (told b ∙ has)))

pub decides_not : (all : Option (List ℕ)) (ks rest : List FieldKind) (k : FieldKind) (xs others : List Part) (x : Part) → Decides all ks xs → ks ≡ k ∷ rest → xs ≡ x ∷ others
    → (t : Bool) → IsTold k x t → t ≡ false → false ≡ is_some all
decides_not all ks rest k xs others x (b, still) kinds parts t told lacks =
    sym (still ∙ (ap is_some (one_taken b ks rest k xs others x kinds parts) ∙ lacks_first (part_text b k x) (parts_text false rest others) (told b ∙ lacks)))

pub decides_all : (all : Option (List ℕ)) (ks : List FieldKind) (xs : List Part) → Decides all ks xs → ks ≡ [] → true ≡ is_some all
decides_all all ks xs (b, still) none = sym (still ∙ ap is_some (none_taken b ks xs none))

pub decides_first : (all ks : List FieldKind) (xs others : List Part) → ks ≡ all → others ≡ xs → Decides (parts_text true all xs) ks others
decides_first all ks xs others kinds parts = (true, ap (λ y. is_some (parts_text true y xs)) (sym kinds) ∙ ap (λ y. is_some (parts_text true ks y)) (sym parts))

-- ---- the text
split : (a b : Option (List ℕ)) → is_some (both_texts a b) ≡ true → (text_or_nothing (both_texts a b) ≡ text_or_nothing a ++ text_or_nothing b) × (is_some b ≡ true)
split None b told = absurd (false≢true told)
split (Some s) None told = absurd (false≢true told)
split (Some s) (Some t) told = (refl, refl)

-- What was written of the texts of fields, where each has one, and what remains.
pub record Told {W : Type 0} (took : W → List ℕ → W → Type 0) (f : Formatter W) (all : Option (List ℕ)) (b : Bool) (ks : List FieldKind) (xs : List Part) (g : Formatter W) : Type 0 where
  pub whole : is_some (parts_text b ks xs) ≡ true
  pub moved : HasMoved took f (text_or_nothing all) (text_or_nothing (parts_text b ks xs)) g

pub told_more : {W : Type 0} (took : W → List ℕ → W → Type 0) (f g h : Formatter W) (all : Option (List ℕ)) (b : Bool) (ks rest : List FieldKind) (k : FieldKind) (xs others : List Part) (x : Part)
    → Told took f all b ks xs g → ks ≡ k ∷ rest → xs ≡ x ∷ others → HasWritten took g (text_or_nothing (part_text b k x)) h → Told took f all false rest others h
told_more took f g h all b ks rest k xs others x still kinds parts wrote =
    let same = one_taken b ks rest k xs others x kinds parts in
    let one = split (part_text b k x) (parts_text false rest others) (sym (ap is_some same) ∙ still.whole) in
    let m = still.moved in
    let done = m.done in
    let piece = text_or_nothing (part_text b k x) in
    record {
      whole = one.1;
      moved = record {
        done = done ++ piece;
        parts = m.parts ∙ (ap (λ t. done ++ text_or_nothing t) same ∙ (ap (λ t. done ++ t) one.0 ∙ sym (append_assoc done piece (text_or_nothing (parts_text false rest others)))));
        wrote = put_two took f g h done piece (done ++ piece) m.wrote wrote refl;
      };
    }

told_text : (all : Option (List ℕ)) (octets : List ℕ) → is_some all ≡ true → text_or_nothing all ≡ text_or_octets all octets
told_text None octets told = absurd (false≢true told)
told_text (Some t) octets told = refl

pub told_all : {W : Type 0} (took : W → List ℕ → W → Type 0) (f g : Formatter W) (all : Option (List ℕ)) (b : Bool) (ks : List FieldKind) (xs : List Part) (octets : List ℕ)
    → is_some all ≡ true → Told took f all b ks xs g → ks ≡ [] → HasWritten took f (text_or_octets all octets) g
told_all took f g all b ks xs octets told still none =
    let m = still.moved in
    let all_done : m.done ≡ text_or_octets all octets = sym (m.parts ∙ (ap (λ t. m.done ++ text_or_nothing t) (none_taken b ks xs none) ∙ append-nil m.done)) ∙ told_text all octets told in
    subst (λ t. HasWritten took f t g) all_done m.wrote

pub told_first : {W : Type 0} (took : W → List ℕ → W → Type 0) (f : Formatter W) (all ks : List FieldKind) (xs others : List Part) → is_some (parts_text true all xs) ≡ true → ks ≡ all → others ≡ xs
    → HasWritten took f [] f → Told took f (parts_text true all xs) true ks others f
told_first took f all ks xs others told kinds parts nothing =
    let same : parts_text true ks others ≡ parts_text true all xs = ap (λ y. parts_text true y others) kinds ∙ ap (λ y. parts_text true all y) parts in
    record {
      whole = ap is_some same ∙ told;
      moved = record { done = []; parts = ap text_or_nothing (sym same); wrote = nothing };
    }

-- ---- data whose fields have no text
pub untold : (all : Option (List ℕ)) (octets : List ℕ) → is_some all ≡ false → unknown_text octets ≡ text_or_octets all octets
untold None octets told = refl
untold (Some t) octets told = absurd (false≢true (sym told))

few_picked : (few : Bool) (n : ℕ) (whole raw : List ℕ) → nat_le n 65535 ≡ few → n ≤ 65535 → whole ≡ (if few then whole else raw)
few_picked true n whole raw is few = refl
few_picked false n whole raw is few = absurd (grind (arith, nat_tests))

many_picked : (few : Bool) (n : ℕ) (whole raw : List ℕ) → nat_le n 65535 ≡ few → 65535 < n → raw ≡ (if few then whole else raw)
many_picked true n whole raw is many = absurd (grind (arith, nat_tests))
many_picked false n whole raw is many = refl

-- octets with no name compressed
pub plain_whole : (whole raw : List ℕ) (n : ℕ) → length whole ≡ n → n ≤ 65535 → codes "\\# " ++ (decimal n ++ flat_map spaced_octet whole) ≡ unknown_text (plain_octets whole raw)
plain_whole whole raw n is few =
    ap (λ (k : ℕ). codes "\\# " ++ (decimal k ++ flat_map spaced_octet whole)) (sym is)
    ∙ ap unknown_text (few_picked (nat_le (length whole) 65535) (length whole) whole raw refl (omega (arith, is, few)))

-- and those of the message, of data that no record can have
pub plain_raw : (whole raw : List ℕ) → 65535 < length whole → unknown_text raw ≡ unknown_text (plain_octets whole raw)
plain_raw whole raw many = ap unknown_text (many_picked (nat_le (length whole) 65535) (length whole) whole raw refl many)

-- ---- octets that are taken from the left
pub pairs_taken : {W : Type 0} (took : W → List ℕ → W → Type 0) (f g h : Formatter W) (all : List ℕ) (left : OctetReader) (before hand rest : List ℕ) → remaining_octets left ≡ before → hand ≡ in_hand left
    → HasMoved took f (flat_map spaced_octet all) (flat_map spaced_octet before) g → rest ≡ drop (length hand) (remaining_octets left) → HasWritten took g (flat_map spaced_octet hand) h
    → HasMoved took f (flat_map spaced_octet all) (flat_map spaced_octet rest) h
pairs_taken took f g h all left before hand rest same in_it m is wrote =
    let first = hand_first left in
    let whole : remaining_octets left ≡ hand ++ first.rest = first.is ∙ ap (λ (x : List ℕ). x ++ first.rest) (sym in_it) in
    let there : rest ≡ first.rest = is ∙ ap (λ (x : List ℕ). drop (length hand) x) whole ∙ drop-append_seam hand first.rest in
    let piece = flat_map spaced_octet hand in
    let cut : flat_map spaced_octet before ≡ piece ++ flat_map spaced_octet rest =
    ap (flat_map spaced_octet) (sym same ∙ whole ∙ ap (λ (x : List ℕ). hand ++ x) (sym there)) ∙ flat_map-append spaced_octet hand rest in
    record {
      done = m.done ++ piece;
      parts = m.parts ∙ (ap (λ (t : List ℕ). m.done ++ t) cut ∙ sym (append_assoc m.done piece (flat_map spaced_octet rest)));
      wrote = put_two took f g h m.done piece (m.done ++ piece) m.wrote wrote refl;
    }

pub pairs_all : {W : Type 0} (took : W → List ℕ → W → Type 0) (f g : Formatter W) (all left : List ℕ) → HasMoved took f (flat_map spaced_octet all) (flat_map spaced_octet left) g → left ≡ [] → HasWritten took f (flat_map spaced_octet all) g
pairs_all took f g all left m none =
    let whole : m.done ≡ flat_map spaced_octet all = sym (m.parts ∙ (ap (λ (t : List ℕ). m.done ++ flat_map spaced_octet t) none ∙ append-nil m.done)) in
    subst (λ (t : List ℕ). HasWritten took f t g) whole m.wrote

-- ---- one field
kept : {A : Type 0} (make : A → List ℕ) (held : Option A) → is_some (option_map make held) ≡ is_some held
kept make None = refl
kept make (Some it) = refl

-- the text of a name, and of a field that is none, as `Field::name` and `Field::octets` return them
named_text : (f : Field) (ls : List (List ℕ)) (first : Bool) → field_kind f ≡ kinds.Name → Names 255 (field_message f) (field_begin f) ls → part_text first (field_kind f) (part_of f) ≡ Some (lead first ++ zone_name ls)
named_text f ls first is named = ap (part_text first (field_kind f)) (named_part f ls is named)

held_by : (f : Field) (held : Option FieldText) (first : Bool) → (field_kind f ≡ kinds.Name → ⊥)
    → HasFieldText held (λ b. field_octets_text b (field_kind f) (slice_range (field_message f) (field_begin f) (field_after f))) → part_text first (field_kind f) (part_of f) ≡ option_map (held_text first) held
held_by f held first other has = ap (part_text first (field_kind f)) (octets_part f other) ∙ sym (has first)

-- what was read of the octets of a field of this kind
pub held_field : (f : Field) (k : FieldKind) (o : List ℕ) (held : Option FieldText) → k ≡ field_kind f → o ≡ slice_range (field_message f) (field_begin f) (field_after f) → HasFieldText held (λ b. field_octets_text b k o)
    → HasFieldText held (λ b. field_octets_text b (field_kind f) (slice_range (field_message f) (field_begin f) (field_after f)))
held_field f k o held kind octets has first = has first ∙ ap (λ x. field_octets_text first x o) kind ∙ ap (field_octets_text first (field_kind f)) octets

pub name_told : (f : Field) (ls : List (List ℕ)) → field_kind f ≡ kinds.Name → Names 255 (field_message f) (field_begin f) ls → IsTold (field_kind f) (part_of f) true
name_told f ls is named first = ap is_some (named_text f ls first is named)

pub octets_told : (f : Field) (held : Option FieldText) → (field_kind f ≡ kinds.Name → ⊥)
    → HasFieldText held (λ b. field_octets_text b (field_kind f) (slice_range (field_message f) (field_begin f) (field_after f))) → IsTold (field_kind f) (part_of f) (is_some held)
octets_told f held other has first = ap is_some (held_by f held first other has) ∙ kept (held_text first) held

pub name_shown : (f : Field) (ls : List (List ℕ)) (first : Bool) → field_kind f ≡ kinds.Name → Names 255 (field_message f) (field_begin f) ls → lead first ++ zone_name ls ≡ text_or_nothing (part_text first (field_kind f) (part_of f))
name_shown f ls first is named = ap text_or_nothing (sym (named_text f ls first is named))

pub held_shown : (f : Field) (held : FieldText) (first : Bool) → (field_kind f ≡ kinds.Name → ⊥)
    → HasFieldText (Some held) (λ b. field_octets_text b (field_kind f) (slice_range (field_message f) (field_begin f) (field_after f))) → held_text first held ≡ text_or_nothing (part_text first (field_kind f) (part_of f))
held_shown f held first other has = ap text_or_nothing (sym (held_by f (Some held) first other has))

pub nothing_shown : (f : Field) (first : Bool) → (field_kind f ≡ kinds.Name → ⊥)
    → HasFieldText None (λ b. field_octets_text b (field_kind f) (slice_range (field_message f) (field_begin f) (field_after f))) → [] ≡ text_or_nothing (part_text first (field_kind f) (part_of f))
nothing_shown f first other has = ap text_or_nothing (sym (held_by f None first other has))

-- ---- the text of data that was read is that of the octets
pub told_data : (rtype class : ℕ) (m : List ℕ) (p : ℕ) (it : Rdata) → IsRdata rtype class m p it → rdata_text it ≡ shown_data rtype class m p
told_data rtype class m p it is =
    let ks = known_fields rtype class in
    ap (λ y. fields_text y (rdata_parts it) (raw_octets it)) is.kinds
    ∙ (ap (λ y. fields_text ks y (raw_octets it)) (parts_of_data rtype class m p it is)
    ∙ (ap (λ y. fields_text ks (parts_at ks m p) (drop (rdata_begin it) y)) is.octets
    ∙ ap (λ y. fields_text ks (parts_at ks m p) (drop y m)) is.begins))
