-- What a message is that is cut back to a mark.
use Rattle.std.proofs.Common.{◌≡◌, ℕ, ◌+◌, ◌≤◌, List, [], ◌++◌, length, length-append, take, refl, sym, ap, subst, arith, ◌∙◌, append_assoc}
use Rattle.std.proofs.Math.Seq.{take-append_seam, take-length}
use Rattle.std.proofs.lemmas.List.{take-take, take-append-le, length-take-le, append-nil}
use Rattle.std.specs.Prelude.{Bool, Result, Ok, Err, OnOk, OnErr}
use Rattle.domain_header.specs.declared.flags.Header.{Header}
use Rattle.domain_message.specs.Entries.{QuestionFields}
use Rattle.domain_message.specs.declared.section.Section.{Section}
use Rattle.domain_message_builder.specs.Contents.{blank_header, RecordHead}
use Rattle.domain_message_builder.specs.Marks.{place_of, state_at, Grows}
use Rattle.domain_message_builder.specs.Pushes.{PushesRecord, PushesQuestion}
use Rattle.domain_message_builder.specs.SectionStarts.{IsInOrder}
use Rattle.domain_message_builder.specs.State.{State}
use Rattle.domain_message_builder.specs.declared.mark.Mark.{Mark}
use Rattle.domain_message_builder.specs.declared.section_starts.SectionStarts.{SectionStarts}

-- What the ghost fields say after a cut to a mark.
pub cut_to_mark : (p : SectionStarts) (m : List ℕ) (reserved limit len : ℕ) (made : List ℕ) → take 12 m ≡ blank_header → length m + reserved ≤ limit → len ≤ length m → IsInOrder p len → made ≡ take len m
    → (take 12 made ≡ blank_header) × (length made + reserved ≤ limit) × IsInOrder p (length made)
cut_to_mark p m reserved limit len made begun within inside ordered cut =
    let low : 12 ≤ len = omega (arith, ordered.0, ordered.1, ordered.2, ordered.3) in
    let size : length made ≡ len = ap length cut ∙ length-take-le len m inside in (
      ap (take 12) cut ∙ (take-take 12 len m low ∙ begun),
      omega (arith, within, size, inside),
      subst (λ n. IsInOrder p n) (sym size) ordered,
    )

-- A state whose parts are those of another is the other.
same_state : (s : State) (header : Header) (limit reserved : ℕ) (octets : List ℕ) → header ≡ s.header → limit ≡ s.limit → reserved ≡ s.reserved → octets ≡ s.octets
    → record { header = header; limit = limit; reserved = reserved; counts = s.counts; starts = s.starts; octets = octets } ≡ s
same_state s header limit reserved octets h l r o =
    ap (λ x. record s { header = x; limit = limit; reserved = reserved; octets = octets }) h
    ∙ (ap (λ x. record s { limit = x; reserved = reserved; octets = octets }) l
    ∙ (ap (λ x. record s { reserved = x; octets = octets }) r ∙ ap (λ x. record s { octets = x }) o))

-- Cut back to where it was, the message is as it was.
pub back_at_place : (old new : State) (mark : Mark) → mark ≡ place_of old → Grows old new → state_at mark new ≡ old
back_at_place old new mark at grows =
    let cut : take (length old.octets) new.octets ≡ old.octets = ap (take (length old.octets)) grows.all ∙ take-append_seam old.octets grows.octets in
    ap (λ p. state_at p new) at ∙ same_state old new.header new.limit new.reserved (take (length old.octets) new.octets) grows.settings.header grows.settings.limit grows.settings.reserved cut

-- A message that is cut where it ends is as it is.
pub at_own_place : (s : State) (mark : Mark) → mark ≡ place_of s → state_at mark s ≡ s
at_own_place s mark at = ap (λ p. state_at p s) at ∙ ap (λ o. record s { octets = o }) (take-length s.octets)

-- The mark stays the same where octets come after it.
pub mark_stays : (mark : Mark) (old new : State) → mark.len ≤ length old.octets → Grows old new → state_at mark new ≡ state_at mark old
mark_stays mark old new inside grows =
    let cut : take mark.len new.octets ≡ take mark.len old.octets = ap (take mark.len) grows.all ∙ take-append-le mark.len old.octets grows.octets inside in
    same_state (state_at mark old) new.header new.limit new.reserved (take mark.len new.octets) grows.settings.header grows.settings.limit grows.settings.reserved cut

-- ---- growing

pub grows_none : (s : State) → Grows s s
grows_none s = record { octets = []; all = sym (append-nil s.octets); settings = record { header = refl; limit = refl; reserved = refl } }

pub grows_more : (old mid new : State) → Grows old mid → Grows mid new → Grows old new
grows_more old mid new first second = record {
  octets = first.octets ++ second.octets;
  all = second.all ∙ (ap (λ o. o ++ second.octets) first.all ∙ append_assoc old.octets first.octets second.octets);
  settings = record {
    header = second.settings.header ∙ first.settings.header;
    limit = second.settings.limit ∙ first.settings.limit;
    reserved = second.settings.reserved ∙ first.settings.reserved;
  };
}

pub longer : (old new : State) → Grows old new → length old.octets ≤ length new.octets
longer old new grows = omega (arith, ap length grows.all, length-append old.octets grows.octets)

-- What was remembered of what came later is forgotten, whatever is forgotten first.
pub kept_through : {M : Type 0} (kept : ℕ → M → M) (n k : ℕ) (first mid last : M) → ((a b : ℕ) (m : M) → a ≤ b → kept a (kept b m) ≡ kept a m) → n ≤ k → kept n mid ≡ first → kept k last ≡ mid → kept n last ≡ first
kept_through kept n k first mid last twice less before after = sym (twice n k last less) ∙ (ap (kept n) after ∙ before)

pub mark_kept : {M : Type 0} (kept : ℕ → M → M) (n k : ℕ) (old new : M) → ((a b : ℕ) (m : M) → a ≤ b → kept a (kept b m) ≡ kept a m) → n ≤ k → kept k new ≡ old → kept n new ≡ kept n old
mark_kept kept n k old new twice less after = sym (twice n k new less) ∙ ap (kept n) after

-- What a push leaves, which may have been refused.
pub grows_pushed : {A E : Type 0} (r : Result A E) (c : Bool) (section : Section) (head : RecordHead) (May : List ℕ → List ℕ → Type 0) (old new : State) → OnOk r (PushesRecord c section head May old new) → OnErr r (new ≡ old) → Grows old new
grows_pushed (Ok x) c section head May old new pushed same = record { octets = pushed.octets.octets; all = pushed.octets.all; settings = pushed.settings }
grows_pushed (Err e) c section head May old new pushed same = subst (λ s. Grows old s) (sym same) (grows_none old)

pub grows_asked : {A E : Type 0} (r : Result A E) (c : Bool) (q : QuestionFields) (old new : State) → OnOk r (PushesQuestion c q old new) → OnErr r (new ≡ old) → Grows old new
grows_asked (Ok x) c q old new pushed same = record { octets = pushed.octets.octets; all = pushed.octets.all; settings = pushed.settings }
grows_asked (Err e) c q old new pushed same = subst (λ s. Grows old s) (sym same) (grows_none old)

-- ---- cut back to the mark

-- The mark stays the same there.
pub mark_stays_there : (mark : Mark) (old new : State) → new ≡ state_at mark old → state_at mark new ≡ state_at mark old
mark_stays_there mark old new back =
    ap (state_at mark) back ∙ ap (λ o. record (state_at mark old) { octets = o }) (take-take mark.len mark.len old.octets (omega arith))

pub mark_inside : (mark : Mark) (old new : State) → mark.len ≤ length old.octets → new ≡ state_at mark old → mark.len ≤ length new.octets
mark_inside mark old new inside back = omega (arith, ap (λ s. length s.octets) back, length-take-le mark.len old.octets inside)
