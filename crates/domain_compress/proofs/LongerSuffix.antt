-- The longest suffix that stands at one of the offsets, with one offset more.
use Rattle.std.proofs.Common.{◌≡◌, ℕ, ◌≤◌, ◌<◌, inl, inr, List, [], ◌∷◌, ◌++◌, length, take, refl, sym, ap, subst, ◌∙◌, arith, length-append, append_assoc, append-nil, Option, None, Some}
use Rattle.std.proofs.lemmas.Grind.{common_steps}
use Rattle.std.proofs.lemmas.List.{length-map}
use Rattle.domain_label.specs.Wire.{wire, labels_in, IsAbsoluteWire}
use Rattle.domain_label.specs.Lowercase.{lowercase, lowercase_labels}
use Rattle.domain_label.proofs.WireLaws.{length-wire_append, nil_from_wire}
use Rattle.domain_reading.proofs.Reading.{reads_once}
use Rattle.domain_rdata.specs.ReadBack.{StandsAt}
use Rattle.domain_compress.specs.Compressing.{RememberedLabel, NoneRemembered, FirstRemembered}
use Rattle.domain_compress.specs.declared.written.WrittenSuffix.{WrittenSuffix}
use Rattle.domain_compress.specs.declared.written.Written.{Written}
use Rattle.domain_compress.specs.Written.{remembered, all_remembered, SuffixAt, SuffixFound, Longest, begin_or_length}
use Rattle.domain_compress.proofs.ComparedInMessage.{stands_so}
use Rattle.domain_compress.proofs.Searching.{fewer, shorter}

pub none_more : (t : List ℕ) (b : List (List ℕ)) (ws vs : List RememberedLabel) → NoneRemembered t ws b → NoneRemembered t vs b → NoneRemembered t (ws ++ vs) b
none_more t b [] vs none more = more
none_more t b (w ∷ ws) vs none more = (none.0, none_more t b ws vs none.1 more)

pub first_more : (t : List ℕ) (b : List (List ℕ)) (p : ℕ) (ws vs : List RememberedLabel) → FirstRemembered t ws b p → FirstRemembered t (ws ++ vs) b p
first_more t b p [] vs first = absurd first
first_more t b p (w ∷ ws) vs first = elim first [
  | inl here ↦ inl here
  | inr later ↦ inr (later.0, first_more t b p ws vs later.1)
]

pub first_here : (t : List ℕ) (b : List (List ℕ)) (w : RememberedLabel) (ws : List RememberedLabel) → NoneRemembered t ws b → StandsAt t w.at b → FirstRemembered t (ws ++ w ∷ []) b w.at
first_here t b w [] none s = inl (s, refl)
first_here t b w (v ∷ ws) none s = inr (none.0, first_here t b w ws none.1 s)

taken_size : (name : List ℕ) (at : ℕ) (before : List (List ℕ)) → at ≤ length name → take at name ≡ wire before → length (wire before) ≡ at
taken_size name at before inside e =
    let k : length (take at name) ≡ at = grind (arith, common_steps) in
    sym (ap length e) ∙ k

-- An end but the root is a part of the name.
inside_name : (name : List ℕ) (xs ys : List (List ℕ)) → IsAbsoluteWire name → labels_in name ≡ xs ++ ys → 1 < length ys → length (wire xs) < length name
inside_name name xs [] w e more = absurd (omega (arith, more))
inside_name name xs (y ∷ ys) w e more = omega (arith, ap length w.0, ap (λ ls. length (wire ls)) e, length-wire_append xs (y ∷ ys))

longer_suffix : (xs ys before after : List (List ℕ)) → xs ++ ys ≡ before ++ after → length xs < length before → 1 < length after → length after < length ys
longer_suffix xs ys before after e lt more = omega (arith, lt, more, ap length e, length-append xs ys, length-append before after)

pub kept_end : (t : List ℕ) (name : List ℕ) (w : RememberedLabel) (ws : List RememberedLabel) (best : Option WrittenSuffix) → IsAbsoluteWire name → ((xs ys : List (List ℕ)) → labels_in name ≡ xs ++ ys → 1 < length ys → length (wire xs) < begin_or_length best name → StandsAt t w.at ys → ⊥) → Longest t ws name best → Longest t (ws ++ w ∷ []) name best
kept_end t name w ws None wire_form none old = λ xs ys e more. none_more t ys ws (w ∷ []) (old xs ys e more) (none xs ys e more (inside_name name xs ys wire_form e more), tt)
kept_end t name w ws (Some end) wire_form none old =
    let size = taken_size name end.begin old.before (omega (arith, old.inside)) old.octets in
    record {
      before = old.before;
      after = old.after;
      longest = record {
        parts = old.longest.parts;
        more = old.longest.more;
        offset = first_more t old.after end.offset ws (w ∷ []) old.longest.offset;
        longest = λ xs ys e lt.
            let same = sym e ∙ old.longest.parts in
            none_more t ys ws (w ∷ []) (old.longest.longest xs ys e lt)
            (none xs ys e (omega (arith, old.longest.more, longer_suffix xs ys old.before old.after same lt old.longest.more)) (omega (arith, size, shorter xs old.before ys old.after same lt)), tt);
      };
      through = old.through;
      octets = old.octets;
      low = old.low;
      inside = old.inside;
    }

-- What was known of the ends that begin before the longest one.
none_before : (t : List ℕ) (name : List ℕ) (ws : List RememberedLabel) (best : Option WrittenSuffix) → Longest t ws name best → (xs ys : List (List ℕ)) → labels_in name ≡ xs ++ ys → 1 < length ys → length (wire xs) < begin_or_length best name → NoneRemembered t ws ys
none_before t name ws None old xs ys e more lt = old xs ys e more
none_before t name ws (Some end) old xs ys e more lt =
    let size = taken_size name end.begin old.before (omega (arith, old.inside)) old.octets in
    old.longest.longest xs ys e (fewer xs old.before ys old.after (sym e ∙ old.longest.parts) (omega (arith, size, lt)))

-- At one offset stand suffixes of one length only.
one_length : (t : List ℕ) (p : ℕ) (xs ys : List (List ℕ)) → StandsAt t p xs → StandsAt t p ys → length xs ≡ length ys
one_length t p xs ys a b =
    let same : lowercase_labels xs ≡ lowercase_labels ys = sym a.2 ∙ (ap lowercase_labels (reads_once a.1.reads b.1.reads).1 ∙ b.2) in
    sym (length-map xs lowercase) ∙ (ap length same ∙ length-map ys lowercase)

pub longer_found : (t : List ℕ) (name : List ℕ) (w : RememberedLabel) (ws : List RememberedLabel) (best : Option WrittenSuffix) (end : WrittenSuffix) → IsAbsoluteWire name → w.at ≡ end.offset → end.offset < 16384 → SuffixAt t end.offset name (begin_or_length best name) end.begin end.pointers → Longest t ws name best → SuffixFound t (ws ++ w ∷ []) name end
longer_found t name w ws best end wire_form here lowercase x old =
    let size = taken_size name end.begin x.before (omega (arith, x.inside)) x.octets in
    let short : length (wire x.after) ≤ 255 = omega (arith, ap length wire_form.0, wire_form.1.1, ap (λ ls. length (wire ls)) x.parts, length-wire_append x.before x.after) in
    let stands : StandsAt t w.at x.after = subst (λ p. StandsAt t p x.after) (sym here) (stands_so x.after short x.through) in
    let none = none_before t name ws best old in
    record {
      before = x.before;
      after = x.after;
      longest = record {
        parts = x.parts;
        more = x.more;
        offset = subst (λ p. FirstRemembered t (ws ++ w ∷ []) x.after p) here (first_here t x.after w ws (none x.before x.after x.parts x.more (omega (arith, size, x.earlier))) stands);
        longest = λ xs ys e lt.
            let same = sym e ∙ x.parts in
            let longer = longer_suffix xs ys x.before x.after same lt x.more in
            none_more t ys ws (w ∷ []) (none xs ys e (omega (arith, x.more, longer)) (omega (arith, size, x.earlier, shorter xs x.before ys x.after same lt)))
            ((λ s. absurd (omega (arith, longer, one_length t w.at ys x.after s stands))), tt);
      };
      through = x.through;
      octets = x.octets;
      low = lowercase;
      inside = x.inside;
    }

-- No longer end than the whole name can be found.
pub whole_found : (t : List ℕ) (name : List ℕ) (ws vs : List RememberedLabel) (end : WrittenSuffix) → end.begin ≡ 0 → SuffixFound t ws name end → SuffixFound t (ws ++ vs) name end
whole_found t name ws vs end zero f =
    let none : f.before ≡ [] = nil_from_wire f.before (taken_size name end.begin f.before (omega (arith, f.inside)) f.octets ∙ zero) in
    record {
      before = f.before;
      after = f.after;
      longest = record {
        parts = f.longest.parts;
        more = f.longest.more;
        offset = first_more t f.after end.offset ws vs f.longest.offset;
        longest = λ xs ys e lt. absurd (omega (arith, lt, ap length none));
      };
      through = f.through;
      octets = f.octets;
      low = f.low;
      inside = f.inside;
    }

-- Of the offsets, those before the rest were seen.
pub record Seen (t : List ℕ) (name : List ℕ) (all rest : List Written) (best : Option WrittenSuffix) : Type 0 where
  pub offsets_seen : List RememberedLabel
  pub split : all_remembered all ≡ offsets_seen ++ all_remembered rest
  pub longest : Longest t offsets_seen name best

pub seen_start : (t : List ℕ) (name : List ℕ) (all : List Written) → Seen t name all all None
seen_start t name all = record { offsets_seen = []; split = refl; longest = λ xs ys e more. tt }

pub split_more : (seen : List RememberedLabel) (w : Written) (all rest more : List Written) → all_remembered all ≡ seen ++ all_remembered rest → rest ≡ w ∷ more → all_remembered all ≡ (seen ++ remembered w ∷ []) ++ all_remembered more
split_more seen w all rest more split e = split ∙ (ap (λ r. seen ++ all_remembered r) e ∙ sym (append_assoc seen (remembered w ∷ []) (all_remembered more)))

pub seen_next : (t : List ℕ) (name : List ℕ) (all rest more : List Written) (w : Written) (old new : Option WrittenSuffix) → (s : Seen t name all rest old) → rest ≡ w ∷ more → ((ws : List RememberedLabel) → Longest t ws name old → Longest t (ws ++ remembered w ∷ []) name new) → Seen t name all more new
seen_next t name all rest more w old new s e improves = record {
  offsets_seen = s.offsets_seen ++ remembered w ∷ [];
  split = split_more s.offsets_seen w all rest more s.split e;
  longest = improves s.offsets_seen s.longest;
}

pub seen_all : (t : List ℕ) (name : List ℕ) (all rest : List Written) (best : Option WrittenSuffix) → Seen t name all rest best → rest ≡ [] → Longest t (all_remembered all) name best
seen_all t name all rest best s e =
    let whole : all_remembered all ≡ s.offsets_seen = s.split ∙ (ap (λ r. s.offsets_seen ++ all_remembered r) e ∙ append-nil s.offsets_seen) in
    subst (λ ws. Longest t ws name best) (sym whole) s.longest

pub seen_whole : (t : List ℕ) (name : List ℕ) (all more : List Written) (end : WrittenSuffix) → Seen t name all more (Some end) → end.begin ≡ 0 → SuffixFound t (all_remembered all) name end
seen_whole t name all more end s zero = subst (λ ws. SuffixFound t ws name end) (sym s.split) (whole_found t name s.offsets_seen (all_remembered more) end zero s.longest)
