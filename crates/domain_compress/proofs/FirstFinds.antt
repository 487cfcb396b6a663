-- Where a name stands first among the offsets.
use Rattle.std.proofs.Common.{◌≡◌, ℕ, ◌+◌, List, [], ◌∷◌, ◌++◌, take, slice_index, slice_range, refl, sym, ap, subst, ◌∙◌, arith, append-nil}
use Rattle.domain_label.specs.Wire.{labels_in, IsAbsoluteWire}
use Rattle.domain_label.proofs.WireLaws.{absolute_wire}
use Rattle.domain_rdata.specs.ReadBack.{StandsAt}
use Rattle.domain_compress.specs.Compressing.{RememberedLabel, NoneRemembered, FirstRemembered}
use Rattle.domain_compress.specs.declared.written.Written.{Written}
use Rattle.domain_compress.specs.Written.{remembered, all_remembered, StandsThrough, FirstFound, SuffixFound}
use Rattle.domain_compress.specs.declared.written.WrittenSuffix.{WrittenSuffix}
use Rattle.domain_compress.proofs.ComparedInMessage.{name_head, stands_so}
use Rattle.domain_compress.proofs.LongerSuffix.{none_more, first_more, first_here, split_more}
use Rattle.domain_compress.proofs.Searching.{Passed, more_left}
use Rattle.domain_flat.proofs.LabelBounds.{meets_start, meets_labels, meets_take}
use Rattle.domain_compress.specs.Ends.{label_hash, first_hash}
use Rattle.domain_compress.specs.Hashes.{IsHashed}
use Rattle.domain_compress.proofs.Marking.{label_kind, other_hash}

-- The name stands at none of the offsets before the rest.
pub record Nowhere (t : List ℕ) (ls : List (List ℕ)) (all rest : List Written) : Type 0 where
  pub offsets_seen : List RememberedLabel
  pub split : all_remembered all ≡ offsets_seen ++ all_remembered rest
  pub none : NoneRemembered t offsets_seen ls

pub nowhere_start : (t : List ℕ) (ls : List (List ℕ)) (all : List Written) → Nowhere t ls all all
nowhere_start t ls all = record { offsets_seen = []; split = refl; none = tt }

pub nowhere_next : (t : List ℕ) (ls : List (List ℕ)) (all rest more : List Written) (w : Written) → Nowhere t ls all rest → rest ≡ w ∷ more → (StandsAt t w.offset ls → ⊥) → Nowhere t ls all more
nowhere_next t ls all rest more w s e none = record {
  offsets_seen = s.offsets_seen ++ remembered w ∷ [];
  split = split_more s.offsets_seen w all rest more s.split e;
  none = none_more t ls s.offsets_seen (remembered w ∷ []) s.none (none, tt);
}

pub nowhere_all : (t : List ℕ) (ls : List (List ℕ)) (all rest : List Written) → Nowhere t ls all rest → rest ≡ [] → NoneRemembered t (all_remembered all) ls
nowhere_all t ls all rest s e =
    let whole : all_remembered all ≡ s.offsets_seen = s.split ∙ (ap (λ r. s.offsets_seen ++ all_remembered r) e ∙ append-nil s.offsets_seen) in
    subst (λ ws. NoneRemembered t ws ls) (sym whole) s.none

-- It stands at the next one.
pub stands_first : (t : List ℕ) (name : List ℕ) (all rest more : List Written) (w : Written) (k : ℕ) → IsAbsoluteWire name → Nowhere t (labels_in name) all rest → rest ≡ w ∷ more → StandsThrough t w.offset (labels_in name) k → FirstFound t all (labels_in name) w.offset k
stands_first t name all rest more w k form s e through =
    let ls = labels_in name in
    let here = first_here t ls (remembered w) s.offsets_seen s.none (stands_so ls form.1.1 through) in
    let both = first_more t ls w.offset (s.offsets_seen ++ remembered w ∷ []) (all_remembered more) here in
    record {
      first = subst (λ ws. FirstRemembered t ws ls w.offset) (sym (split_more s.offsets_seen w all rest more s.split e)) both;
      through = through;
      low = w.low;
    }

-- It is the longest suffix where none that is longer stands anywhere.
pub suffix_first : (t name : List ℕ) (all : List Written) (begin : ℕ) (end : WrittenSuffix) → IsAbsoluteWire name → (s : Passed (NoneRemembered t (all_remembered all)) name begin) → (slice_index name begin ≡ 0 → ⊥) → end.begin ≡ begin → FirstFound t all s.after end.offset end.pointers → SuffixFound t (all_remembered all) name end
suffix_first t name all begin end w s some at f =
    let more = more_left name begin s.before s.after s.meets s.absolute some in
    record {
      before = s.before;
      after = s.after;
      longest = record {
        parts = meets_labels name begin s.before s.after s.meets;
        more = more.0;
        offset = f.first;
        longest = s.earlier;
      };
      through = f.through;
      octets = ap (λ n. take n name) at ∙ meets_take name begin s.before s.after s.meets;
      low = f.low;
      inside = omega (arith, at, more.1);
    }

-- So is the whole name, wherever it stands.
pub whole_first : (t name : List ℕ) (all : List Written) (end : WrittenSuffix) → IsAbsoluteWire name → (slice_index name 0 ≡ 0 → ⊥) → end.begin ≡ 0 → FirstFound t all (labels_in name) end.offset end.pointers → SuffixFound t (all_remembered all) name end
whole_first t name all end w some at f =
    let start : Passed (NoneRemembered t (all_remembered all)) name 0 = record { before = []; after = labels_in name; meets = meets_start name (absolute_wire w); absolute = w.1.0; earlier = λ xs ys e h. absurd (omega (arith, h)) } in
    suffix_first t name all 0 end w start some at f

-- The hash of the first label of the name.
pub first_hashed : (name : List ℕ) (n h : ℕ) → IsAbsoluteWire name → n ≡ slice_index name 0 → h ≡ label_hash (slice_range name 1 (1 + n)) → h ≡ first_hash (labels_in name)
first_hashed name n h w size hashed =
    hashed ∙ (ap (λ k. label_hash (slice_range name 1 (1 + k))) size ∙ label_kind name 0 [] (labels_in name) (meets_start name (absolute_wire w)) w.1.0)

-- The name doesn't stand where the label has another.
pub hashed_otherwise : (t name : List ℕ) (w : Written) (n h : ℕ) → IsAbsoluteWire name → (slice_index name 0 ≡ 0 → ⊥) → n ≡ slice_index name 0 → h ≡ label_hash (slice_range name 1 (1 + n)) → IsHashed t w → (w.hash ≡ h → ⊥) → StandsAt t w.offset (labels_in name) → ⊥
hashed_otherwise t name w n h form some size hashed there differs =
    let first = name_head name 0 [] (labels_in name) (meets_start name (absolute_wire form)) form.1.0 in
    other_hash t w.offset w.end w.hash (labels_in name) there (λ e. differs (e ∙ sym (first_hashed name n h form size hashed))) (omega (arith, some, first))
