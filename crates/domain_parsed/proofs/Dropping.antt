-- A table without its first offset, and the name without its first label.
use Rattle.std.proofs.Common.{◌≡◌, ℕ, ◌+◌, ◌-◌, ◌≤◌, ◌<◌, List, ◌∷◌, length, Bool, false, slice_range, slice_index, refl, sym, ap, subst, arith, ◌∙◌}
use Rattle.domain_label.specs.Wire.{wire, Root, IsAbsoluteName}
use Rattle.domain_reading.specs.Offsets.{entry_offset, IsLabelOffset, AreLabelOffsets, label_at, labels_at_entries}
use Rattle.domain_reading.proofs.NameOrFault.{slice_length}
use Rattle.domain_reading.proofs.LabelsOfTable.{taken, labels_taken, slice_taken, slice_size, length-labels}
use Rattle.domain_parsed.proofs.Parents.{Rest, rest_of, flat_rest, flat_inside, many_labels}

pub record Dropped (o : List ℕ) (base : ℕ) (entries : List ℕ) (dropped count dropped_len n : ℕ) (compressed : Bool) : Type 0 where
  pub offset : ℕ
  pub label : List ℕ
  pub is_entry : offset ≡ entry_offset base (slice_index entries dropped)
  pub is_label : label ≡ label_at o offset
  pub here : IsLabelOffset o offset
  pub head : slice_index o offset ≡ length label
  pub labels : labels_at_entries o base (slice_range entries dropped count) ≡ label ∷ labels_at_entries o base (slice_range entries (dropped + 1) count)
  pub rest : Rest label (labels_at_entries o base (slice_range entries (dropped + 1) count)) n
  pub some : dropped + 1 < count
  pub stand : AreLabelOffsets o base (slice_range entries (dropped + 1) count)
  pub flat : compressed ≡ false → slice_range o (base + (dropped_len + (length label + 1))) (base + (dropped_len + (length label + 1)) + (n - (length label + 1))) ≡ wire (labels_at_entries o base (slice_range entries (dropped + 1) count))

pub drop_first : (o : List ℕ) (base : ℕ) (entries : List ℕ) (dropped count dropped_len n : ℕ) (compressed : Bool) → dropped < count → count ≤ length entries → AreLabelOffsets o base (slice_range entries dropped count) → IsAbsoluteName (labels_at_entries o base (slice_range entries dropped count))
    → n ≡ length (wire (labels_at_entries o base (slice_range entries dropped count))) → (compressed ≡ false → slice_range o (base + dropped_len) (base + dropped_len + n) ≡ wire (labels_at_entries o base (slice_range entries dropped count))) → (labels_at_entries o base (slice_range entries dropped count) ≡ Root → ⊥)
    → Dropped o base entries dropped count dropped_len n compressed
drop_first o base entries dropped count dropped_len n compressed some few stand absolute sized flat more =
    let e = slice_index entries dropped in
    let rest = slice_range entries (dropped + 1) count in
    let p = entry_offset base e in
    let l = label_at o p in
    let is = slice_taken entries dropped count some few in
    let t = taken o base e (slice_range entries dropped count) rest is stand in
    let ls : labels_at_entries o base (slice_range entries dropped count) ≡ l ∷ labels_at_entries o base rest = labels_taken o base e p (slice_range entries dropped count) rest l is refl refl in
    let r = rest_of l (labels_at_entries o base rest) n (subst (λ ls. IsAbsoluteName ls) ls absolute) (sized ∙ ap (λ ls. length (wire ls)) ls) (λ h. more (ls ∙ h)) in
    let many = many_labels (labels_at_entries o base (slice_range entries dropped count)) absolute.0 more in
    record {
      offset = p;
      label = l;
      is_entry = refl;
      is_label = refl;
      here = t.here;
      head = sym (slice_length o p (slice_index o p) t.here.1);
      labels = ls;
      rest = r;
      some = omega (arith, many, length-labels o base (slice_range entries dropped count), slice_size entries dropped count few);
      stand = t.stand;
      flat = λ h. flat_rest o l (labels_at_entries o base rest) (base + dropped_len) n _ _ (flat_inside o (base + dropped_len) n _ absolute.0 sized (flat h)) r.fits (flat h ∙ ap (λ ls. wire ls) ls) (omega arith) (omega (arith, r.fits));
    }
