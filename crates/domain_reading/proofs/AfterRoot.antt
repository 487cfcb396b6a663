-- What holds once the root of a name was read.
use Rattle.std.proofs.Common.{◌≡◌, ◌∙◌, ℕ, ◌+◌, ◌≤◌, inl, inr, List, ◌++◌, length, refl, sym, subst, arith, Option, None, Some, MatchOption, unwrap_or, length-append, take, set, slice_range, ap}
use Rattle.std.proofs.lemmas.Grind.{common_steps}
use Rattle.std.proofs.lemmas.Bool.{cases_lt}
use Rattle.domain_label.specs.Wire.{wire, Root}
use Rattle.domain_reading.specs.Grammar.{OctetAt, PointerAt, Reads, LabelRun, Encoding, EncodingEnds}
use Rattle.domain_reading.specs.Grammar.Reads.{root}
use Rattle.domain_reading.specs.Grammar.FirstLabelAt.{here}
use Rattle.domain_reading.specs.Grammar.Stop.{root as stop_root, pointer as stop_pointer}
use Rattle.domain_reading.specs.ParseResult.{NameRead}
use Rattle.domain_reading.specs.declared.progress.Progress.{Progress}
use Rattle.domain_label.proofs.WireLaws.{length-wire_append}
use Rattle.domain_reading.proofs.NameOrFault.{walk_reads}
use Rattle.domain_reading.specs.Progress.{noted, table_noted, entry_of}
use Rattle.domain_reading.specs.Offsets.{labels_at_entries, AreLabelOffsets}
use Rattle.domain_reading.proofs.LabelsOfTable.{note, root_offset, next_near}
use Rattle.domain_reading.proofs.WhileReading.{Going, Goes, leads_base}
use Rattle.domain_reading.proofs.LabelsAt.{flat_wire}

no_pointer : {m : List ℕ} {p q : ℕ} → OctetAt m p 0 → PointerAt m p q → ⊥
no_pointer x y = omega arith

last_base : {n : ℕ} {m : List ℕ} {p : ℕ} {w : Progress} {es : List ℕ} {fs : List (List ℕ)} → Going n m p w es fs → OctetAt m w.at 0 → (q : ℕ) → PointerAt m w.base q → w.base ≤ q
last_base {m = m} {w = w} g x q y = elim (cases_lt 0 w.len) [
  | inl some ↦ g.last some q y
  | inr none ↦ absurd (no_pointer x (subst (λ b. PointerAt m b q) (g.near (omega arith)) y))
]

end_from : {m : List ℕ} {r : ℕ} (p : ℕ) (fs : List (List ℕ)) (end : Option ℕ) → MatchOption end (LabelRun m p fs r) (λ e. (gs : List (List ℕ)) × (q : ℕ) × Encoding m p gs (stop_pointer q) e) → OctetAt m r 0 → EncodingEnds m p (unwrap_or end (r + 1))
end_from {r = r} p fs None a x = (fs, stop_root, record { stop = r; run = a; ends = (x, refl) })
end_from p fs (Some e) a x = (a.0, stop_pointer a.1, a.2)

pub name_read : {n : ℕ} {m : List ℕ} {p : ℕ} {w : Progress} {es : List ℕ} (before heads now : ℕ) → Goes n m p w es before heads → OctetAt m w.at 0 → now ≡ heads + 1 → NameRead n m p (noted w) (table_noted w es) before now
name_read {n} {m} {p} {w} {es} before heads now g x count =
    let fs = g.0 in
    let going = g.1 in
    let r : Reads m p (w.pointers + 0) (fs ++ Root) = walk_reads going.walk (root x) in
    let len : length (wire (fs ++ Root)) ≡ w.len + 1 = omega (arith, length-wire_append fs Root, going.len) in
    let offset = root_offset m w.at x in
    let t = note (entry_of w) going.noted (next_near w.base w.at w.len w.compressed going.short going.near_at) offset.0 offset.1 (omega (arith, going.noted.count, going.few_labels, going.short)) in
    let all : take (w.count + 1) (set es w.count (entry_of w)) ≡ slice_range (set es w.count (entry_of w)) 0 (w.count + 1) = grind (arith, common_steps) in
    record {
      labels = fs ++ Root;
      name = record { pointers = w.pointers + 0; reads = r; few_pointers = omega (arith, going.few_pointers); short = omega (arith, len, going.short) };
      counted = omega (arith, count, g.2, length-append fs Root);
      ends = end_from p fs w.end going.front x;
      base = leads_base going.leads (here (last_base going x));
      placed = ap (λ es. labels_at_entries m w.base es) (sym all) ∙ t.table;
      stand = subst (λ es. AreLabelOffsets m w.base es) all t.stand;
      some = omega arith;
      few = omega (arith, going.noted.count, going.few_labels, going.short);
      sized = sym len;
      contiguous = λ h. (fs, w.at + 1, record { stop = w.at; run = going.flat h; ends = (x, refl) });
      is_compressed = going.is_compressed;
      inside = λ h. omega (arith, (flat_wire fs w.base (going.flat h) x).1, going.len, x.inside);
      octets = λ h.
          let a = flat_wire fs w.base (going.flat h) x in
          let k : w.base + (w.len + 1) ≡ w.at + 1 = omega (arith, a.1, going.len) in
          rw k a.0;
    }
