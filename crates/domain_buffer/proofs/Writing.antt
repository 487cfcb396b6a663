-- What writing a name leaves.
use Rattle.std.proofs.Common.{◌≡◌, ℕ, ◌+◌, ◌≤◌, ◌<◌, List, ◌++◌, length, take, sym, subst, arith}
use Rattle.std.proofs.lemmas.Grind.{common_steps}
use Rattle.domain_label.specs.Wire.{labels_in, IsWire, IsAbsoluteWire}
use Rattle.domain_label.proofs.WireLaws.{absolute_wire}
use Rattle.domain_compress.specs.Compressing.{Compresses, pointer_to}
use Rattle.domain_compress.specs.Planned.{remembered_in_table, WritesPointer, WritesFlat}
use Rattle.domain_buffer.specs.Puts.{PutsAt}
use Rattle.domain_buffer.specs.Plans.{Spells, PutsName, NameDoesNotFit}

pub spells_pointer : (t table name : List ℕ) (begin offset : ℕ) (s : List ℕ) → WritesPointer t (remembered_in_table table) name begin offset → s ≡ take begin name ++ pointer_to offset → Spells t table name begin s
spells_pointer t table name begin offset s w e = record {
  compresses = subst (λ ls. Compresses t (remembered_in_table table) (labels_in name) ls s) (sym w.spelled) (subst (λ s. Compresses t (remembered_in_table table) (labels_in name) w.labels s) (sym e) w.compresses);
  wire_form = w.wire_form;
  inside = omega (arith, w.inside);
}

all_taken : (name : List ℕ) → take (length name) name ≡ name
all_taken name = grind (arith, common_steps)

pub spells_flat : (t table name s : List ℕ) → IsAbsoluteWire name → WritesFlat t (remembered_in_table table) name → s ≡ name → Spells t table name (length name) s
spells_flat t table name s wired w e = record {
  compresses = subst (λ s. Compresses t (remembered_in_table table) (labels_in name) (labels_in (take (length name) name)) s) (sym e)
      (subst (λ f. Compresses t (remembered_in_table table) (labels_in name) (labels_in f) name) (sym (all_taken name)) (subst (λ s. Compresses t (remembered_in_table table) (labels_in name) (labels_in name) s) wired.0 w));
  wire_form = subst IsWire (sym (all_taken name)) (absolute_wire wired);
  inside = omega arith;
}

pub writes_spelled : (o : List ℕ) (start : ℕ) (table name : List ℕ) (begin : ℕ) (s : List ℕ) (end : ℕ) (o' : List ℕ) → Spells (take start o) table name begin s → start + length s ≤ length o → end ≡ start + length s → PutsAt start s o o' → PutsName o start table name begin end o'
writes_spelled o start table name begin s end o' w fits ends puts = record {
  octets = s;
  compresses = w.compresses;
  wire_form = w.wire_form;
  inside = w.inside;
  ends = ends;
  fits = omega (arith, ends);
  puts = puts;
}

pub spelled_no_room : (o : List ℕ) (start : ℕ) (table name : List ℕ) (begin : ℕ) (s : List ℕ) → Spells (take start o) table name begin s → length o < start + length s → NameDoesNotFit o start table name
spelled_no_room o start table name begin s w long = record {
  labels = labels_in (take begin name);
  octets = s;
  compresses = w.compresses;
  long = long;
}
