-- A flat name is a name in a message that has no other octets.
use Rattle.std.proofs.Common.{◌≡◌, ℕ, ◌+◌, List, [], ◌++◌, length, false, slice_range, subst, ◌∙◌}
use Rattle.std.proofs.lemmas.List.{append-nil}
use Rattle.domain_label.specs.Wire.{wire, labels_in, IsAbsoluteWire}
use Rattle.domain_reading.specs.Grammar.{Names, Encoding, IsContiguous}
use Rattle.domain_reading.specs.Grammar.Stop.{root as stop_root}
use Rattle.domain_reading.specs.Faults.{NameFaultAt}
use Rattle.domain_reading.specs.ParseResult.{NameRead, HoldsName}
use Rattle.domain_reading.specs.Offsets.{labels_at_entries}
use Rattle.domain_reading.specs.declared.fault.NameFault.{NameFault}
use Rattle.domain_reading.specs.declared.progress.Progress.{Progress}
use Rattle.domain_reading.proofs.Reading.{reads_once}
use Rattle.domain_reading.proofs.NameOrFault.{names_or_fault}
use Rattle.domain_reading.proofs.UncompressedIsRead.{plain_names, plain_front}
use Rattle.domain_parsed.proofs.Parsing.{HeldAs, held_more, piece_tells, front_base}

-- the octets of a flat name, as a message
same_octets : (o : List ℕ) → IsAbsoluteWire o → [] ++ wire (labels_in o) ++ [] ≡ o
same_octets o w = append-nil (wire (labels_in o)) ∙ w.0

flat_named : (o : List ℕ) → IsAbsoluteWire o → Names 0 o 0 (labels_in o)
flat_named o w = subst (λ m. Names 0 m 0 (labels_in o)) (same_octets o w) (plain_names [] [] (labels_in o) w.1)

flat_piece : (o : List ℕ) → IsAbsoluteWire o → IsContiguous o 0
flat_piece o w =
    let f = plain_front [] [] (labels_in o) w.1 in
    let there : Encoding o 0 f.0 stop_root (length {A = ℕ} [] + length (wire (labels_in o))) = subst (λ m. Encoding m 0 f.0 stop_root (length {A = ℕ} [] + length (wire (labels_in o)))) (same_octets o w) f.1 in
    (0, f.0, _, front_base there, there)

pub flat_no_fault : {o : List ℕ} {p : ℕ} {e : NameFault} → IsAbsoluteWire o → p ≡ 0 → NameFaultAt 0 o p e → ⊥
flat_no_fault {o} {e = e} w z f = names_or_fault (flat_named o w) (subst (λ p. NameFaultAt 0 o p e) z f)

pub record FlatRead (o : List ℕ) (w : Progress) (table : List ℕ) : Type 0 where
  pub holds : HoldsName o w table
  pub same : labels_at_entries o w.base (slice_range table 0 w.count) ≡ labels_in o
  pub piece : w.compressed ≡ false

pub flat_read : (o : List ℕ) {p : ℕ} {w : Progress} {t : List ℕ} {before now : ℕ} → IsAbsoluteWire o → p ≡ 0 → NameRead 0 o p w t before now → FlatRead o w t
flat_read o {w = w} {t} {before} {now} a z read =
    let r = subst (λ p. NameRead 0 o p w t before now) z read in
    let h : HeldAs o w t r.labels = subst (λ m. HeldAs m w t r.labels) (append-nil o) (held_more [] r) in
    record {
      holds = h.holds;
      same = h.same ∙ (reads_once r.name.reads (flat_named o a).reads).1;
      piece = (piece_tells r).1 (flat_piece o a);
    }
