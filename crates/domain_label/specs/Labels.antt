-- How contracts describe a label.
use Rattle.std.specs.Prelude.{ℕ, List, [], take, drop, slice_index, nat_lt, if◌then◌else◌}
use Rattle.domain_label.specs.Lowercase.{lowercase}
use Rattle.domain_label.specs.Wire.{wire_label}
use Rattle.domain_label.specs.declared.label.Label.{Label}
use Rattle.domain_label.specs.SliceWalk.{slice_walk}
use Rattle.domain_label.specs.declared.slice_labels.SliceLabelsIter.{SliceLabelsIter}
use Rattle.domain_label.specs.declared.label_mut.LabelMut.{LabelMut}
use Rattle.domain_label.specs.declared.owned.OwnedLabel.{OwnedLabel}

-- the octets of a label
abbrev pub label_octets : Label → List ℕ
label_octets l = l.octets.now

-- its wire format (RFC 1035, 3.1)
abbrev pub wire_of : Label → List ℕ
wire_of l = wire_label (label_octets l)

-- that with A to Z as a to z (RFC 4034, 6.2)
abbrev pub canonical_wire : Label → List ℕ
canonical_wire l = wire_label (lowercase (label_octets l))

-- the octets of a label that can be written in place
abbrev pub label_mut_octets : LabelMut → List ℕ
label_mut_octets l = l.octets.now

-- the octets of a label that owns them: as many as the length octet tells, after it; no label has a length octet over
-- 63
abbrev pub owned_octets : OwnedLabel → List ℕ
owned_octets l =
    let len = slice_index l.wire 0 in if nat_lt 63 len then [] else take len (drop 1 l.wire)

-- its wire format
abbrev pub owned_wire : OwnedLabel → List ℕ
owned_wire l = wire_label (owned_octets l)

-- the labels that an iterator over a slice still gives
abbrev pub walk_left : SliceLabelsIter → List (List ℕ)
walk_left it = slice_walk it.slice.now it.offset it.heads
