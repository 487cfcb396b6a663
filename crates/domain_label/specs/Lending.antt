-- What a label that owns its octets is after these were borrowed to be written.
use Rattle.std.specs.Prelude.{ℕ, List, ◌++◌, length, take, drop}
use Rattle.std.specs.Borrow.{Fml, MutBor, Array, u8, Lends, follows}
use Rattle.domain_label.specs.declared.label_mut.LabelMut.{LabelMut}
use Rattle.domain_label.specs.declared.owned.OwnedLabel.{OwnedLabel}
use Rattle.domain_label.specs.contracts.owned.OwnedLabel.{the_row}

-- the label with the octets ws instead of as many after its length octet
abbrev pub with_octets : OwnedLabel → List ℕ → OwnedLabel
with_octets l ws = record { wire = take 1 l.wire ++ (ws ++ drop (length ws) (drop 1 l.wire)) }

-- once the borrow r ends, the label's octets are those that r shows last
abbrev pub LendsOctets : MutBor OwnedLabel → MutBor (List ℕ) → Fml
LendsOctets s r = Lends the_row (Array u8 0) s r (with_octets s.now)

-- the same where r is a label
abbrev pub LendsLabel : MutBor OwnedLabel → LabelMut → Fml
LendsLabel s r = follows the_row (Array u8 0) s.ghost_name r.octets.ghost_name (with_octets s.now)
