-- What a label that can be written is after its octets were borrowed.
use Rattle.std.specs.Prelude.{ℕ, List, [], take}
use Rattle.std.specs.Borrow.{Fml, MutBor, Array, u8, Lends}
use native.Mathlib.Omega.{arith}
use lib.ListN.{length-take}
use mir.Syntax.{named}
use Rattle.domain_label.specs.declared.label_mut.LabelMut.{LabelMut}
use Rattle.domain_label.specs.contracts.label_mut.LabelMut.{the_row}

-- the label with the octets ws; a slice keeps its length, so ws are at most 63, and all of them
abbrev pub rewritten : LabelMut → List ℕ → LabelMut
rewritten l ws = record {
  octets = record l.octets { now = take 63 ws };
  short = let e = length-take 63 ws in omega (arith, e);
}

-- once the borrow r ends, the label's octets are those that r shows last
abbrev pub LendsSlice : MutBor LabelMut → MutBor (List ℕ) → Fml
LendsSlice s r = Lends (the_row (record { mir = named 1; lft = [] })) (Array u8 0) s r (rewritten s.now)
