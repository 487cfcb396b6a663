-- What octets are after the label that they begin with was borrowed as a `LabelMut`, and the octets after it.
use Rattle.std.specs.Prelude.{◌≡◌, ℕ, List, take, Result, Ok, Err}
use Rattle.std.specs.Borrow.{Fml, GName, MutBor, Array, u8, follows_both, follows_both_if}
use mathlib.Core.Option as maybe
use Rattle.domain_label.specs.LendingParts.{after_head, FirstOf}
use Rattle.domain_label.specs.declared.label_mut.LabelMut.{LabelMut}
use Rattle.domain_label.specs.declared.split_error.SplitLabelError.{SplitLabelError}

-- once both end, the octets are their first one, the label's octets and then those after it
abbrev pub LendsLabelAndRest : MutBor (List ℕ) → LabelMut × MutBor (List ℕ) → Fml
LendsLabelAndRest s r =
    follows_both (Array u8 0) (Array u8 0) (Array u8 0)
    s.ghost_name r.0.octets.ghost_name r.1.ghost_name (after_head (take 1 s.now))

-- the names of the label's octets and of those after it
abbrev pub part_names : Result (LabelMut × MutBor (List ℕ)) SplitLabelError → maybe.Option (GName × GName)
part_names (Ok parts) = maybe.some (parts.0.octets.ghost_name, parts.1.ghost_name)
part_names (Err e) = maybe.none

-- once both end, the octets are their first one, the label's octets and then those after it; where there is no label,
-- they stay as they are
abbrev pub LendsIfLabel : MutBor (List ℕ) → Result (LabelMut × MutBor (List ℕ)) SplitLabelError → Fml
LendsIfLabel s r =
    follows_both_if (Array u8 0) (Array u8 0) (Array u8 0)
    s.ghost_name (part_names r) (after_head (take 1 s.now)) s.now

-- the same reference, still to the same octets, and how many octets their first label has, or why there is none
abbrev pub IsFound : MutBor (List ℕ) → MutBor (List ℕ) × Result ℕ SplitLabelError → Type 0
IsFound s r = (r.0.ghost_name ≡ s.ghost_name) × (r.0.now ≡ s.now) × FirstOf s.now r.1
