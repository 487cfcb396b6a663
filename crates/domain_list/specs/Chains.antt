-- Two lists of labels, one after the other.
use Rattle.std.specs.Prelude.{ℕ, ◌≤◌, List, ◌++◌, length}
use Rattle.domain_label.specs.Wire.{wire, IsRelative}
use Rattle.domain_list.specs.Count.{but_root}

-- How many octets come on the wire before a root label.
abbrev pub before_root : List (List ℕ) → ℕ
before_root ls = length (wire (but_root ls))

-- A relative list and a list after it, which make one that fits: 254 octets and a root.
abbrev pub IsChain : List (List ℕ) → List (List ℕ) → Type 0
IsChain ls rs = IsRelative ls × (before_root (ls ++ rs) ≤ 254)
