-- What contracts see of a composer that compresses. Its type names what the traits of its target tell: `j` is what
-- `Octets` tells.
use Rattle.std.specs.Prelude.{◌≡◌, ℕ, List}
use Rattle.domain_label.specs.Wire.{labels_in}
use Rattle.domain_compress.specs.declared.compress.CompressComposer.{CompressComposer}
use Rattle.domain_compress.specs.Compressing.{RememberedLabel, AddsCompressed}
use Rattle.domain_compress.specs.MayWrite.{NameAppended, NameExceeds}
use Rattle.domain_compress.specs.Written.{all_remembered}

-- the target
abbrev pub target_of : {T E : Type 0} {g : _} {h : _} {i : _} {j : _} {k : _} {l : _} → CompressComposer T E g h i j k l → T
target_of c = c.target

-- the offsets that it remembers
abbrev pub remembered_labels : {T E : Type 0} {g : _} {h : _} {i : _} {j : _} {k : _} {l : _} → CompressComposer T E g h i j k l → List RememberedLabel
remembered_labels c = all_remembered c.written.items

-- the octets of its target
abbrev pub octets_of : {T E : Type 0} {g : _} {h : _} {i : _} {j : _} {k : _} {l : _} → CompressComposer T E g h i j k l → List ℕ
octets_of {j = j} c = j.octets c.target

-- how many octets its target has room for in all, without new memory
abbrev pub room_of : {T E : Type 0} {g : _} {h : _} {i : _} {j : _} {k : _} {l : _} → CompressComposer T E g h i j k l → ℕ
room_of {j = j} c = j.capacity c.target

-- It remembers what it did before.
abbrev pub RemembersSame : {T E : Type 0} {g : _} {h : _} {i : _} {j : _} {k : _} {l : _}
    → CompressComposer T E g h i j k l → CompressComposer T E g h i j k l → Type 0
RemembersSame old new = remembered_labels new ≡ remembered_labels old

-- The name of this wire format was written, and the offsets of its labels are remembered.
abbrev pub WritesCompressed : {T E : Type 0} {g : _} {h : _} {i : _} {j : _} {k : _} {l : _}
    → List ℕ → CompressComposer T E g h i j k l → CompressComposer T E g h i j k l → Type 0
WritesCompressed name old new =
    AddsCompressed (octets_of old) (remembered_labels old) (labels_in name) (octets_of new) (remembered_labels new)

-- Octets that may be written for it were appended.
abbrev pub AppendsForName : {T E : Type 0} {g : _} {h : _} {i : _} {j : _} {k : _} {l : _}
    → List ℕ → CompressComposer T E g h i j k l → CompressComposer T E g h i j k l → Type 0
AppendsForName name old new = NameAppended (octets_of old) (remembered_labels old) (labels_in name) (octets_of new)

-- Such octets exceed the spare capacity of the target.
abbrev pub ExceedsRoom : {T E : Type 0} {g : _} {h : _} {i : _} {j : _} {k : _} {l : _}
    → List ℕ → CompressComposer T E g h i j k l → Type 0
ExceedsRoom name c = NameExceeds (octets_of c) (remembered_labels c) (labels_in name) (room_of c)
