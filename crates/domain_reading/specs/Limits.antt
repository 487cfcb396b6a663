-- The limits of a name, and of what is read for one.
use Rattle.std.specs.Prelude.{ℕ}

-- The most octets of a name, with its length octets and the root's (RFC 1035, 2.3.4).
abbrev pub max_name : ℕ
max_name = 255

-- The most octets that its labels have before the root.
abbrev pub max_before_root : ℕ
max_before_root = 254

-- The most labels of a name, the root among them.
abbrev pub max_labels : ℕ
max_labels = 128

-- The most pointers that are followed for a name.
abbrev pub max_pointers : ℕ
max_pointers = 255

-- The most labels and pointers that are read for a name: 128 and 255.
abbrev pub max_heads : ℕ
max_heads = 383
