-- What names write to a hasher.
use Rattle.std.specs.Prelude.{ℕ, List}
use Rattle.std.specs.Hash as fed
use Rattle.std.specs.List.{flat_map}
use Rattle.domain_label.specs.Lowercase.{label_hash_input}

-- For each label its length and then its octets in lower case, each as one `u8`.
abbrev pub name_hash_input : List (List ℕ) → fed.HashWrites
name_hash_input = flat_map label_hash_input
