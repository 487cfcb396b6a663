-- Texts that are read where they lie.
use Rattle.std.specs.Prelude.{◌≢◌, ℕ, ◌<◌, ◌≤◌, List, length}
use Rattle.std.specs.List.{AllByRecursion}
use Rattle.domain_label.specs.Spelling.{IsPrintable}

-- A character from space to tilde that is no backslash: one octet, and a symbol of its own.
abbrev pub IsPlain : ℕ → Type 0
IsPlain c = IsPrintable c × (c ≢ 92)

-- From 2 to 253 of them. So the text isn't a dot alone, and fits into a name after its first length octet.
pub record IsPlainText (cs : List ℕ) : Type 0 where
  pub some : 1 < length cs
  pub short : length cs ≤ 253
  pub plain : AllByRecursion IsPlain cs
