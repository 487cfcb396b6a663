-- Flags that are shown where they are set.
use Rattle.std.specs.Prelude.{ℕ, cond, nat_eq, List, []}

-- the word, where the flag is set
abbrev pub flag_text : ℕ → List ℕ → List ℕ
flag_text set word = cond (nat_eq set 1) word []
