-- What a composer that compresses may write.
use Rattle.std.specs.Prelude.{ℕ, List}
use Rattle.domain_rdata.specs.ReadBack.{Appended, Exceeds}
use Rattle.domain_compress.specs.Compressing.{RememberedLabel, Compresses, AddsCompressed}

-- The octets that may be written after t for the name ls.
abbrev pub MayWrite : List ℕ → List RememberedLabel → List (List ℕ) → List ℕ → Type 0
MayWrite t ws ls s = (labels : List (List ℕ)) × Compresses t ws ls labels s

-- Such octets were appended to t.
abbrev pub NameAppended : List ℕ → List RememberedLabel → List (List ℕ) → List ℕ → Type 0
NameAppended t ws ls t' = Appended (MayWrite t ws ls) t t'

-- Such octets exceed the spare capacity.
abbrev pub NameExceeds : List ℕ → List RememberedLabel → List (List ℕ) → ℕ → Type 0
NameExceeds t ws ls capacity = Exceeds (MayWrite t ws ls) t capacity

-- So they are appended where a name was written.
pub adds_appended : (t : List ℕ) (ws ws' : List RememberedLabel) (ls : List (List ℕ)) (t' : List ℕ) → AddsCompressed t ws ls t' ws' → NameAppended t ws ls t'
adds_appended t ws ws' ls t' x = record { octets = x.octets; allowed = (x.labels, x.compresses); all = x.all }
