-- The results of reading a name and of skipping one.
use Rattle.std.specs.Prelude.{◌≡◌, ℕ, ◌+◌, ◌≤◌, ◌<◌, List, ◌++◌, length, true, false}
use Rattle.domain_wire.specs.Refusals.{Refusal, refusal}
use Rattle.domain_wire.specs.declared.error.ParseError.{ParseError}
use Rattle.domain_label.specs.Wire.{wire, IsAbsoluteName}
use Rattle.octseq.specs.declared.parse.Parser.{Parser}
use Rattle.octseq.specs.Parsing.{message, position, MovesTo}
use Rattle.domain_reading.specs.Limits.{max_labels}
use Rattle.domain_reading.specs.Grammar.{Names, FirstLabelAt, Encoding, root, pointer, EncodingEnds}
use Rattle.domain_reading.specs.Faults.{error_of, NameFaultAt, Skips, SkipFault}
use Rattle.domain_reading.specs.Offsets.{TableHasLabels, AreContiguous}
use Rattle.domain_reading.specs.Progress.{end_offset, labels_found}
use Rattle.domain_reading.specs.declared.fault.NameFault.{NameFault}
use Rattle.domain_reading.specs.declared.progress.Progress.{Progress}

-- The parser was moved to the end of the encoding of the name at its position.
abbrev pub MovesPastName : Parser → Parser → Type 0
MovesPastName old new = (e : ℕ) × EncodingEnds (message old) (position old) e × MovesTo old new e

-- No name of at most n pointers is at p in m, and r is the error for it.
abbrev pub HasNoName : ℕ → List ℕ → ℕ → Refusal → Type 0
HasNoName n m p r = (f : NameFault) × (r ≡ error_of f) × NameFaultAt n m p f

-- No name of at most n pointers is at the parser's position, and the error says why.
abbrev pub IsErrorOfName : ℕ → Parser → ParseError → Type 0
IsErrorOfName n parser e = HasNoName n (message parser) (position parser) (refusal e)

-- The parser was moved to the end of an encoding of at most 255 octets.
abbrev pub SkipsName : Parser → Parser → Type 0
SkipsName old new = (e : ℕ) × Skips (message old) (position old) e × MovesTo old new e

-- No such encoding is at the parser's position, and the error says why.
abbrev pub IsErrorOfSkip : Parser → ParseError → Type 0
IsErrorOfSkip parser e = (f : NameFault) × (refusal e ≡ error_of f) × SkipFault (message parser) (position parser) f

-- The octets of ls, an absolute name, are at the parser's position with no pointer among them.
pub record StandsUncompressed (parser : Parser) (ls : List (List ℕ)) : Type 0 where
  pub name : IsAbsoluteName ls
  pub before : List ℕ
  pub after : List ℕ
  pub octets : message parser ≡ before ++ wire ls ++ after
  pub here : position parser ≡ length before

-- The count grew by one for each label of ls, the name at p of at most n pointers, and for each of its pointers.
abbrev pub CountsName : ℕ → List ℕ → ℕ → List (List ℕ) → ℕ → ℕ → Type 0
CountsName n m p ls before now = (name : Names n m p ls) × (now ≡ before + length ls + name.pointers)

-- No name of at most n pointers is at p, and why. The count grew by one for each label and each pointer that was read.
-- It also grew by one for the label or pointer that can't be read, which may be missing.
abbrev pub FaultCounted : ℕ → List ℕ → ℕ → ℕ → ℕ → NameFault → Type 0
FaultCounted n m p before now fault = (f : NameFaultAt n m p fault) × (now ≡ before + length f.passed + f.pointers + 1)

-- The same, and r is the error for it.
abbrev pub CountsFault : ℕ → List ℕ → ℕ → Refusal → ℕ → ℕ → Type 0
CountsFault n m p r before now = (f : NameFault) × (r ≡ error_of f) × FaultCounted n m p before now f

-- No name of at most n pointers is at p, and why; at most 128 labels and pointers more than n were read.
abbrev pub FaultWithin : ℕ → List ℕ → ℕ → NameFault → Type 0
FaultWithin n m p fault = (f : NameFaultAt n m p fault) × (length f.passed + f.pointers + 1 ≤ max_labels + n)

-- The name at p was read, through at most n pointers, and one counted for each label and each pointer. The table has
-- the offsets of its labels.
pub record NameRead (n : ℕ) (m : List ℕ) (p : ℕ) (w : Progress) (table : List ℕ) (before now : ℕ) : Type 0 where
  pub labels : List (List ℕ)
  pub name : Names n m p labels
  pub counted : now ≡ before + length labels + name.pointers
  pub ends : EncodingEnds m p (end_offset w)
  pub base : FirstLabelAt m p w.base
  pub placed : labels_found m w table ≡ labels
  pub stand : TableHasLabels m w.base table 0 w.count
  pub some : 0 < w.count
  pub few : w.count ≤ max_labels
  pub sized : w.len + 1 ≡ length (wire labels)
  pub contiguous : w.compressed ≡ false → (fs : List (List ℕ)) × (e : ℕ) × Encoding m w.base fs root e
  pub is_compressed : w.compressed ≡ true → (fs : List (List ℕ)) × (q : ℕ) × (e : ℕ) × Encoding m w.base fs (pointer q) e
  pub inside : w.compressed ≡ false → w.base + (w.len + 1) ≤ length m
  pub octets : w.compressed ≡ false → AreContiguous m w.base (w.len + 1) labels

-- The same, and at most 128 labels and pointers more than n were read.
abbrev pub NameReadWithin : ℕ → List ℕ → ℕ → Progress → List ℕ → Type 0
NameReadWithin n m p w table = (heads : ℕ) × NameRead n m p w table 0 heads × (heads ≤ max_labels + n)

-- The labels whose offsets the table has are in the octets o, of which the message may be the beginning, and are a
-- name.
pub record HoldsName (o : List ℕ) (w : Progress) (table : List ℕ) : Type 0 where
  pub some : 0 < w.count
  pub few : w.count ≤ max_labels
  pub stand : TableHasLabels o w.base table 0 w.count
  pub absolute : IsAbsoluteName (labels_found o w table)
  pub sized : w.len + 1 ≡ length (wire (labels_found o w table))
  pub flat : w.compressed ≡ false → AreContiguous o w.base (w.len + 1) (labels_found o w table)
