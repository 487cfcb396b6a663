-- What a composer remembers, and what a search among it finds.
use Rattle.std.specs.Prelude.{◌≡◌, ℕ, ◌+◌, ◌<◌, ◌≤◌, List, [], ◌∷◌, ◌++◌, length, take, map, Option, None, Some}
use Rattle.domain_label.specs.Lowercase.{lowercase_labels}
use Rattle.domain_label.specs.Wire.{wire, labels_in}
use Rattle.domain_reading.specs.Limits.{max_pointers}
use Rattle.domain_reading.specs.Grammar.{Reads}
use Rattle.domain_rdata.specs.ReadBack.{StandsAt}
use Rattle.domain_compress.specs.declared.written.Written.{Written}
use Rattle.domain_compress.specs.declared.written.WrittenSuffix.{WrittenSuffix}
use Rattle.domain_compress.specs.declared.written.FoundName.{FoundName}
use Rattle.domain_compress.specs.Compressing.{RememberedLabel, NoneRemembered, NoSuffix, FirstRemembered, LongestSuffix, remembered_too}

-- the offset at which a label was written, and the end of its name
abbrev pub remembered : Written → RememberedLabel
remembered w = record { at = w.offset; end = w.end }

-- the same of each entry of the table
abbrev pub all_remembered : List Written → List RememberedLabel
all_remembered = map remembered

-- The labels were written from start on, for a name that ends at end, and the entries have their offsets, too.
abbrev pub RemembersToo : List ℕ → ℕ → ℕ → List Written → List Written → Type 0
RemembersToo labels start end old new =
    all_remembered new ≡ remembered_too (all_remembered old) start end (labels_in labels)

-- The name that is read at the offset p of t equals ls without case, and k pointers lead along it.
pub record StandsThrough (t : List ℕ) (p : ℕ) (ls : List (List ℕ)) (k : ℕ) : Type 0 where
  pub labels : List (List ℕ)
  pub reads : Reads t p k labels
  pub same : lowercase_labels labels ≡ lowercase_labels ls
  pub few : k ≤ max_pointers

-- Each name that stands at p has n octets uncompressed.
abbrev pub HasWireLength : List ℕ → ℕ → ℕ → Type 0
HasWireLength t p n = (ls : List (List ℕ)) → StandsAt t p ls → length (wire ls) ≡ n

-- The suffix of the name that begins at the offset at of its wire format, before upto, stands at p.
pub record SuffixAt (t : List ℕ) (p : ℕ) (name : List ℕ) (upto at k : ℕ) : Type 0 where
  pub before : List (List ℕ)
  pub after : List (List ℕ)
  pub parts : labels_in name ≡ before ++ after
  pub more : 1 < length after
  pub through : StandsThrough t p after k
  pub octets : take at name ≡ wire before
  pub inside : at + 2 ≤ length name
  pub earlier : at < upto

-- No suffix of the name but the root that begins before upto stands at p.
abbrev pub NoSuffixAt : List ℕ → ℕ → List ℕ → ℕ → Type 0
NoSuffixAt t p name upto = (xs ys : List (List ℕ)) → labels_in name ≡ xs ++ ys → 1 < length ys → length (wire xs) < upto → StandsAt t p ys → ⊥

-- The offset p is the first at which such a name stands, and k pointers lead along it there.
pub record FirstFound (t : List ℕ) (ws : List Written) (ls : List (List ℕ)) (p k : ℕ) : Type 0 where
  pub first : FirstRemembered t (all_remembered ws) ls p
  pub through : StandsThrough t p ls k
  pub low : p < 16384

-- Such a name stands first there, or at none of the offsets.
abbrev pub FindsFirst : List ℕ → List Written → List (List ℕ) → Option FoundName → Type 0
FindsFirst t ws ls None = NoneRemembered t (all_remembered ws) ls
FindsFirst t ws ls (Some found) = FirstFound t ws ls found.offset found.pointers

-- The labels of the wire format up to where the suffix begins are before, and those after are the longest suffix that
-- stands anywhere, at its offset first.
pub record SuffixFound (t : List ℕ) (ws : List RememberedLabel) (name : List ℕ) (end : WrittenSuffix) : Type 0 where
  pub before : List (List ℕ)
  pub after : List (List ℕ)
  pub longest : LongestSuffix t ws (labels_in name) before after end.offset
  pub through : StandsThrough t end.offset after end.pointers
  pub octets : take end.begin name ≡ wire before
  pub low : end.offset < 16384
  pub inside : end.begin + 2 ≤ length name

-- The longest suffix of the name that stands at one of the offsets, if any does.
abbrev pub Longest : List ℕ → List RememberedLabel → List ℕ → Option WrittenSuffix → Type 0
Longest t ws name None = NoSuffix t ws (labels_in name)
Longest t ws name (Some end) = SuffixFound t ws name end

-- The same by the entries: no suffix but the root stands at any of their offsets;
abbrev pub NoSuffixWritten : List ℕ → List Written → List ℕ → Type 0
NoSuffixWritten t ws name = NoSuffix t (all_remembered ws) (labels_in name)

-- or the one that was found is the longest that stands at any, and stands there first;
abbrev pub SuffixWritten : List ℕ → List Written → List ℕ → WrittenSuffix → Type 0
SuffixWritten t ws name found = SuffixFound t (all_remembered ws) name found

-- or that is the whole name, spelled out.
abbrev pub NameSpelledOut : List ℕ → List Written → List ℕ → WrittenSuffix → Type 0
NameSpelledOut t ws name found = SuffixWritten t ws name found × ((found.begin ≡ 0) × (found.pointers ≡ 0))

-- Where that begins in the wire format of the name; else the length of this.
abbrev pub begin_or_length : Option WrittenSuffix → List ℕ → ℕ
begin_or_length None name = length name
begin_or_length (Some end) name = end.begin

-- With one offset more, the longest suffix becomes another.
abbrev pub Improves : List ℕ → Written → List ℕ → Option WrittenSuffix → Option WrittenSuffix → Type 0
Improves t w name old new = (ws : List RememberedLabel) → Longest t ws name old → Longest t (ws ++ remembered w ∷ []) name new
