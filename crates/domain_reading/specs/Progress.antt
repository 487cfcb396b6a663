-- The steps of reading a name.
use Rattle.std.specs.Prelude.{◌≡◌, ℕ, ◌+◌, ◌≤◌, ◌<◌, ◌⊎◌, ◌==◌, if◌then◌else◌, List, Some, None, unwrap_or, true, false, set, Result, MatchResult}
use Rattle.domain_reading.specs.Limits.{max_before_root}
use Rattle.domain_reading.specs.Offsets.{table_labels}
use Rattle.domain_reading.specs.declared.fault.NameFault.{NameFault}
use Rattle.domain_reading.specs.declared.fault.NameFault.TheVariants as fault
use Rattle.domain_reading.specs.declared.progress.Progress.{Progress}

-- At the first label or pointer of a name at p, where the table has no entry yet.
abbrev pub beginning : ℕ → Progress
beginning p = record { at = p; base = p; len = 0; pointers = 0; compressed = false; end = None; count = 0 }

-- The entry for the next label: how many octets it is after the base while no pointer came after the first label,
-- else 32768 more than its offset in the message.
abbrev pub entry_of : Progress → ℕ
entry_of w = if w.compressed then w.at + 32768 else w.len

-- The table after the entry for the next label was added.
abbrev pub table_noted : Progress → List ℕ → List ℕ
table_noted w table = set table w.count (entry_of w)

-- The entry for the next label was added to the table.
abbrev pub noted : Progress → Progress
noted w = record w { count = w.count + 1 }

-- A label of n octets was read.
abbrev pub label_passed : Progress → ℕ → Progress
label_passed w n = record w { at = w.at + 1 + n; len = w.len + 1 + n; count = w.count + 1 }

-- A label of n octets was read, and its entry added to the table; or, with an error, nothing changed.
abbrev pub PassesLabel : ℕ → Progress → List ℕ → Result (Unit {0}) NameFault → Progress → List ℕ → Type 0
PassesLabel n old before r new now =
    MatchResult r (λ _. (new ≡ label_passed old n) × (now ≡ table_noted old before))
    (λ _. (new ≡ old) × (now ≡ before))

-- With one of n octets more, the labels and the root have at most 255 octets.
abbrev pub HasRoom : Progress → ℕ → Type 0
HasRoom w n = w.len + 1 + n ≤ max_before_root

-- They have more.
abbrev pub ExceedsName : Progress → ℕ → Type 0
ExceedsName w n = max_before_root < w.len + 1 + n

-- The result tells which: `LongName` that they have more.
abbrev pub TellsRoom : ℕ → Progress → Result (Unit {0}) NameFault → Type 0
TellsRoom n w r = MatchResult r (λ _. HasRoom w n) (λ e. (e ≡ fault.LongName) × ExceedsName w n)

-- A pointer to q leads to an offset before its own, and is one of at most n.
abbrev pub MayFollow : ℕ → Progress → ℕ → Type 0
MayFollow n w q = (q < w.at) × (w.pointers < n)

-- It doesn't lead there, or n were followed.
abbrev pub MayNotFollow : ℕ → Progress → ℕ → Type 0
MayNotFollow n w q = (w.at ≤ q) ⊎ (w.pointers ≡ n)

-- The result tells which: `TooManyPointers` that it isn't to be followed.
abbrev pub TellsPointer : ℕ → ℕ → Progress → Result (Unit {0}) NameFault → Type 0
TellsPointer n q w r = MatchResult r (λ _. MayFollow n w q) (λ e. (e ≡ fault.TooManyPointers) × MayNotFollow n w q)

-- A pointer to q was followed.
abbrev pub pointer_followed : Progress → ℕ → Progress
pointer_followed w q = record {
  at = q;
  base = if w.len == 0 then q else w.base;
  len = w.len;
  pointers = w.pointers + 1;
  compressed = if w.len == 0 then w.compressed else true;
  end = Some (unwrap_or w.end (w.at + 2));
  count = w.count;
}

-- A pointer to q was followed; or, with an error, nothing changed.
abbrev pub FollowsPointer : ℕ → Progress → Result (Unit {0}) NameFault → Progress → Type 0
FollowsPointer q old r new = MatchResult r (λ _. new ≡ pointer_followed old q) (λ _. new ≡ old)

-- The offset after the encoding of the name that was read up to its root: after its first pointer, or after the root.
abbrev pub end_offset : Progress → ℕ
end_offset w = unwrap_or w.end (w.at + 1)

-- the labels of the name that was read, at the offsets that the table has for them
abbrev pub labels_found : List ℕ → Progress → List ℕ → List (List ℕ)
labels_found m w table = table_labels m w.base table 0 w.count
