-- What is written of a name that is followed, label by label and pointer by pointer.
use Rattle.std.specs.Prelude.{◌≡◌, ℕ, ◌+◌, List, [], ◌∷◌, ◌++◌, length, slice_index}
use Rattle.domain_reading.specs.Grammar.{OctetAt}
use Rattle.domain_reading.specs.Faults.{Followed, start, past_label, past_pointer, StepFaultAt}
use Rattle.domain_reading.specs.declared.fault.NameFault.{NameFault}
use Rattle.domain_reading.specs.declared.fault.NameFault.TheVariants.{ShortInput, BadLabelType, TooManyPointers, LongName}
use Rattle.domain_reading.specs.Limits.{max_pointers}
use Rattle.dnswalk.specs.Lines.{root_line, label_line, pointer_line, cut_line, bad_type_line, long_line, refused_line}

-- One line for each label and each pointer that was read, in this order.
unfoldable pub walk_lines : {n : ℕ} {m : List ℕ} {p k r : ℕ} {fs : List (List ℕ)} → Followed n m p k fs r → List ℕ
walk_lines start = []
walk_lines (past_label {r = r} {l = l} w x short) = walk_lines w ++ (label_line r l ++ 10 ∷ [])
walk_lines (past_pointer {r = r} {q = q} w x back few) = walk_lines w ++ (pointer_line r q ++ 10 ∷ [])

-- The line of an offset r at which neither a label nor a pointer can be read.
abbrev pub broken_line : List ℕ → ℕ → NameFault → List ℕ
broken_line m r ShortInput = cut_line r
broken_line m r BadLabelType = bad_type_line r (slice_index m r)
broken_line m r TooManyPointers = cut_line r
broken_line m r LongName = cut_line r

-- The line of the label or pointer at r that can't be read.
abbrev pub fault_line : (n : ℕ) (m : List ℕ) (k : ℕ) (fs : List (List ℕ)) (r : ℕ) (fault : NameFault) → StepFaultAt n m k fs r fault → List ℕ
fault_line n m k fs r ShortInput x = cut_line r
fault_line n m k fs r BadLabelType x = bad_type_line r (slice_index m r)
fault_line n m k fs r TooManyPointers x = refused_line r x.0
fault_line n m k fs r LongName x = long_line r x.0

-- The name at p was followed to its root or to an error: the lines that say so, and how many labels and pointers were
-- read, the last of them among them.
pub data FollowedThrough (m : List ℕ) (p : ℕ) (lines : List ℕ) (count : ℕ) : Type 0 where
  to_root : {k r : ℕ} {fs : List (List ℕ)} (w : Followed max_pointers m p k fs r) → OctetAt m r 0 → lines ≡ walk_lines w ++ (root_line r ++ 10 ∷ []) → count ≡ length fs + k + 1 → FollowedThrough m p lines count
  to_fault : {k r : ℕ} {fs : List (List ℕ)} (fault : NameFault) (w : Followed max_pointers m p k fs r) (x : StepFaultAt max_pointers m k fs r fault) → lines ≡ walk_lines w ++ (fault_line max_pointers m k fs r fault x ++ 10 ∷ []) → count ≡ length fs + k + 1 → FollowedThrough m p lines count
