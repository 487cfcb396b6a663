-- The line of what is at an offset of a message.
use Rattle.std.specs.Prelude.{ℕ, List, ◌++◌, length, codes, cond, ◌==◌, nat_lt}
use Rattle.std.specs.Fmt.{decimal}
use Rattle.domain_label.specs.Text.{escaped}
use Rattle.domain_label.specs.Labels.{label_octets}
use Rattle.dnswalk.specs.declared.step.Step.{Step}
use Rattle.dnswalk.specs.declared.step.Step.TheVariants.{Root, Label, Pointer, CutShort, BadType, LongName, NotBackwards, OneTooMany}

-- The number of octets, with its noun.
abbrev pub octets_text : ℕ → List ℕ
octets_text n = cond (n == 1) (codes "1 octet") (decimal n ++ codes " octets")

-- The root label is at r.
abbrev pub root_line : ℕ → List ℕ
root_line r = decimal r ++ codes ": root label"

-- A label: its size and its text.
abbrev pub label_text : List ℕ → List ℕ
label_text l = codes "label of " ++ (octets_text (length l) ++ (codes " \"" ++ (escaped l ++ codes "\"")))

-- The label l is at r.
abbrev pub label_line : ℕ → List ℕ → List ℕ
label_line r l = decimal r ++ (codes ": " ++ label_text l)

-- A pointer to q is at r.
abbrev pub pointer_line : ℕ → ℕ → List ℕ
pointer_line r q = decimal r ++ (codes ": pointer to " ++ decimal q)

-- The message ends in what is at r.
abbrev pub cut_line : ℕ → List ℕ
cut_line r = decimal r ++ codes ": the message ends before a whole label or pointer: refused, RFC 1035 4.1.4"

-- The octet o at r begins neither a label nor a pointer.
abbrev pub bad_type_line : ℕ → ℕ → List ℕ
bad_type_line r o = decimal r ++ (codes ": octet " ++ (decimal o ++ codes " begins neither a label nor a pointer: refused, RFC 1035 4.1.4"))

-- With the label l at r the name has more than 255 octets.
abbrev pub long_line : ℕ → List ℕ → List ℕ
long_line r l = decimal r ++ (codes ": " ++ (label_text l ++ codes ", too long for a name of 255: refused, RFC 1035 3.1"))

-- The pointer to q at r doesn't point backwards.
abbrev pub not_backwards_line : ℕ → ℕ → List ℕ
not_backwards_line r q = decimal r ++ (codes ": pointer to " ++ (decimal q ++ codes ", which isn't before it: refused, RFC 1035 4.1.4"))

-- 255 pointers were followed before the one to q at r.
abbrev pub one_too_many_line : ℕ → ℕ → List ℕ
one_too_many_line r q = decimal r ++ (codes ": pointer to " ++ (decimal q ++ codes ", after 255 pointers: refused"))

-- The pointer to q at r isn't followed, and why.
abbrev pub refused_line : ℕ → ℕ → List ℕ
refused_line r q = cond (nat_lt q r) (one_too_many_line r q) (not_backwards_line r q)

-- the line of what is at an offset: a label, a pointer, or why neither can be read
abbrev pub step_line : Step → List ℕ
step_line (Root r) = root_line r
step_line (Label r l) = label_line r (label_octets l)
step_line (Pointer r q) = pointer_line r q
step_line (CutShort r) = cut_line r
step_line (BadType r o) = bad_type_line r o
step_line (LongName r l) = long_line r (label_octets l)
step_line (NotBackwards r q) = not_backwards_line r q
step_line (OneTooMany r q) = one_too_many_line r q

-- How many labels and pointers were read.
abbrev pub count_text : ℕ → List ℕ
count_text n = codes " (labels and pointers read: " ++ (decimal n ++ codes ")")
