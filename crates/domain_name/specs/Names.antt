-- How contracts describe uncompressed names.
use Rattle.std.specs.Prelude.{◌≡◌, ◌++◌, ◌∷◌, ℕ, List, [], Option, Result, IfOk}
use Rattle.octseq.specs.Capacity.{MayExceedCapacity}
use Rattle.octseq.specs.declared.octets.Octets.{Ghosts}
use Rattle.octseq.specs.declared.parse.Parser.{Parser}
use Rattle.octseq.specs.Parsing.{message, position}
use Rattle.domain_label.specs.Labels.{label_octets}
use Rattle.domain_label.specs.Lowercase.{lowercase_labels}
use Rattle.domain_label.specs.Wire.{wire, labels_in, IsAbsoluteName, IsRelativeName}
use Rattle.domain_label.specs.declared.label.Label.{Label}
use Rattle.domain_list.specs.ChainParts.{left_part, right_part}
use Rattle.domain_list.specs.declared.chain.Chain.{Chain}
use Rattle.domain_list.specs.declared.labels.NameLabels.{Ghosts as Labels}
use Rattle.domain_flat.specs.Flat.{NameAt, wire_len}
use Rattle.domain_name.specs.declared.absolute.Name.{Name}
use Rattle.domain_name.specs.declared.relative.RelativeName.{RelativeName}

-- the octets of an absolute name, and its labels, the root among them
abbrev pub name_octets : {O : Type 0} {g : Ghosts O} → Name O g → List ℕ
name_octets {g = g} n = g.octets n.octets

-- the labels of an absolute name, the root among them
abbrev pub name_labels : {O : Type 0} {g : Ghosts O} → Name O g → List (List ℕ)
name_labels n = labels_in (name_octets n)

-- the same of a relative name
abbrev pub relative_octets : {O : Type 0} {g : Ghosts O} → RelativeName O g → List ℕ
relative_octets {g = g} n = g.octets n.octets

-- the labels of a relative name
abbrev pub relative_labels : {O : Type 0} {g : Ghosts O} → RelativeName O g → List (List ℕ)
relative_labels n = labels_in (relative_octets n)

-- what holds the octets
abbrev pub name_holder : {O : Type 0} {g : Ghosts O} → Name O g → O
name_holder n = n.octets

-- the same of a relative name
abbrev pub relative_holder : {O : Type 0} {g : Ghosts O} → RelativeName O g → O
relative_holder n = n.octets

-- how many octets what holds the name's octets has room for in all, without new memory
abbrev pub name_capacity : {O : Type 0} {g : Ghosts O} → Name O g → ℕ
name_capacity {g = g} n = g.capacity n.octets

-- the same of a relative name
abbrev pub relative_capacity : {O : Type 0} {g : Ghosts O} → RelativeName O g → ℕ
relative_capacity {g = g} n = g.capacity n.octets

-- the list of one label, an asterisk (RFC 4592, 2.1.1)
abbrev pub Wildcard : List (List ℕ)
Wildcard = (42 ∷ []) ∷ []

-- This is the absolute name whose wire format the octets are, if they are one.
abbrev pub IsNameOf : {O : Type 0} {g : Ghosts O} → List ℕ → Name O g → Type 0
IsNameOf octets name = (ls : List (List ℕ)) → IsAbsoluteName ls → octets ≡ wire ls → name_labels name ≡ ls

-- The same of a relative name.
abbrev pub IsRelativeNameOf : {O : Type 0} {g : Ghosts O} → List ℕ → RelativeName O g → Type 0
IsRelativeNameOf octets name =
    (ls : List (List ℕ)) → IsRelativeName ls → octets ≡ wire ls → relative_labels name ≡ ls

-- If the octets are the wire format of an absolute name, the result is an error or that name.
abbrev pub ReadsAbsoluteWire : {O E : Type 0} {g : Ghosts O} → List ℕ → Result (Name O g) E → Type 0
ReadsAbsoluteWire octets result =
    (ls : List (List ℕ)) → IsAbsoluteName ls → octets ≡ wire ls → IfOk result (λ name. name_labels name ≡ ls)

-- The same of a relative name.
abbrev pub ReadsRelativeWire : {O E : Type 0} {g : Ghosts O} → List ℕ → Result (RelativeName O g) E → Type 0
ReadsRelativeWire octets result =
    (ls : List (List ℕ)) → IsRelativeName ls → octets ≡ wire ls → IfOk result (λ name. relative_labels name ≡ ls)

-- The parts are the name's first label, and the name of the labels after it.
abbrev pub IsFirstAndParent : {O P : Type 0} {g : Ghosts O} {h : Ghosts P} → Name O g → Label × Name P h → Type 0
IsFirstAndParent name parts = name_labels name ≡ label_octets parts.0 ∷ name_labels parts.1

-- The same of a relative name.
abbrev pub IsFirstAndRelativeParent : {O P : Type 0} {g : Ghosts O} {h : Ghosts P} → RelativeName O g → Label × RelativeName P h → Type 0
IsFirstAndRelativeParent name parts = relative_labels name ≡ label_octets parts.0 ∷ relative_labels parts.1

-- The wire format of the labels may exceed this capacity.
abbrev pub WireMayExceed : Option ℕ → List (List ℕ) → Type 0
WireMayExceed room ls = MayExceedCapacity room (wire_len ls)

-- The chain is of these two names, in this order.
abbrev pub IsChainOf : {L R : Type 0} {l : Labels L} {r : Labels R} → L → R → Chain L R l r → Type 0
IsChainOf left right chain = (left_part chain ≡ left) × (right_part chain ≡ right)

-- l is the first label of ls
abbrev pub IsFirstLabel : List (List ℕ) → List ℕ → Type 0
IsFirstLabel ls l = (rest : List (List ℕ)) × (ls ≡ l ∷ rest)

-- l is the last label of ls
abbrev pub IsLastLabel : List (List ℕ) → List ℕ → Type 0
IsLastLabel ls l = (front : List (List ℕ)) × (ls ≡ front ++ l ∷ [])

-- rest is ls without its first label
abbrev pub IsParent : List (List ℕ) → List (List ℕ) → Type 0
IsParent ls rest = (first : List ℕ) × (ls ≡ first ∷ rest)

-- front is ls without its last labels, or all of it
abbrev pub IsFront : List (List ℕ) → List (List ℕ) → Type 0
IsFront ls front = (after : List (List ℕ)) × (ls ≡ front ++ after)

-- the uncompressed name ls is next for the parser, and ends before the position e
abbrev pub NameAhead : Parser → List (List ℕ) → ℕ → Type 0
NameAhead parser ls e = NameAt (message parser) (position parser) ls e

-- The name was next for the parser, and ended where the parser is then.
abbrev pub WasAhead : {O : Type 0} {g : Ghosts O} → Parser → Parser → Name O g → Type 0
WasAhead old new name = NameAhead old (name_labels name) (position new)

-- If an uncompressed name is next for the parser, the result is an error or that name.
abbrev pub ReadsNameAhead : {O E : Type 0} {g : Ghosts O} → Parser → Result (Name O g) E → Type 0
ReadsNameAhead parser result =
    (ls : List (List ℕ)) (e : ℕ) → NameAhead parser ls e → IfOk result (λ name. name_labels name ≡ ls)

-- making a value of these octets may fail
abbrev pub MayRefuse : {S : Type 0} → (S → Type 0) → (S → List ℕ) → List ℕ → Type 0
MayRefuse {S} refused octets_of octets = (source : S) × (octets_of source ≡ octets) × refused source

-- rest is what ls has before its last labels, which equal those of base ignoring case
pub record IsStripped (ls base rest : List (List ℕ)) : Type 0 where
  pub suffix : List (List ℕ)
  pub parts : ls ≡ rest ++ suffix
  pub same : lowercase_labels suffix ≡ lowercase_labels base
