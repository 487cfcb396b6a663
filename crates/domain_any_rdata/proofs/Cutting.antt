-- Octets that are taken from the left.
use Rattle.std.proofs.Common.{◌≡◌, ◌∙◌, ℕ, ◌+◌, ◌≤◌, ◌<◌, Bool, true, false, nat_lt, if◌then◌else◌, List, [], ◌∷◌, ◌++◌, length, take, drop, fold, refl, sym, ap, arith, append_assoc, append-nil, length-append, length-drop}
use Rattle.std.specs.Cmp.Lexicographic.{slice_cmp}
use Rattle.std.specs.Ordering.{is_ne, nat_cmp, ordering_then}
use Rattle.std.specs.declared.cmp.Ordering.{Ordering}
use Rattle.std.specs.declared.cmp.Ordering.TheVariants.{Less, Equal, Greater}
use Rattle.std.proofs.Math.ListN.{drop_of_length-le}
use Rattle.std.proofs.Math.Seq.{drop-append_seam}
use Rattle.std.proofs.lemmas.Bool.{false≢true}
use Rattle.std.proofs.lemmas.Bool.Decides.{nat_tests}
use Rattle.std.proofs.lemmas.Grind.{fold-append, flat_map-append}
use Rattle.std.proofs.lemmas.List.{take-append-drop, length-take-le, drop-append-le, take-append-le, drop-drop}
use Rattle.std.specs.Hash as fed
use Rattle.domain_label.specs.Lowercase.{as_writes}
use Rattle.domain_descriptor.specs.Rdatas.{rdata_kinds, rdata_message, rdata_begin, HasFieldsLeft}
use Rattle.domain_descriptor.specs.declared.rdata.FieldIter.{FieldIter}
use Rattle.domain_descriptor.specs.declared.rdata.Rdata.{Rdata}
use Rattle.domain_fields.proofs.Ordering.{as_many_cmp}
use Rattle.domain_fields.specs.Orders.{hashed}
use Rattle.domain_fields.specs.Parts.{Part, no_name, part_octets, parts_octets}
use Rattle.domain_any_rdata.specs.Parts.{parts_left, rdata_parts}
use Rattle.domain_any_rdata.specs.Readers.{remaining_octets, in_hand}
use Rattle.domain_any_rdata.specs.declared.reader.OctetReader.{OctetReader}
use Rattle.domain_any_rdata.proofs.Named.{all_left}

-- ---- the octets in hand come first: the rest of a name, or those of another field
drop_more : (xs : List ℕ) (a b : ℕ) → drop (a + b) xs ≡ drop b (drop a xs)
drop_more xs a b = sym (drop-drop b a xs)

pub rest_taken : (name rest : List ℕ) (taken n : ℕ) → n ≤ length (drop taken name) → drop (taken + n) name ++ rest ≡ drop n (drop taken name ++ rest)
rest_taken name rest taken n few = ap (λ (x : List ℕ). x ++ rest) (drop_more name taken n) ∙ sym (drop-append-le n (drop taken name) rest few)

pub octets_taken : (name octets rest : List ℕ) (taken n : ℕ) → length name ≤ taken → n ≤ length octets → drop taken name ++ (drop n octets ++ rest) ≡ drop n (drop taken name ++ (octets ++ rest))
octets_taken name octets rest taken n gone few =
    let none = drop_of_length-le name gone in
    ap (λ (x : List ℕ). x ++ (drop n octets ++ rest)) none
    ∙ sym (drop-append-le n octets rest few)
    ∙ ap (λ (x : List ℕ). drop n (x ++ (octets ++ rest))) (sym none)

-- what is left is what is in hand, and what comes after it
pub record BeginsWith (first all : List ℕ) : Type 0 where
  pub rest : List ℕ
  pub is : all ≡ first ++ rest

by_test : (it : OctetReader) (c : Bool) → nat_lt it.taken (length it.name.items) ≡ c
    → BeginsWith (if c then drop it.taken it.name.items else it.octets.now) (remaining_octets it)
by_test it true few = record { rest = it.octets.now ++ parts_octets it.lowercase (parts_left it.fields); is = refl }
by_test it false many =
    let gone : length it.name.items ≤ it.taken = grind (arith, nat_tests) in
    record {
      rest = parts_octets it.lowercase (parts_left it.fields);
      is = ap (λ (x : List ℕ). x ++ (it.octets.now ++ parts_octets it.lowercase (parts_left it.fields))) (drop_of_length-le it.name.items gone);
    }

pub hand_first : (it : OctetReader) → BeginsWith (in_hand it) (remaining_octets it)
hand_first it = by_test it (nat_lt it.taken (length it.name.items)) refl

-- ---- order
-- n octets of both are compared
pub cut_cmp : (x y : List ℕ) (n : ℕ) → n ≤ length x → n ≤ length y → slice_cmp nat_cmp x y ≡ ordering_then (slice_cmp nat_cmp (take n x) (take n y)) (slice_cmp nat_cmp (drop n x) (drop n y))
cut_cmp x y n few less =
    ap (λ (l : List ℕ). slice_cmp nat_cmp l y) (sym (take-append-drop n x))
    ∙ ap (λ (l : List ℕ). slice_cmp nat_cmp (take n x ++ drop n x) l) (sym (take-append-drop n y))
    ∙ as_many_cmp (take n x) (take n y) (drop n x) (drop n y) (length-take-le n x few ∙ sym (length-take-le n y less))

take_first : (first all : List ℕ) (n : ℕ) → BeginsWith first all → n ≤ length first → take n all ≡ take n first
take_first first all n has few = ap (λ (x : List ℕ). take n x) has.is ∙ take-append-le n first has.rest few

pub longer_first : (first all : List ℕ) → BeginsWith first all → length first ≤ length all
longer_first first all has = omega (arith, ap (λ (x : List ℕ). length x) has.is, length-append first has.rest)

-- the order of the octets in hand of both, and then of what is after them
pub hands_cmp : (first second all others : List ℕ) (n : ℕ) → BeginsWith first all → BeginsWith second others → n ≤ length first → n ≤ length second
    → slice_cmp nat_cmp all others ≡ ordering_then (slice_cmp nat_cmp (take n first) (take n second)) (slice_cmp nat_cmp (drop n all) (drop n others))
hands_cmp first second all others n one two few less =
    let whole = longer_first first all one in
    let more = longer_first second others two in
    cut_cmp all others n (omega (arith, few, whole)) (omega (arith, less, more))
    ∙ ap (λ (l : List ℕ). ordering_then (slice_cmp nat_cmp l (take n others)) (slice_cmp nat_cmp (drop n all) (drop n others))) (take_first first all n one few)
    ∙ ap (λ (l : List ℕ). ordering_then (slice_cmp nat_cmp (take n first) l) (slice_cmp nat_cmp (drop n all) (drop n others))) (take_first second others n two less)

-- so the order of what is left is found
pub hands_ordered : (first second : OctetReader) (n : ℕ) (order : Ordering) (rest others : List ℕ) → n ≤ length (in_hand first) → n ≤ length (in_hand second)
    → order ≡ slice_cmp nat_cmp (take n (in_hand first)) (take n (in_hand second)) → rest ≡ drop n (remaining_octets first) → others ≡ drop n (remaining_octets second)
    → slice_cmp nat_cmp (remaining_octets first) (remaining_octets second) ≡ ordering_then order (slice_cmp nat_cmp rest others)
hands_ordered first second n order rest others few less is one two =
    hands_cmp (in_hand first) (in_hand second) (remaining_octets first) (remaining_octets second) n (hand_first first) (hand_first second) few less
    ∙ ap (λ (o : Ordering). ordering_then o (slice_cmp nat_cmp (drop n (remaining_octets first)) (drop n (remaining_octets second)))) (sym is)
    ∙ ap (λ (l : List ℕ). ordering_then order (slice_cmp nat_cmp l (drop n (remaining_octets second)))) (sym one)
    ∙ ap (λ (l : List ℕ). ordering_then order (slice_cmp nat_cmp rest l)) (sym two)

pub fewer_left : (it : OctetReader) (n : ℕ) (rest : List ℕ) → 0 < n → n ≤ length (in_hand it) → rest ≡ drop n (remaining_octets it) → length rest < length (remaining_octets it)
fewer_left it n rest some few is =
    omega (arith, ap (λ (l : List ℕ). length l) is, length-drop n (remaining_octets it), longer_first (in_hand it) (remaining_octets it) (hand_first it), some, few)

-- an order that isn't equal decides
pub then_differs : (o rest : Ordering) → is_ne o ≡ true → ordering_then o rest ≡ o
then_differs Less rest differ = refl
then_differs Equal rest differ = absurd (false≢true differ)
then_differs Greater rest differ = refl

-- one that is equal leaves it to the rest
pub then_same : (o rest : Ordering) → is_ne o ≡ false → ordering_then o rest ≡ rest
then_same Less rest same = absurd (false≢true (sym same))
then_same Equal rest same = refl
then_same Greater rest same = absurd (false≢true (sym same))

pub same_cmp : (x y rest others : List ℕ) → rest ≡ x → others ≡ y → slice_cmp nat_cmp rest others ≡ slice_cmp nat_cmp x y
same_cmp x y rest others one two = ap (λ (l : List ℕ). slice_cmp nat_cmp l others) one ∙ ap (λ (l : List ℕ). slice_cmp nat_cmp x l) two

-- one has no octets left
pub none_less : (x y : List ℕ) → x ≡ [] → 0 < length y → slice_cmp nat_cmp x y ≡ Less
none_less [] [] none some = absurd (omega (arith, some))
none_less [] (c ∷ y) none some = refl
none_less (b ∷ x) y none some = absurd (omega (arith, ap (λ (l : List ℕ). length l) none))

pub some_greater : (x y : List ℕ) → 0 < length x → y ≡ [] → slice_cmp nat_cmp x y ≡ Greater
some_greater [] y some none = absurd (omega (arith, some))
some_greater (b ∷ x) [] some none = refl
some_greater (b ∷ x) (c ∷ y) some none = absurd (omega (arith, ap (λ (l : List ℕ). length l) none))

pub both_none : (x y : List ℕ) → x ≡ [] → y ≡ [] → slice_cmp nat_cmp x y ≡ Equal
both_none x y none nothing = ap (λ (l : List ℕ). slice_cmp nat_cmp l y) none ∙ ap (λ (l : List ℕ). slice_cmp nat_cmp [] l) nothing

-- ---- hash
pub hashed_first : {H : Type 0} (write : H → List ℕ → H) (first all : List ℕ) (state next : H) → BeginsWith first all → next ≡ hashed write first state
    → hashed write (drop (length first) all) next ≡ hashed write all state
hashed_first write first all state next has is =
    let rest = has.rest in
    let after : drop (length first) all ≡ rest = ap (λ (x : List ℕ). drop (length first) x) has.is ∙ drop-append_seam first rest in
    ap (λ (x : List ℕ). hashed write x next) after
    ∙ ap (λ s. hashed write rest s) is
    ∙ sym (fold-append write state (as_writes first) (as_writes rest))
    ∙ ap (λ w. fold write state w) (sym (flat_map-append fed.u8 first rest))
    ∙ ap (λ (x : List ℕ). hashed write x state) (sym has.is)

-- ---- where nothing is in hand, the next field is taken
nothing_by : (it : OctetReader) (c : Bool) → nat_lt it.taken (length it.name.items) ≡ c → (if c then drop it.taken it.name.items else it.octets.now) ≡ []
    → (drop it.taken it.name.items ≡ []) × (it.octets.now ≡ [])
nothing_by it true few none = absurd (let some : it.taken < length it.name.items = grind (arith, nat_tests) in omega (arith, some, ap (λ (x : List ℕ). length x) none, length-drop it.taken it.name.items))
nothing_by it false many none = let gone : length it.name.items ≤ it.taken = grind (arith, nat_tests) in (drop_of_length-le it.name.items gone, none)

pub nothing_in_hand : (it : OctetReader) → in_hand it ≡ [] → (drop it.taken it.name.items ≡ []) × (it.octets.now ≡ [])
nothing_in_hand it none = nothing_by it (nat_lt it.taken (length it.name.items)) refl none

pub next_taken : (it : OctetReader) (x : Part) (rest : List Part) (name octets : List ℕ) → in_hand it ≡ [] → parts_left it.fields ≡ x ∷ rest → name ++ octets ≡ part_octets it.lowercase x
    → name ++ (octets ++ parts_octets it.lowercase rest) ≡ remaining_octets it
next_taken it x rest name octets none first same =
    let e = nothing_in_hand it none in
    let left = parts_octets it.lowercase (parts_left it.fields) in
    let whole : remaining_octets it ≡ left = ap (λ (d : List ℕ). d ++ (it.octets.now ++ left)) e.0 ∙ ap (λ (o : List ℕ). o ++ left) e.1 in
    sym (append_assoc name octets (parts_octets it.lowercase rest))
    ∙ ap (λ (o : List ℕ). o ++ parts_octets it.lowercase rest) same
    ∙ sym (whole ∙ ap (λ (l : List Part). parts_octets it.lowercase l) first)

-- a name is taken
pub name_taken : (it : OctetReader) (x : Part) (rest : List Part) (name before : List ℕ) → in_hand it ≡ [] → parts_left it.fields ≡ x ∷ rest → before ≡ [] → name ≡ before ++ part_octets it.lowercase x
    → name ++ (it.octets.now ++ parts_octets it.lowercase rest) ≡ remaining_octets it
name_taken it x rest name before none first empty is =
    let e = nothing_in_hand it none in
    next_taken it x rest name it.octets.now none first
    (ap (λ (o : List ℕ). name ++ o) e.1 ∙ append-nil name ∙ is ∙ ap (λ (b : List ℕ). b ++ part_octets it.lowercase x) empty)

pub none_of : (xs : List ℕ) → length xs ≡ 0 → xs ≡ []
none_of [] none = refl
none_of (x ∷ xs) none = absurd (omega (arith, none))

-- ---- the calls
-- a new reader has nothing in hand
pub all_remain : (it : Rdata) (fields : FieldIter) (lowercase : Bool) (name : List ℕ) → name ≡ [] → HasFieldsLeft (rdata_kinds it) (rdata_message it) (rdata_begin it) fields
    → drop 0 name ++ ([] ++ parts_octets lowercase (parts_left fields)) ≡ parts_octets lowercase (rdata_parts it)
all_remain it fields lowercase name none has =
    ap (λ (n : List ℕ). drop 0 n ++ ([] ++ parts_octets lowercase (parts_left fields))) none
    ∙ ap (λ (ps : List Part). parts_octets lowercase ps) (all_left it fields has)

-- what is in hand, by the test of the calls
by_name : (it : OctetReader) (c : Bool) → nat_lt it.taken (length it.name.items) ≡ c → it.taken < length it.name.items
    → (if c then drop it.taken it.name.items else it.octets.now) ≡ drop it.taken it.name.items
by_name it true few some = refl
by_name it false many some = let gone : length it.name.items ≤ it.taken = grind (arith, nat_tests) in absurd (omega (arith, gone, some))

pub name_in_hand : (it : OctetReader) → it.taken < length it.name.items → in_hand it ≡ drop it.taken it.name.items
name_in_hand it some = by_name it (nat_lt it.taken (length it.name.items)) refl some

by_octets : (it : OctetReader) (c : Bool) → nat_lt it.taken (length it.name.items) ≡ c → length it.name.items ≤ it.taken
    → (if c then drop it.taken it.name.items else it.octets.now) ≡ it.octets.now
by_octets it true few gone = let some : it.taken < length it.name.items = grind (arith, nat_tests) in absurd (omega (arith, gone, some))
by_octets it false many gone = refl

pub octets_in_hand : (it : OctetReader) → length it.name.items ≤ it.taken → in_hand it ≡ it.octets.now
octets_in_hand it gone = by_octets it (nat_lt it.taken (length it.name.items)) refl gone

-- as many as are skipped are there
pub name_has : (it : OctetReader) (n : ℕ) → it.taken < length it.name.items → n ≤ length (in_hand it) → it.taken + n ≤ length it.name.items
name_has it n some few =
    omega (arith, some, few, ap (λ (x : List ℕ). length x) (name_in_hand it some), length-drop it.taken it.name.items)

pub octets_have : (it : OctetReader) (n : ℕ) → length it.name.items ≤ it.taken → n ≤ length (in_hand it) → n ≤ length it.octets.now
octets_have it n gone few = omega (arith, few, ap (λ (x : List ℕ). length x) (octets_in_hand it gone))

pub name_skipped : (it : OctetReader) (n : ℕ) → it.taken < length it.name.items → n ≤ length (in_hand it)
    → drop (it.taken + n) it.name.items ++ (it.octets.now ++ parts_octets it.lowercase (parts_left it.fields)) ≡ drop n (remaining_octets it)
name_skipped it n some few =
    rest_taken it.name.items (it.octets.now ++ parts_octets it.lowercase (parts_left it.fields)) it.taken n
    (omega (arith, few, ap (λ (x : List ℕ). length x) (name_in_hand it some)))

pub octets_skipped : (it : OctetReader) (n : ℕ) → length it.name.items ≤ it.taken → n ≤ length (in_hand it)
    → drop it.taken it.name.items ++ (drop n it.octets.now ++ parts_octets it.lowercase (parts_left it.fields)) ≡ drop n (remaining_octets it)
octets_skipped it n gone few =
    octets_taken it.name.items it.octets.now (parts_octets it.lowercase (parts_left it.fields)) it.taken n gone (octets_have it n gone few)

-- another field is taken
pub field_taken : (it : OctetReader) (x : Part) (rest : List Part) (octets : List ℕ) → in_hand it ≡ [] → parts_left it.fields ≡ x ∷ rest → x ≡ no_name octets
    → drop it.taken it.name.items ++ (octets ++ parts_octets it.lowercase rest) ≡ remaining_octets it
field_taken it x rest octets none first is =
    let e = nothing_in_hand it none in
    next_taken it x rest (drop it.taken it.name.items) octets none first
    (ap (λ (d : List ℕ). d ++ octets) e.0 ∙ ap (λ (y : Part). part_octets it.lowercase y) (sym is))

-- no field is left
pub nothing_remains : (it : OctetReader) (rest : List Part) → in_hand it ≡ [] → rest ≡ []
    → drop it.taken it.name.items ++ (it.octets.now ++ parts_octets it.lowercase rest) ≡ []
nothing_remains it rest none end =
    let e = nothing_in_hand it none in
    ap (λ (d : List ℕ). d ++ (it.octets.now ++ parts_octets it.lowercase rest)) e.0
    ∙ ap (λ (o : List ℕ). o ++ parts_octets it.lowercase rest) e.1
    ∙ ap (λ (l : List Part). parts_octets it.lowercase l) end

pub some_remain : (it : OctetReader) → 0 < length (in_hand it) → 0 < length (remaining_octets it)
some_remain it some = omega (arith, some, longer_first (in_hand it) (remaining_octets it) (hand_first it))

pub hashed_none : {H : Type 0} (write : H → List ℕ → H) (left : List ℕ) (state all : H) → left ≡ [] → hashed write left state ≡ all → state ≡ all
hashed_none write left state all none same = ap (λ (x : List ℕ). hashed write x state) (sym none) ∙ same
