-- Each text is read as one label, or has one fault.
use Rattle.std.proofs.Common.{◌≡◌, ◌≢◌, ℕ, ◌<◌, ◌≤◌, ◌⊎◌, inl, inr, Bool, true, false, List, [], ◌∷◌, ◌++◌, length, Option, Some, None, Result, Ok, Err, refl, ap, sym, ◌∙◌, subst, arith, zero, suc, leb, ◌==◌}
use Rattle.std.specs.Char.{IsAsciiControl, IsNotAsciiControl}
use Rattle.std.specs.Iterator.{AlwaysYields}
use Rattle.std.proofs.Math.Dec.{eqb-suc-zero}
use Rattle.std.proofs.lemmas.Bool.Decides.{leb_tells}
use Rattle.domain_label.specs.Spelling.{spelling, IsBroken}
use Rattle.domain_label.specs.LabelText.{IsLabelSymbol, IsBrokenInLabel, label_octet, BeginsWithOctet, BeginsWithOctets, NoOctet, still_start, IsOwnedLabelText, HasLabelFault, OneLabel}
use Rattle.domain_label.specs.declared.label_text.LabelFromStrErrorKind.{LabelFromStrErrorKind}
use Rattle.domain_label.specs.declared.label_text.LabelFromStrErrorKind.TheVariants.{SymbolChars, LongLabel}
use Rattle.domain_label.specs.declared.symbol.Symbol.{Symbol}
use Rattle.domain_label.specs.declared.symbol.Symbol.TheVariants.{Char, SimpleEscape, DecimalEscape}
use Rattle.domain_label.specs.Scanning.{GivesEscape, GivesLabelEscape, GivesOctet}
use Rattle.domain_label.specs.declared.symbol.SymbolCharsError.{SymbolCharsError}
use Rattle.domain_label.specs.declared.symbol.SymbolCharsError.TheVariants.{ShortInput}
use Rattle.domain_label.proofs.ReadOnce.{IsTold, told, one_told, none_spelled, none_broken, whole_or_broken, one_fault, SymbolOrFault, first, backslash_or_not}

-- ---- one octet

label_told : (s : Symbol) → IsLabelSymbol s → IsTold s
label_told s (inl h) = told s h
label_told (Char c) (inr h) = absurd h
label_told (SimpleEscape c) (inr (inl h)) = inl (omega (arith, h.1))
label_told (SimpleEscape c) (inr (inr h)) = inr (omega (arith, h.0))
label_told (DecimalEscape n) (inr h) = absurd h

same_symbol : (s t : Symbol) (cs q r : List ℕ) → IsLabelSymbol s → IsLabelSymbol t → cs ≡ spelling s ++ q → cs ≡ spelling t ++ r → (s ≡ t) × (q ≡ r)
same_symbol s t cs q r h k d e = one_told s t q r (label_told s h) (label_told t k) (sym d ∙ e)

whole_or_broken_in_label : (s : Symbol) (cs rest : List ℕ) (e : SymbolCharsError) → IsLabelSymbol s → cs ≡ spelling s ++ rest → IsBrokenInLabel cs e → ⊥
whole_or_broken_in_label s cs rest e (inl h) p b = whole_or_broken s cs rest e h p b.0
whole_or_broken_in_label (Char c) cs rest e (inr h) p b = h
whole_or_broken_in_label (SimpleEscape c) cs rest e (inr h) p b = b.1 c rest p h
whole_or_broken_in_label (DecimalEscape n) cs rest e (inr h) p b = h

ok_same : (r : Result ℕ LabelFromStrErrorKind) (c d : ℕ) → r ≡ Ok c → r ≡ Ok d → c ≡ d
ok_same r c d p q = cc

err_same : (r : Result ℕ LabelFromStrErrorKind) (j k : LabelFromStrErrorKind) → r ≡ Err j → r ≡ Err k → j ≡ k
err_same r j k p q = cc

ok_or_err : (r : Result ℕ LabelFromStrErrorKind) (c : ℕ) (k : LabelFromStrErrorKind) → r ≡ Ok c → r ≡ Err k → ⊥
ok_or_err r c k p q = cc

one_octet : (b : Bool) (cs : List ℕ) (c d : ℕ) (q r : List ℕ) → BeginsWithOctet b cs c q → BeginsWithOctet b cs d r → (c ≡ d) × (q ≡ r)
one_octet b cs c d q r x y =
    let same = same_symbol x.symbol y.symbol cs q r x.whole y.whole x.spelled y.spelled in
    (ok_same (label_octet b x.symbol) c d x.octet (ap (label_octet b) same.0 ∙ y.octet), same.1)

octet_or_none : (b : Bool) (cs : List ℕ) (c : ℕ) (rest : List ℕ) (why : LabelFromStrErrorKind) → BeginsWithOctet b cs c rest → NoOctet b cs why → ⊥
octet_or_none b cs c rest why x (inl n) = whole_or_broken_in_label x.symbol cs rest n.0 x.whole x.spelled n.1
octet_or_none b cs c rest why x (inr n) =
    let same = same_symbol x.symbol n.0 cs rest n.1 x.whole n.2 x.spelled n.3 in
    ok_or_err (label_octet b x.symbol) c why x.octet (ap (label_octet b) same.0 ∙ n.4)

one_reason : (b : Bool) (cs : List ℕ) (j k : LabelFromStrErrorKind) → NoOctet b cs j → NoOctet b cs k → j ≡ k
one_reason b cs j k (inl m) (inl n) = m.2 ∙ ap SymbolChars (one_fault cs m.0 n.0 m.1.0 n.1.0) ∙ sym n.2
one_reason b cs j k (inl m) (inr n) = absurd (whole_or_broken_in_label n.0 cs n.1 m.0 n.2 n.3 m.1)
one_reason b cs j k (inr m) (inl n) = absurd (whole_or_broken_in_label m.0 cs m.1 n.0 m.2 m.3 n.1)
one_reason b cs j k (inr m) (inr n) =
    let same = same_symbol m.0 n.0 cs m.1 n.1 m.2 n.2 m.3 n.3 in
    err_same (label_octet b m.0) j k m.4 (ap (label_octet b) same.0 ∙ n.4)

none_left : (b : Bool) (cs : List ℕ) (why : LabelFromStrErrorKind) → cs ≡ [] → NoOctet b cs why → ⊥
none_left b cs why e (inl n) = none_broken cs n.0 e n.1.0
none_left b cs why e (inr n) = none_spelled n.0 cs n.1 e n.3

octet_left : (b : Bool) (cs : List ℕ) (c : ℕ) (rest : List ℕ) → cs ≡ [] → BeginsWithOctet b cs c rest → ⊥
octet_left b cs c rest e x = none_spelled x.symbol cs rest e x.spelled

-- ---- which of them it is

control_or_not : (c : ℕ) → IsAsciiControl c ⊎ (IsAsciiControl c → ⊥)
control_or_not c = at (leb_tells c 31) (leb_tells 127 c) (leb_tells c 127)
  where
    between : 31 < c → (c < 127) ⊎ (127 < c) → IsAsciiControl c → ⊥
    between a b (inl h) = omega (arith, a, h.1)
    between a (inl b) (inr h) = omega (arith, b, h.0)
    between a (inr b) (inr h) = omega (arith, b, h.1)

    at : ((leb c 31 ≡ true) × (c ≤ 31)) ⊎ ((leb c 31 ≡ false) × (31 < c)) → ((leb 127 c ≡ true) × (127 ≤ c)) ⊎ ((leb 127 c ≡ false) × (c < 127)) → ((leb c 127 ≡ true) × (c ≤ 127)) ⊎ ((leb c 127 ≡ false) × (127 < c)) → IsAsciiControl c ⊎ (IsAsciiControl c → ⊥)
    at (inl a) b d = inl (inl (omega arith, a.1))
    at (inr a) (inl b) (inl d) = inl (inr (b.1, d.1))
    at (inr a) (inl b) (inr d) = inr (between a.1 (inr d.1))
    at (inr a) (inr b) d = inr (between a.1 (inl b.1))

-- what the characters of a text begin with
abbrev LabelSymbolOrFault : List ℕ → Type 0
LabelSymbolOrFault cs = ((s : Symbol) × (rest : List ℕ) × IsLabelSymbol s × (cs ≡ spelling s ++ rest)) ⊎ ((e : SymbolCharsError) × IsBrokenInLabel cs e)

-- where it is no backslash before a control character, as in all texts
plain_or_broken : (cs : List ℕ) → ((c : ℕ) (rest : List ℕ) → cs ≡ 92 ∷ c ∷ rest → IsAsciiControl c → ⊥) → SymbolOrFault cs → LabelSymbolOrFault cs
plain_or_broken cs plain (inl f) = inl (f.0, f.1, inl f.2, f.3)
plain_or_broken cs plain (inr f) = inr (f.0, (f.1, plain))

label_first : (c : ℕ) (cs : List ℕ) → LabelSymbolOrFault (c ∷ cs)
label_first c [] = plain_or_broken (c ∷ []) (λ d rest e k. absurd (cc)) (first c [])
label_first c (d ∷ cs) = at (backslash_or_not c) (control_or_not d)
  where
    at : (c ≡ 92) ⊎ (c ≢ 92) → IsAsciiControl d ⊎ (IsAsciiControl d → ⊥) → LabelSymbolOrFault (c ∷ d ∷ cs)
    at (inl e) (inl h) = inl (SimpleEscape d, cs, inr h, ap (λ (x : ℕ). x ∷ d ∷ cs) e)
    at (inl e) (inr h) = plain_or_broken (c ∷ d ∷ cs) (λ x rest p k. let same : x ≡ d = cc in h (subst IsAsciiControl same k)) (first c (d ∷ cs))
    at (inr n) h = plain_or_broken (c ∷ d ∷ cs) (λ x rest p k. let e : c ≡ 92 = cc in n e) (first c (d ∷ cs))

abbrev OctetOrNone : Bool → List ℕ → Type 0
OctetOrNone b cs = ((c : ℕ) × (rest : List ℕ) × BeginsWithOctet b cs c rest) ⊎ ((why : LabelFromStrErrorKind) × NoOctet b cs why)

octet_at : (b : Bool) (c : ℕ) (cs : List ℕ) → OctetOrNone b (c ∷ cs)
octet_at b c cs = at (label_first c cs)
  where
    decide : (s : Symbol) (rest : List ℕ) → IsLabelSymbol s → c ∷ cs ≡ spelling s ++ rest → (r : Result ℕ LabelFromStrErrorKind) → label_octet b s ≡ r → OctetOrNone b (c ∷ cs)
    decide s rest h e (Ok d) o = inl (d, rest, record { symbol = s; whole = h; spelled = e; octet = o })
    decide s rest h e (Err why) o = inr (why, inr (s, rest, h, e, o))

    at : LabelSymbolOrFault (c ∷ cs) → OctetOrNone b (c ∷ cs)
    at (inl f) = decide f.0 f.1 f.2 f.3 (label_octet b f.0) refl
    at (inr f) = inr (SymbolChars f.0, inl (f.0, f.1, refl))

-- ---- a whole text

-- what follows where so many more octets may: nothing, or what is no octet of a label
abbrev Here : Option LabelFromStrErrorKind → ℕ → Bool → List ℕ → Type 0
Here None left b rest = rest ≡ []
Here (Some why) zero b rest = (rest ≢ []) × (why ≡ LongLabel)
Here (Some why) (suc left) b rest = NoOctet b rest why

-- the same after the octets l
abbrev Ends : List ℕ → ℕ → Bool → List ℕ → Option LabelFromStrErrorKind → Type 0
Ends [] left b rest o = Here o left b rest
Ends (c ∷ l) zero b rest o = ⊥
Ends (c ∷ l) (suc left) b rest o = Ends l left false rest o

one_end : (o p : Option LabelFromStrErrorKind) (left : ℕ) (b : Bool) (cs : List ℕ) → Here o left b cs → Here p left b cs → o ≡ p
one_end None None left b cs h g = refl
one_end None (Some k) zero b cs h g = absurd (g.0 h)
one_end None (Some k) (suc left) b cs h g = absurd (none_left b cs k h g)
one_end (Some j) None zero b cs h g = absurd (h.0 g)
one_end (Some j) None (suc left) b cs h g = absurd (none_left b cs j g h)
one_end (Some j) (Some k) zero b cs h g = ap Some (h.1 ∙ sym g.1)
one_end (Some j) (Some k) (suc left) b cs h g = ap Some (one_reason b cs j k h g)

no_octet_here : (o : Option LabelFromStrErrorKind) (left : ℕ) (b : Bool) (cs : List ℕ) (c : ℕ) (rest : List ℕ) → Here o (suc left) b cs → BeginsWithOctet b cs c rest → ⊥
no_octet_here None left b cs c rest h x = octet_left b cs c rest h x
no_octet_here (Some k) left b cs c rest h x = octet_or_none b cs c rest k x h

one_outcome : (left : ℕ) (b : Bool) (cs l m r q : List ℕ) (o p : Option LabelFromStrErrorKind) → BeginsWithOctets b cs l r → Ends l left b r o → BeginsWithOctets b cs m q → Ends m left b q p → (l ≡ m) × (o ≡ p)
one_outcome left b cs [] [] r q o p x e y f = (refl, one_end o p left b cs (subst (λ (z : List ℕ). Here o left b z) (sym x) e) (subst (λ (z : List ℕ). Here p left b z) (sym y) f))
one_outcome zero b cs [] (d ∷ m) r q o p x e y f = absurd f
one_outcome zero b cs (c ∷ l) m r q o p x e y f = absurd e
one_outcome (suc left) b cs [] (d ∷ m) r q o p x e y f = absurd (no_octet_here o left b cs d y.0 (subst (λ (z : List ℕ). Here o (suc left) b z) (sym x) e) y.1)
one_outcome (suc left) b cs (c ∷ l) [] r q o p x e y f = absurd (no_octet_here p left b cs c x.0 (subst (λ (z : List ℕ). Here p (suc left) b z) (sym y) f) x.1)
one_outcome (suc left) b cs (c ∷ l) (d ∷ m) r q o p x e y f =
    let same = one_octet b cs c d x.0 y.0 x.1 y.1 in
    let more = one_outcome left false x.0 l m r q o p x.2 e (subst (λ (z : List ℕ). BeginsWithOctets false z m q) (sym same.1) y.2) f in
    (ap (λ (z : ℕ). z ∷ l) same.0 ∙ ap (λ (z : List ℕ). d ∷ z) more.0, more.1)

abbrev Outcome : ℕ → Bool → List ℕ → Type 0
Outcome left b cs = (l : List ℕ) × (rest : List ℕ) × (o : Option LabelFromStrErrorKind) × BeginsWithOctets b cs l rest × Ends l left b rest o

outcome : (left : ℕ) (b : Bool) (cs : List ℕ) → Outcome left b cs
outcome left b [] = ([], [], None, refl, refl)
outcome zero b (c ∷ cs) = ([], c ∷ cs, Some LongLabel, refl, (λ e. absurd (cc), refl))
outcome (suc left) b (c ∷ cs) = at (octet_at b c cs) (λ rest. outcome left false rest)
  where
    at : OctetOrNone b (c ∷ cs) → ((rest : List ℕ) → Outcome left false rest) → Outcome (suc left) b (c ∷ cs)
    at (inl f) more = let r = more f.1 in (f.0 ∷ r.0, r.1, r.2, (f.1, f.2, r.3), r.4)
    at (inr f) more = ([], c ∷ cs, Some f.0, refl, f.1)

-- ---- in the terms of the definitions

still_false : (l : List ℕ) → still_start false l ≡ false
still_false [] = refl
still_false (c ∷ l) = refl

whole_ends : (l : List ℕ) (left : ℕ) (b : Bool) (rest : List ℕ) → length l ≤ left → rest ≡ [] → Ends l left b rest None
whole_ends [] left b rest h e = e
whole_ends (c ∷ l) zero b rest h e = absurd (omega (arith, h))
whole_ends (c ∷ l) (suc left) b rest h e = whole_ends l left false rest (omega (arith, h)) e

ends_whole : (l : List ℕ) (left : ℕ) (b : Bool) (rest : List ℕ) → Ends l left b rest None → (length l ≤ left) × (rest ≡ [])
ends_whole [] left b rest e = (omega arith, e)
ends_whole (c ∷ l) zero b rest e = absurd e
ends_whole (c ∷ l) (suc left) b rest e = let h = ends_whole l left false rest e in (omega (arith, h.0), h.1)

-- `CannotFollow` with another number than 63
abbrev Refused : ℕ → Bool → List ℕ → List ℕ → LabelFromStrErrorKind → Type 0
Refused left b l rest why = ((length l < left) × NoOctet (still_start b l) rest why) ⊎ ((length l ≡ left) × (rest ≢ []) × (why ≡ LongLabel))

refused_ends : (l : List ℕ) (left : ℕ) (b : Bool) (rest : List ℕ) (why : LabelFromStrErrorKind) → Refused left b l rest why → Ends l left b rest (Some why)
refused_ends [] zero b rest why (inl h) = absurd (omega (arith, h.0))
refused_ends [] zero b rest why (inr h) = (h.1, h.2)
refused_ends [] (suc left) b rest why (inl h) = h.1
refused_ends [] (suc left) b rest why (inr h) = absurd (omega (arith, h.0))
refused_ends (c ∷ l) zero b rest why (inl h) = absurd (omega (arith, h.0))
refused_ends (c ∷ l) zero b rest why (inr h) = absurd (omega (arith, h.0))
refused_ends (c ∷ l) (suc left) b rest why (inl h) = refused_ends l left false rest why (inl (omega (arith, h.0), subst (λ (z : Bool). NoOctet z rest why) (sym (still_false l)) h.1))
refused_ends (c ∷ l) (suc left) b rest why (inr h) = refused_ends l left false rest why (inr (omega (arith, h.0), h.1, h.2))

ends_refused : (l : List ℕ) (left : ℕ) (b : Bool) (rest : List ℕ) (why : LabelFromStrErrorKind) → Ends l left b rest (Some why) → Refused left b l rest why
ends_refused [] zero b rest why h = inr (refl, h.0, h.1)
ends_refused [] (suc left) b rest why h = inl (omega arith, h)
ends_refused (c ∷ l) zero b rest why h = absurd h
ends_refused (c ∷ l) (suc left) b rest why h = after (ends_refused l left false rest why h)
  where
    after : Refused left false l rest why → Refused (suc left) b (c ∷ l) rest why
    after (inl g) = inl (omega (arith, g.0), subst (λ (z : Bool). NoOctet z rest why) (still_false l) g.1)
    after (inr g) = inr (omega (arith, g.0), g.1, g.2)

text_ends : (cs l : List ℕ) → IsOwnedLabelText cs l → Ends l 63 true [] None
text_ends cs l t = whole_ends l 63 true [] t.1 refl

fault_ends : (cs : List ℕ) (why : LabelFromStrErrorKind) (f : HasLabelFault cs why) → Ends f.before 63 true f.rest (Some why)
fault_ends cs why f = refused_ends f.before 63 true f.rest why f.refused

pub same_text : (cs l m : List ℕ) → IsOwnedLabelText cs l → IsOwnedLabelText cs m → l ≡ m
same_text cs l m t u = (one_outcome 63 true cs l m [] [] None None t.0 (text_ends cs l t) u.0 (text_ends cs m u)).0

some_same : (j k : LabelFromStrErrorKind) → Some j ≡ Some k → j ≡ k
some_same j k e = cc

pub same_fault : (cs : List ℕ) (j k : LabelFromStrErrorKind) → HasLabelFault cs j → HasLabelFault cs k → j ≡ k
same_fault cs j k f g = some_same j k (one_outcome 63 true cs f.before g.before f.rest g.rest (Some j) (Some k) f.begins (fault_ends cs j f) g.begins (fault_ends cs k g)).1

pub text_or_fault : (cs l : List ℕ) (why : LabelFromStrErrorKind) → IsOwnedLabelText cs l → HasLabelFault cs why → ⊥
text_or_fault cs l why t f =
    let e : None ≡ Some why = (one_outcome 63 true cs l f.before [] f.rest None (Some why) t.0 (text_ends cs l t) f.begins (fault_ends cs why f)).1 in
    absurd (cc)

pub one_label : (cs : List ℕ) → OneLabel cs
one_label cs = let r = outcome 63 true cs in at r.0 r.1 r.2 r.3 r.4
  where
    at : (l rest : List ℕ) (o : Option LabelFromStrErrorKind) → BeginsWithOctets true cs l rest → Ends l 63 true rest o → OneLabel cs
    at l rest None b e =
        let h = ends_whole l 63 true rest e in
        let t : IsOwnedLabelText cs l = (subst (λ (z : List ℕ). BeginsWithOctets true cs l z) h.1 b, h.0) in
        inl ((l, t, λ m u. same_text cs m l u t), λ why f. text_or_fault cs l why t f)
    at l rest (Some why) b e =
        let f : HasLabelFault cs why = record { before = l; rest = rest; begins = b; refused = ends_refused l 63 true rest why e } in
        inr ((why, f, λ j g. same_fault cs j why g f), λ m t. text_or_fault cs m why t f)

-- ---- reading on

pub octets_more : (l : List ℕ) (b : Bool) (cs : List ℕ) (c : ℕ) (rest more : List ℕ) → BeginsWithOctets b cs l rest → BeginsWithOctet (still_start b l) rest c more → BeginsWithOctets b cs (l ++ c ∷ []) more
octets_more [] b cs c rest more x y = (more, subst (λ (z : List ℕ). BeginsWithOctet b z c more) (sym x) y, refl)
octets_more (d ∷ l) b cs c rest more x y = (x.0, x.1, octets_more l false x.0 c rest more x.2 (subst (λ (z : Bool). BeginsWithOctet z rest c more) (sym (still_false l)) y))

pub none_read : (cs items : List ℕ) → items ≡ [] → BeginsWithOctets true cs items cs
none_read cs items e = subst (λ (z : List ℕ). BeginsWithOctets true cs z cs) (sym e) refl

at_start : (items : List ℕ) (b : Bool) → b ≡ (length items == 0) → b ≡ still_start true items
at_start [] b e = e
at_start (c ∷ items) b e = e ∙ eqb-suc-zero (length items)

pub octet_read : (cs items new rest next more : List ℕ) (c o : ℕ) (b : Bool) → BeginsWithOctets true cs items rest → rest ≡ c ∷ next → b ≡ (length items == 0) → BeginsWithOctet b (c ∷ next) o more → new ≡ items ++ o ∷ [] → BeginsWithOctets true cs new more
octet_read cs items new rest next more c o b x e s y n =
    let here : BeginsWithOctet b rest o more = subst (λ (z : List ℕ). BeginsWithOctet b z o more) (sym e) y in
    let there : BeginsWithOctet (still_start true items) rest o more = subst (λ (z : Bool). BeginsWithOctet z rest o more) (at_start items b s) here in
    subst (λ (z : List ℕ). BeginsWithOctets true cs z more) (sym n) (octets_more items true cs o rest more x there)

pub long_read : (cs items rest next : List ℕ) (c : ℕ) (why : LabelFromStrErrorKind) → BeginsWithOctets true cs items rest → rest ≡ c ∷ next → length items ≤ 63 → 63 ≤ length items → why ≡ LongLabel → HasLabelFault cs why
long_read cs items rest next c why x e few many w = record { before = items; rest = rest; begins = x; refused = inr (omega (arith, few, many), λ z. absurd (cc), w) }

pub fault_read : (cs items rest next : List ℕ) (c : ℕ) (b : Bool) (kind why : LabelFromStrErrorKind) → BeginsWithOctets true cs items rest → rest ≡ c ∷ next → length items < 63 → b ≡ (length items == 0) → NoOctet b (c ∷ next) kind → why ≡ kind → HasLabelFault cs why
fault_read cs items rest next c b kind why x e few s y w =
    let here : NoOctet b rest kind = subst (λ (z : List ℕ). NoOctet b z kind) (sym e) y in
    let there : NoOctet (still_start true items) rest kind = subst (λ (z : Bool). NoOctet z rest kind) (at_start items b s) here in
    record { before = items; rest = rest; begins = x; refused = inl (few, subst (λ (z : LabelFromStrErrorKind). NoOctet (still_start true items) rest z) (sym w) there) }

pub label_read : (cs items rest octets : List ℕ) → BeginsWithOctets true cs items rest → rest ≡ [] → length items ≤ 63 → octets ≡ items → IsOwnedLabelText cs octets
label_read cs items rest octets x e few o = subst (λ (z : List ℕ). IsOwnedLabelText cs z) (sym o) (subst (λ (z : List ℕ). BeginsWithOctets true cs items z) e x, few)

-- ---- an octet's symbol

no_control : (c d : ℕ) → c ≡ d → IsNotAsciiControl c → IsAsciiControl d → ⊥
no_control c d e h k = grind arith

pub cut_in_label : (cs : List ℕ) → cs ≡ [] → IsBrokenInLabel (92 ∷ cs) ShortInput
cut_in_label cs e = (([], ap (λ (x : List ℕ). 92 ∷ x) e, omega arith, tt), λ c rest p k. absurd (cc))

pub escape_in_label : {I : Type 0} (steps : I → Option ℕ → I → Type 0) (t : I) (c : ℕ) (cs rest : List ℕ) (r : Result Symbol SymbolCharsError) → cs ≡ c ∷ rest → IsNotAsciiControl c → GivesEscape steps (c ∷ rest) r t → GivesLabelEscape steps cs r t
escape_in_label steps t c cs rest (Ok s) e n g = (inl g.0, (g.1.0, ap (λ (x : List ℕ). 92 ∷ x) e ∙ g.1.1, g.1.2))
escape_in_label steps t c cs rest (Err f) e n g = (subst (λ (x : List ℕ). IsBroken (92 ∷ x) f) (sym e) g, λ d more p k. let same : c ≡ d = cc in no_control c d same n k)

pub char_octet : {I : Type 0} (steps : I → Option ℕ → I → Type 0) (t : I) (b : Bool) (c : ℕ) (cs : List ℕ) (r : Result ℕ LabelFromStrErrorKind) → c ≢ 92 → r ≡ label_octet b (Char c) → AlwaysYields steps (λ x. x) t cs → GivesOctet steps b (c ∷ cs) r t
char_octet steps t b c cs (Ok o) n e h = (cs, record { symbol = Char c; whole = inl n; spelled = refl; octet = sym e }, h)
char_octet steps t b c cs (Err k) n e h = inr (Char c, cs, inl n, refl, sym e)

pub escaped_octet : {I : Type 0} (steps : I → Option ℕ → I → Type 0) (t : I) (b : Bool) (c : ℕ) (cs : List ℕ) (s : Symbol) (r : Result ℕ LabelFromStrErrorKind) → c ≡ 92 → GivesLabelEscape steps cs (Ok s) t → r ≡ label_octet b s → GivesOctet steps b (c ∷ cs) r t
escaped_octet steps t b c cs s (Ok o) q g e = (g.1.0, record { symbol = s; whole = g.0; spelled = ap (λ x. x ∷ cs) q ∙ g.1.1; octet = sym e }, g.1.2)
escaped_octet steps t b c cs s (Err k) q g e = inr (s, g.1.0, g.0, ap (λ x. x ∷ cs) q ∙ g.1.1, sym e)

pub broken_octet : (b : Bool) (c : ℕ) (cs : List ℕ) (f : SymbolCharsError) → c ≡ 92 → IsBrokenInLabel (92 ∷ cs) f → NoOctet b (c ∷ cs) (SymbolChars f)
broken_octet b c cs f q g = inl (f, subst (λ (x : ℕ). IsBrokenInLabel (x ∷ cs) f) (sym q) g, refl)
