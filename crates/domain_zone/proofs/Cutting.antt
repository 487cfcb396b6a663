-- The first cut, found among the suffixes of a name.
use Rattle.std.proofs.Common.{◌≡◌, ℕ, ◌⊎◌, List, [], ◌∷◌, Option, Some, None, MatchOption, refl, sym, ◌∙◌, subst, inl, inr, ⊎_elim}
use Rattle.std.specs.Borrow.{Bor}
use Rattle.std.proofs.lemmas.List.Elements.{All-contains}
use Rattle.domain_label.specs.Wire.{IsAbsoluteName}
use Rattle.domain_flat.specs.Flat.{suffix_lists}
use Rattle.domain_list.specs.Ends.{EndsWith}
use Rattle.domain_list.specs.Order.{SameLabels}
use Rattle.domain_zone.proofs.Enclosing.{Names, none_left_by, absolute_some}
use Rattle.domain_zone_laws.specs.Zone.{Zone, RRset, IsZone, IsAt, HasType, IsCut, HasNoCut, IsFirstCut, NS}
use Rattle.domain_zone_laws.proofs.Ending.{same_ends, ends_after, ends_below, ends_step, ends_none, ends_same, same_then, both_ends}
use Rattle.domain_zone_laws.proofs.Nodes.{has_same}
use Rattle.domain_zone_laws.specs.declared.zone.Rrset.{Rrset}
use Rattle.domain_zone_laws.specs.Views.{rrset}

-- the cut b is the first of those over q that aren't above rest
pub record IsFirstSoFar (z : Zone) (q rest : Names) (b : RRset) : Type 0 where
  pub at : IsAt z b.owner NS b
  pub cut : IsCut z b.owner
  pub over : EndsWith q b.owner
  pub below : EndsWith b.owner rest
  pub first : (d : Names) → IsCut z d → EndsWith q d → EndsWith d b.owner ⊎ EndsWith rest d

abbrev pub CutSoFar : Zone → Names → Names → Option RRset → Type 0
CutSoFar z q rest None = (d : Names) → IsCut z d → EndsWith q d → EndsWith rest d
CutSoFar z q rest (Some b) = IsFirstSoFar z q rest b

-- what is left of the search
abbrev pub SearchesCut : Zone → Names → Option RRset → List Names → Type 0
SearchesCut z q first left = (rest : Names) × (left ≡ suffix_lists rest) × EndsWith q rest × CutSoFar z q rest first

cons_no_nil : {A : Type 0} (x : A) (xs : List A) → x ∷ xs ≡ [] → ⊥
cons_no_nil x xs e = cc

first_same : {A : Type 0} (x y : A) (xs ys : List A) → x ∷ xs ≡ y ∷ ys → x ≡ y
first_same x y xs ys e = cc

rest_same : {A : Type 0} (x y : A) (xs ys : List A) → x ∷ xs ≡ y ∷ ys → xs ≡ ys
rest_same x y xs ys e = cc

-- no cut is at a name without name servers
not_here : (z : Zone) (l : List ℕ) (ls d : Names) → (HasType z (l ∷ ls) NS → ⊥) → IsCut z d → EndsWith (l ∷ ls) d → EndsWith ls d
not_here z l ls d n c h = ⊎_elim (λ (s : SameLabels (l ∷ ls) d). absurd (n (has_same z NS d (l ∷ ls) (sym s) c.2))) (λ g. g) (ends_step l ls d h)

passed : (z : Zone) (q ls : Names) (l : List ℕ) (first : Option RRset) → (HasType z (l ∷ ls) NS → ⊥) → CutSoFar z q (l ∷ ls) first → CutSoFar z q ls first
passed z q ls l None n k = λ d c h. not_here z l ls d n c (k d c h)
passed z q ls l (Some b) n k = record {
  at = k.at;
  cut = k.cut;
  over = k.over;
  below = ends_after b.owner (l ∷ ls) ls k.below (ends_below l ls);
  first = λ d c h. ⊎_elim (λ g. inl g) (λ g. inr (not_here z l ls d n c g)) (k.first d c h);
}

-- at a name that is a cut all cuts seen before are below it
all_below : (z : Zone) (q rest : Names) (first : Option RRset) → CutSoFar z q rest first → (d : Names) → IsCut z d → EndsWith q d → EndsWith d rest ⊎ EndsWith rest d
all_below z q rest None k d c h = inr (k d c h)
all_below z q rest (Some b) k d c h = ⊎_elim (λ g. inl (ends_after d b.owner rest g k.below)) (λ g. inr g) (k.first d c h)

taken : (z : Zone) (q ls : Names) (l : List ℕ) (first : Option RRset) (b : RRset) → IsZone z → (SameLabels (l ∷ ls) z.apex → ⊥) → IsAt z (l ∷ ls) NS b → EndsWith q (l ∷ ls) → CutSoFar z q (l ∷ ls) first → IsFirstSoFar z q ls b
taken z q ls l first b w apart a over k =
    let inside = (All-contains (λ (r : RRset). IsAbsoluteName r.owner × EndsWith r.owner z.apex) z.rrsets b w.names a.0).1 in
    let here : IsAt z b.owner NS b = (a.0, refl, a.2) in
    record {
      at = here;
      cut = (inside, λ s. apart (sym a.1 ∙ s), (b, here));
      over = ends_same q (l ∷ ls) b.owner (sym a.1) over;
      below = same_then b.owner (l ∷ ls) ls a.1 (ends_below l ls);
      first = λ d c h. ⊎_elim
          (λ (g : EndsWith d (l ∷ ls)). inl (ends_same d (l ∷ ls) b.owner (sym a.1) g))
          (λ (g : EndsWith (l ∷ ls) d). ⊎_elim (λ (s : SameLabels (l ∷ ls) d). inl (same_ends d b.owner (sym s ∙ sym a.1))) (λ v. inr v) (ends_step l ls d g))
          (all_below z q (l ∷ ls) first k d c h);
    }

on_by : (z : Zone) (q rest x : Names) (xs : List Names) (first : Option RRset) → x ∷ xs ≡ suffix_lists rest → EndsWith q rest → CutSoFar z q rest first → (HasType z x NS → ⊥) → SearchesCut z q first xs
on_by z q [] x xs first e h k n = absurd (cons_no_nil x xs e)
on_by z q (l ∷ ls) x xs first e h k n =
    let same = first_same x (l ∷ ls) xs (suffix_lists ls) e in
    (ls, rest_same x (l ∷ ls) xs (suffix_lists ls) e, ends_after q (l ∷ ls) ls h (ends_below l ls), passed z q ls l first (subst (λ m. HasType z m NS → ⊥) same n) k)

-- the search goes on after a name without name servers
pub cut_on : (z : Zone) (q x : Names) (xs left : List Names) (first : Option RRset) → left ≡ x ∷ xs → SearchesCut z q first left → (HasType z x NS → ⊥) → SearchesCut z q first xs
cut_on z q x xs left first e (rest, f, h, k) n = on_by z q rest x xs first (sym e ∙ f) h k n

take_by : (z : Zone) (q rest x : Names) (xs : List Names) (first : Option RRset) (b : RRset) → IsZone z → x ∷ xs ≡ suffix_lists rest → EndsWith q rest → CutSoFar z q rest first → (SameLabels x z.apex → ⊥) → IsAt z x NS b → SearchesCut z q (Some b) xs
take_by z q [] x xs first b w e h k n a = absurd (cons_no_nil x xs e)
take_by z q (l ∷ ls) x xs first b w e h k n a =
    let same = first_same x (l ∷ ls) xs (suffix_lists ls) e in (
      ls,
      rest_same x (l ∷ ls) xs (suffix_lists ls) e,
      ends_after q (l ∷ ls) ls h (ends_below l ls),
      taken z q ls l first b w (subst (λ m. SameLabels m z.apex → ⊥) same n) (subst (λ m. IsAt z m NS b) same a) h k,
    )

-- and after one with them
pub cut_taken : (z : Zone) (q x : Names) (xs left : List Names) (first : Option RRset) (b : RRset) → IsZone z → left ≡ x ∷ xs → SearchesCut z q first left → (SameLabels x z.apex → ⊥) → IsAt z x NS b → SearchesCut z q (Some b) xs
cut_taken z q x xs left first b w e (rest, f, h, k) n a = take_by z q rest x xs first b w (sym e ∙ f) h k n a

-- once no cut is above rest
ended : (z : Zone) (q rest : Names) (first : Option RRset) → ((d : Names) → IsCut z d → EndsWith rest d → ⊥) → CutSoFar z q rest first → MatchOption first (HasNoCut z q) (λ b. IsFirstCut z q b.owner × IsAt z b.owner NS b)
ended z q rest None n k = λ d c h. n d c (k d c h)
ended z q rest (Some b) n k = ((k.cut, k.over, λ d c h. ⊎_elim (λ (g : EndsWith d b.owner). g) (λ g. absurd (n d c g)) (k.first d c h)), k.at)

at_apex_by : (z : Zone) (q rest x : Names) (xs : List Names) (first : Option RRset) → x ∷ xs ≡ suffix_lists rest → SameLabels x z.apex → CutSoFar z q rest first → MatchOption first (HasNoCut z q) (λ b. IsFirstCut z q b.owner × IsAt z b.owner NS b)
at_apex_by z q [] x xs first e s k = absurd (cons_no_nil x xs e)
at_apex_by z q (l ∷ ls) x xs first e s k =
    let same : SameLabels (l ∷ ls) z.apex = subst (λ m. SameLabels m z.apex) (first_same x (l ∷ ls) xs (suffix_lists ls) e) s in
    ended z q (l ∷ ls) first (λ d c g. c.1 (both_ends d z.apex c.0 (same_then z.apex (l ∷ ls) d (sym same) g))) k

-- at the apex
pub at_apex : (z : Zone) (q x : Names) (xs left : List Names) (first : Option RRset) → left ≡ x ∷ xs → SearchesCut z q first left → SameLabels x z.apex → MatchOption first (HasNoCut z q) (λ b. IsFirstCut z q b.owner × IsAt z b.owner NS b)
at_apex z q x xs left first e (rest, f, h, k) s = at_apex_by z q rest x xs first (sym e ∙ f) s k

-- after the last suffix
pub after_last : (z : Zone) (q : Names) (left : List Names) (first : Option RRset) → IsZone z → left ≡ [] → SearchesCut z q first left → MatchOption first (HasNoCut z q) (λ b. IsFirstCut z q b.owner × IsAt z b.owner NS b)
after_last z q left first w e (rest, f, h, k) =
    let none = none_left_by rest (sym e ∙ f) in
    let s = w.soa.0 in
    let at = w.soa.1 in
    let whole = (All-contains (λ (r : RRset). IsAbsoluteName r.owner × EndsWith r.owner z.apex) z.rrsets s w.names at.0).0.0 in
    ended z q rest first (λ d c g. absolute_some s.owner (at.1 ∙ sym (ends_none z.apex (ends_after [] d z.apex (subst (λ r. EndsWith r d) none g) c.0))) whole) k

-- a set that is borrowed, as an RRset
abbrev pub viewed : {N : Type 0} → (N → Names) → Option (Bor (Rrset N)) → Option RRset
viewed labels None = None
viewed labels (Some b) = Some (rrset labels b.now)

-- what is known of the RRset is known of the set
pub of_viewed : {N : Type 0} (labels : N → Names) (P : Type 0) (Q : RRset → Type 0) (first : Option (Bor (Rrset N))) → MatchOption (viewed labels first) P Q → MatchOption first P (λ s. Q (rrset labels s.now))
of_viewed labels P Q None h = h
of_viewed labels P Q (Some b) h = h
