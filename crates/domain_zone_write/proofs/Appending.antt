-- Lines that are appended, one after another.
use Rattle.std.proofs.Common.{◌≡◌, ◌∙◌, ℕ, ◌+◌, ◌<◌, ◌≤◌, List, [], ◌∷◌, ◌++◌, suc, drop, get_or, OnOk, Result, Ok, Err, length, map, refl, sym, ap, subst, append_assoc, append-nil, add-one, drop-cons, arith}
use Rattle.std.specs.Fmt.{decimal}
use Rattle.std.specs.List.{AllZip, flat_map}
use Rattle.std.proofs.lemmas.List.{drop_all, get_or-map, length-map}
use Rattle.domain_header.specs.Tables.{class_text}
use Rattle.domain_label.specs.Wire.{Root, wire}
use Rattle.domain_rdata_text.specs.Laws.{AreOctets}
use Rattle.domain_rdata_text.specs.Names.{name_text}
use Rattle.domain_rdata_text.specs.Rtypes.{type_text}
use Rattle.domain_rdata_text.specs.Texts.{data_text, data_words}
use Rattle.domain_rdata_text.specs.Values.{Val}
use Rattle.domain_rdata_text.specs.Words.{joined}
use Rattle.domain_zone.specs.Building.{Inserted}
use Rattle.domain_zone_laws.specs.Zone.{Zone, RRset}
use Rattle.domain_zone_text.specs.Lines.{Written, record_line, record_lines}
use Rattle.domain_zone_write.proofs.Starting.{HasWord, has_word}
use Rattle.domain_zone_write.proofs.Members.{inserted_by}
use Rattle.domain_zone_write.specs.Texts.{AppendsLine, AppendsLines, HoldsData, IsLineOf, record_of, set_records, zone_records}

-- ---- the rest of a list
pub drop_here : {X Y : Type 0} (f : X → Y) (xs : List X) (i : ℕ) (x : X) → i < length xs → x ≡ get_or xs i x → drop i (map f xs) ≡ f x ∷ drop (i + 1) (map f xs)
drop_here {X} {Y} f xs i x lt is =
    let ys = map f xs in
    let inside : i < length ys = subst (λ (n : ℕ). i < n) (sym (length-map xs f)) lt in
    drop-cons ys i (f x) inside
    ∙ (ap (λ (y : Y). y ∷ drop (suc i) ys) (get_or-map f xs i x (f x) lt ∙ ap f (sym is))
    ∙ ap (λ (n : ℕ). f x ∷ drop n ys) (sym (add-one i)))

pub on_ok : {A E : Type 0} (r : Result A E) (P Q : Type 0) → (P → Q) → OnOk r P → OnOk r Q
on_ok (Ok x) P Q f h = f h
on_ok (Err e) P Q f h = tt

-- ---- one line
words_at : (a b c d u : List ℕ) (us : List (List ℕ))
    → ((((a ++ (32 ∷ (b ++ 32 ∷ (c ++ 32 ∷ [])))) ++ d) ++ 32 ∷ []) ++ joined (u ∷ us)) ++ 10 ∷ [] ≡ joined (a ∷ b ∷ c ∷ d ∷ u ∷ us) ++ 10 ∷ []
words_at a b c d u us = simp append_assoc refl

words_joined : (a b c d : List ℕ) (ws : List (List ℕ)) → HasWord ws
    → ((((a ++ (32 ∷ (b ++ 32 ∷ (c ++ 32 ∷ [])))) ++ d) ++ 32 ∷ []) ++ joined ws) ++ 10 ∷ [] ≡ joined (a ∷ b ∷ c ∷ d ∷ ws) ++ 10 ∷ []
words_joined a b c d ws (u, us, is) =
    subst (λ (x : List (List ℕ)). ((((a ++ (32 ∷ (b ++ 32 ∷ (c ++ 32 ∷ [])))) ++ d) ++ 32 ∷ []) ++ joined x) ++ 10 ∷ [] ≡ joined (a ∷ b ∷ c ∷ d ∷ x) ++ 10 ∷ []) (sym is)
    (words_at a b c d u us)

-- what comes before the data
abbrev before_data : List ℕ → List ℕ → List ℕ → List ℕ → List ℕ
before_data a b c d = ((a ++ (32 ∷ (b ++ 32 ∷ (c ++ 32 ∷ [])))) ++ d) ++ 32 ∷ []

-- The line of the parts that were appended.
pub line_made : (class : ℕ) (r : Inserted) (ls : List (List ℕ)) (vs : List Val) (one two three four five six : List ℕ) → ls ++ Root ≡ r.owner → AreOctets r.octets → AreOctets (wire r.owner)
    → HoldsData r.rtype class r.octets vs → one ≡ name_text ls → two ≡ one ++ (32 ∷ (decimal r.ttl ++ 32 ∷ (class_text class ++ 32 ∷ []))) → three ≡ two ++ type_text r.rtype
    → four ≡ three ++ 32 ∷ [] → five ≡ four ++ data_text vs → six ≡ five ++ 10 ∷ [] → (w : Written) × IsLineOf class r w × (six ≡ record_line w)
line_made class r ls vs one two three four five six owner low owner_low holds a b c d e f =
    let middle = 32 ∷ (decimal r.ttl ++ 32 ∷ (class_text class ++ 32 ∷ [])) in
    let second : two ≡ name_text ls ++ middle = b ∙ ap (λ (x : List ℕ). x ++ middle) a in
    let third : three ≡ (name_text ls ++ middle) ++ type_text r.rtype = c ∙ ap (λ (x : List ℕ). x ++ type_text r.rtype) second in
    let fourth : four ≡ before_data (name_text ls) (decimal r.ttl) (class_text class) (type_text r.rtype) = d ∙ ap (λ (x : List ℕ). x ++ 32 ∷ []) third in
    let fifth : five ≡ before_data (name_text ls) (decimal r.ttl) (class_text class) (type_text r.rtype) ++ data_text vs = e ∙ ap (λ (x : List ℕ). x ++ data_text vs) fourth in (
      record { owner = ls; ttl = r.ttl; class = class; rtype = r.rtype; values = vs },
      record { owner_is = owner; ttl_is = refl; class_is = refl; rtype_is = refl; holds = holds; octets = low; owner_octets = owner_low },
      f ∙ (ap (λ (x : List ℕ). x ++ 10 ∷ []) fifth
          ∙ words_joined (name_text ls) (decimal r.ttl) (class_text class) (type_text r.rtype) (data_words vs) (has_word r.rtype class r.octets vs low holds)),
    )

-- ---- several
pub lines_none : (class : ℕ) (text : List ℕ) → AppendsLines class [] text text
lines_none class text = ([], tt, sym (append-nil text))

pub lines_first : (class : ℕ) (r : Inserted) (rs : List Inserted) (a b c : List ℕ) → AppendsLine class r a b → AppendsLines class rs b c → AppendsLines class (r ∷ rs) a c
lines_first class r rs a b c (w, line, is) (ws, lines, are) =
    (w ∷ ws, (line, lines), are ∙ ap (λ (x : List ℕ). x ++ record_lines ws) is ∙ append_assoc a (record_line w) (record_lines ws))

zip_parts : {X Y : Type 0} (R : X → Y → Type 0) (xs us : List X) (ys vs : List Y) → AllZip R xs ys → AllZip R us vs → AllZip R (xs ++ us) (ys ++ vs)
zip_parts R [] us [] vs a b = b
zip_parts R [] us (y ∷ ys) vs a b = absurd a
zip_parts R (x ∷ xs) us [] vs a b = absurd a
zip_parts R (x ∷ xs) us (y ∷ ys) vs a b = (a.0, zip_parts R xs us ys vs a.1 b)

lines_parts : (us vs : List Written) → record_lines (us ++ vs) ≡ record_lines us ++ record_lines vs
lines_parts [] vs = refl
lines_parts (u ∷ us) vs = ap (λ (x : List ℕ). record_line u ++ x) (lines_parts us vs) ∙ sym (append_assoc (record_line u) (record_lines us) (record_lines vs))

pub lines_both : (class : ℕ) (rs qs : List Inserted) (a b c : List ℕ) → AppendsLines class rs a b → AppendsLines class qs b c → AppendsLines class (rs ++ qs) a c
lines_both class rs qs a b c (us, first, is) (vs, others, are) = (
  us ++ vs,
  zip_parts (IsLineOf class) rs qs us vs first others,
  are ∙ (ap (λ (x : List ℕ). x ++ record_lines vs) is ∙ (append_assoc a (record_lines us) (record_lines vs) ∙ ap (λ (x : List ℕ). a ++ x) (sym (lines_parts us vs)))),
)

-- ---- going over the data of an RRset, and over the RRsets of a zone
pub same_record : (o p : List (List ℕ)) (k n m : ℕ) (d e : List ℕ) → o ≡ p → n ≡ m → d ≡ e → inserted_by o k n d ≡ inserted_by p k m e
same_record o p k n m d e a b c =
    ap (λ (x : List (List ℕ)). inserted_by x k n d) a ∙ (ap (λ (x : ℕ). inserted_by p k x d) b ∙ ap (λ (x : List ℕ). inserted_by p k m x) c)

module _ (class : ℕ) (start : List ℕ) where
  module _ {X : Type 0} (f : X → List ℕ) (s : RRset) (xs : List X) (data_is : map f xs ≡ s.rdata) (i : ℕ) (text : List ℕ)
      (so_far : (new : List ℕ) → AppendsLines class (map (record_of s) (drop i s.rdata)) text new → AppendsLines class (set_records s) start new) where
    pub set_step : (x : X) (more : List ℕ) → i < length xs → x ≡ get_or xs i x → AppendsLine class (record_of s (f x)) text more
        → (new : List ℕ) → AppendsLines class (map (record_of s) (drop (i + 1) s.rdata)) more new → AppendsLines class (set_records s) start new
    set_step x more lt is line new others =
        let next : drop i s.rdata ≡ f x ∷ drop (i + 1) s.rdata = subst (λ (l : List (List ℕ)). drop i l ≡ f x ∷ drop (i + 1) l) data_is (drop_here f xs i x lt is) in
        so_far new (subst (λ (l : List (List ℕ)). AppendsLines class (map (record_of s) l) text new) (sym next)
        (lines_first class (record_of s (f x)) (map (record_of s) (drop (i + 1) s.rdata)) text more new line others))

    pub set_end : length xs ≤ i → AppendsLines class (set_records s) start text
    set_end past =
        let none : drop i s.rdata ≡ [] = drop_all i s.rdata (omega (arith, past, length-map xs f, ap (λ (l : List (List ℕ)). length l) data_is)) in
        so_far text (subst (λ (l : List (List ℕ)). AppendsLines class (map (record_of s) l) text text) (sym none) (lines_none class text))

  module _ {X : Type 0} (f : X → RRset) (z : Zone) (xs : List X) (sets_are : map f xs ≡ z.rrsets) (i : ℕ) (text : List ℕ)
      (so_far : (new : List ℕ) → AppendsLines class (flat_map set_records (drop i z.rrsets)) text new → AppendsLines class (zone_records z) start new) where
    pub zone_step : (x : X) (more : List ℕ) → i < length xs → x ≡ get_or xs i x → AppendsLines class (set_records (f x)) text more
        → (new : List ℕ) → AppendsLines class (flat_map set_records (drop (i + 1) z.rrsets)) more new → AppendsLines class (zone_records z) start new
    zone_step x more lt is lines new others =
        let next : drop i z.rrsets ≡ f x ∷ drop (i + 1) z.rrsets = subst (λ (l : List RRset). drop i l ≡ f x ∷ drop (i + 1) l) sets_are (drop_here f xs i x lt is) in
        so_far new (subst (λ (l : List RRset). AppendsLines class (flat_map set_records l) text new) (sym next)
        (lines_both class (set_records (f x)) (flat_map set_records (drop (i + 1) z.rrsets)) text more new lines others))

    pub zone_end : length xs ≤ i → AppendsLines class (zone_records z) start text
    zone_end past =
        let none : drop i z.rrsets ≡ [] = drop_all i z.rrsets (omega (arith, past, length-map xs f, ap (λ (l : List RRset). length l) sets_are)) in
        so_far text (subst (λ (l : List RRset). AppendsLines class (flat_map set_records l) text text) (sym none) (lines_none class text))
