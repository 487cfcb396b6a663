-- What holds while a name is read.
use Rattle.std.proofs.Common.{◌≡◌, ℕ, ◌+◌, ◌*◌, ◌^◌, ◌≤◌, ◌<◌, ◌⊎◌, inl, inr, List, [], ◌∷◌, ◌++◌, length, refl, sym, ap, subst, arith, ◌∙◌, Bool, true, false, length-append, add-one, Option, Some, None, MatchOption, unwrap_or, ◌≢◌}
use Rattle.std.proofs.lemmas.Bool.{cases_lt, false≢true, true≢false}
use Rattle.std.proofs.lemmas.Bool.Decides.{eqb_tells}
use Rattle.domain_label.specs.Wire.{wire}
use Rattle.domain_reading.specs.Grammar.{LabelAt, PointerAt, LabelRun, Encoding, FirstLabelAt}
use Rattle.domain_reading.specs.Grammar.FirstLabelAt.{past as base_past}
use Rattle.domain_reading.specs.Faults.{Followed, start, past_label, past_pointer, NameFaultAt, StepFaultAt}
use Rattle.domain_reading.specs.Heads.{BrokenAt}
use Rattle.domain_reading.specs.declared.fault.NameFault.{NameFault}
use Rattle.domain_reading.specs.declared.fault.NameFault.TheVariants.{ShortInput, BadLabelType, TooManyPointers, LongName}
use Rattle.domain_reading.specs.Grammar.Stop.{pointer}
use Rattle.domain_reading.specs.Progress.{beginning, entry_of, table_noted, label_passed, pointer_followed}
use Rattle.domain_reading.specs.declared.progress.Progress.{Progress}
use Rattle.domain_label.proofs.WireLaws.{length-wire_append, nil_from_wire}
use Rattle.domain_reading.proofs.LabelsOfTable.{Noted, note, no_label, label_offset, next_near}

-- pointers alone lead from p to b, each one back
pub data Leads (m : List ℕ) (p : ℕ) : ℕ → Type 0 where
  here : Leads m p p
  past : {r q : ℕ} → Leads m p r → PointerAt m r q → q < r → Leads m p q

-- the base of where they lead to is the base of p
pub leads_base : {m : List ℕ} {p r b : ℕ} → Leads m p r → FirstLabelAt m r b → FirstLabelAt m p b
leads_base here b = b
leads_base (past w x lt) b = leads_base w (base_past x lt b)

pub record Going (n : ℕ) (m : List ℕ) (p : ℕ) (w : Progress) (table : List ℕ) (fs : List (List ℕ)) : Type 0 where
  pub walk : Followed n m p w.pointers fs w.at
  pub len : w.len ≡ length (wire fs)
  pub short : w.len ≤ 254
  pub few_labels : 2 * length fs ≤ w.len
  pub few_pointers : w.pointers ≤ n
  pub leads : Leads m p w.base
  pub near : w.len ≡ 0 → w.base ≡ w.at
  pub plain : w.len ≡ 0 → w.compressed ≡ false
  pub last : 0 < w.len → (q : ℕ) → PointerAt m w.base q → w.base ≤ q
  pub front : MatchOption w.end (LabelRun m p fs w.at) (λ e. (gs : List (List ℕ)) × (q : ℕ) × Encoding m p gs (pointer q) e)
  pub flat : w.compressed ≡ false → LabelRun m w.base fs w.at
  pub noted : Noted m w.base table w.count fs
  pub near_at : w.compressed ≡ false → w.at ≡ w.base + w.len
  pub far_at : w.compressed ≡ true → w.at ≤ 16383 + w.len
  pub is_compressed : w.compressed ≡ true → (gs : List (List ℕ)) × (q : ℕ) × (e : ℕ) × Encoding m w.base gs (pointer q) e

pub flat_label : {m : List ℕ} {r : ℕ} {l : List ℕ} (fs : List (List ℕ)) (p : ℕ) → LabelRun m p fs r → LabelAt m r l → LabelRun m p (fs ++ l ∷ []) (r + 1 + length l)
flat_label {m} {r} {l} [] p e x = (subst (λ a. LabelAt m a l) (sym e) x, ap (λ a. a + 1 + length l) e)
flat_label (f ∷ fs) p a x = (a.0, flat_label fs (p + 1 + length f) a.1 x)

match_none : {A B : Type 0} (C : ℕ → Type 0) (o : Option ℕ) → (A → B) → MatchOption o A C → MatchOption o B C
match_none C None f a = f a
match_none C (Some e) f c = c

not_both : {m : List ℕ} {p q : ℕ} {l : List ℕ} → LabelAt m p l → PointerAt m p q → ⊥
not_both x y = omega arith

front_pointer : {m : List ℕ} {r q : ℕ} (p : ℕ) (fs : List (List ℕ)) (end : Option ℕ) → MatchOption end (LabelRun m p fs r) (λ e. (gs : List (List ℕ)) × (q : ℕ) × Encoding m p gs (pointer q) e) → PointerAt m r q
    → (gs : List (List ℕ)) × (q : ℕ) × Encoding m p gs (pointer q) (unwrap_or end (r + 2))
front_pointer {r = r} {q} p fs None a x = (fs, q, record { stop = r; run = a; ends = (x, refl) })
front_pointer p fs (Some e) a x = a

scattered_now : {m : List ℕ} {r q : ℕ} (b : ℕ) (fs : List (List ℕ)) (compressed : Bool) → (compressed ≡ false → LabelRun m b fs r) → (compressed ≡ true → (gs : List (List ℕ)) × (q : ℕ) × (e : ℕ) × Encoding m b gs (pointer q) e) → PointerAt m r q
    → (gs : List (List ℕ)) × (q : ℕ) × (e : ℕ) × Encoding m b gs (pointer q) e
scattered_now {r = r} {q} b fs false flat scattered x = (fs, q, r + 2, record { stop = r; run = flat refl; ends = (x, refl) })
scattered_now b fs true flat scattered x = scattered refl

pub going_start : (n : ℕ) (m : List ℕ) (p : ℕ) (es : List ℕ) → length es ≡ 128 → Going n m p (beginning p) es []
going_start n m p es room = record {
  walk = start;
  len = refl;
  short = omega arith;
  few_labels = omega arith;
  few_pointers = omega arith;
  leads = here;
  near = λ _. refl;
  plain = λ _. refl;
  last = λ h. absurd (omega arith);
  front = refl;
  flat = λ _. refl;
  noted = no_label m p es room;
  near_at = λ _. omega arith;
  far_at = λ h. cc;
  is_compressed = λ h. cc;
}

pub going_label : {n : ℕ} {m : List ℕ} {p : ℕ} {w : Progress} {es : List ℕ} {fs : List (List ℕ)} {l : List ℕ} → Going n m p w es fs → LabelAt m w.at l → w.len + 1 + length l ≤ 254 → Going n m p (label_passed w (length l)) (table_noted w es) (fs ++ l ∷ [])
going_label {m = m} {p} {w} {es} {fs} {l} g x short = record {
  walk = past_label g.walk x (omega (arith, g.len));
  len = omega (arith, g.len, length-wire_append fs (l ∷ []), length-append l []);
  short = omega arith;
  few_labels = omega (arith, length-append fs (l ∷ []), x.nonempty);
  few_pointers = omega arith;
  leads = g.leads;
  near = λ h. absurd (omega arith);
  plain = λ h. absurd (omega arith);
  last = λ h q y. elim (cases_lt 0 w.len) [
    | inl some ↦ g.last some q y
    | inr none ↦ absurd (not_both x (subst (λ b. PointerAt m b q) (g.near (omega arith)) y))
  ];
  front = match_none _ w.end (λ a. flat_label fs p a x) g.front;
  flat = λ h. flat_label fs w.base (g.flat h) x;
  noted = let p = label_offset m l w.at x in note (entry_of w) g.noted (next_near w.base w.at w.len w.compressed g.short g.near_at) p.0 p.1 (omega (arith, g.noted.count, g.few_labels, g.short));
  near_at = λ h. omega (arith, g.near_at h);
  far_at = λ h. omega (arith, g.far_at h);
  is_compressed = g.is_compressed;
}

going_first : {n : ℕ} {m : List ℕ} {p : ℕ} {w : Progress} {es : List ℕ} {fs : List (List ℕ)} {q : ℕ} → Going n m p w es fs → PointerAt m w.at q → q < w.at → w.pointers < n → w.len ≡ 0
    → Going n m p (record { at = q; base = q; len = w.len; pointers = w.pointers + 1; compressed = w.compressed; end = Some (unwrap_or w.end (w.at + 2)); count = w.count }) es fs
going_first {m = m} {p} {w} {es} {fs} {q} g x back few none =
    let e : fs ≡ [] = nil_from_wire fs (sym g.len ∙ none) in
    record {
      walk = rw add-one (past_pointer g.walk x back (omega arith));
      len = g.len;
      short = g.short;
      few_labels = g.few_labels;
      few_pointers = omega arith;
      leads = past g.leads (subst (λ b. PointerAt m b q) (sym (g.near none)) x) (omega (arith, g.near none));
      near = λ _. refl;
      plain = g.plain;
      last = λ h. absurd (omega arith);
      front = front_pointer p fs w.end g.front x;
      flat = λ _. subst (λ xs. LabelRun m q xs q) (sym e) refl;
      noted = let z : w.count ≡ 0 = g.noted.count ∙ ap (λ xs. length xs) e in rw (z, e) (no_label m q es g.noted.room);
      near_at = λ _. omega (arith, none);
      far_at = λ h. absurd (false≢true (sym (g.plain none) ∙ h));
      is_compressed = λ h. absurd (false≢true (sym (g.plain none) ∙ h));
    }

going_later : {n : ℕ} {m : List ℕ} {p : ℕ} {w : Progress} {es : List ℕ} {fs : List (List ℕ)} {q : ℕ} → Going n m p w es fs → PointerAt m w.at q → q < 2 ^ 14 → q < w.at → w.pointers < n → w.len ≢ 0
    → Going n m p (record { at = q; base = w.base; len = w.len; pointers = w.pointers + 1; compressed = true; end = Some (unwrap_or w.end (w.at + 2)); count = w.count }) es fs
going_later {m = m} {p} {w} {es} {fs} {q} g x low back few some = record {
  walk = rw add-one (past_pointer g.walk x back (omega arith));
  len = g.len;
  short = g.short;
  few_labels = g.few_labels;
  few_pointers = omega arith;
  leads = g.leads;
  near = λ h. absurd (some h);
  plain = λ h. absurd (some h);
  last = g.last;
  front = front_pointer p fs w.end g.front x;
  flat = λ h. absurd (true≢false h);
  noted = g.noted;
  near_at = λ h. absurd (true≢false h);
  far_at = λ _. omega (arith, low);
  is_compressed = λ _. scattered_now w.base fs w.compressed g.flat g.is_compressed x;
}

pub going_pointer : {n : ℕ} {m : List ℕ} {p : ℕ} {w : Progress} {es : List ℕ} {fs : List (List ℕ)} {q : ℕ} → Going n m p w es fs → PointerAt m w.at q → q < 2 ^ 14 → q < w.at → w.pointers < n → Going n m p (pointer_followed w q) es fs
going_pointer {w = w} g x low back few = elim (eqb_tells w.len 0) [
  | inl none ↦ rw none.0 (going_first g x back few none.1)
  | inr some ↦ rw some.0 (going_later g x low back few some.1)
]

-- what was passed so far, with a head counted for each label and each pointer
abbrev pub Goes : ℕ → List ℕ → ℕ → Progress → List ℕ → ℕ → ℕ → Type 0
Goes n m p w table before now = (passed : List (List ℕ)) × Going n m p w table passed × (now ≡ before + length passed + w.pointers)

pub goes_start : (n : ℕ) (m : List ℕ) (p heads : ℕ) {w : Progress} {es : List ℕ} → w ≡ beginning p → length es ≡ 128 → Goes n m p w es heads heads
goes_start n m p heads {es = es} e room = subst (λ w. Goes n m p w es heads heads) (sym e) ([], going_start n m p es room, omega arith)

pub goes_label : {n : ℕ} {m : List ℕ} {p : ℕ} {w w' : Progress} {es es' : List ℕ} (before heads now o : ℕ) → Goes n m p w es before heads → (l : List ℕ) × (length l ≡ o) × LabelAt m w.at l → w.len + 1 + o ≤ 254 → (w' ≡ label_passed w o) × (es' ≡ table_noted w es) → now ≡ heads + 1 → Goes n m p w' es' before now
goes_label {w = w} before heads now o g x short e count =
    rw (e.0, e.1) (rw (← x.1) (g.0 ++ x.0 ∷ [], going_label g.1 x.2 (omega (arith, x.1)), omega (arith, g.2, length-append g.0 (x.0 ∷ []))))

pub goes_pointer : {n : ℕ} {m : List ℕ} {p : ℕ} {w w' : Progress} {es : List ℕ} {q : ℕ} (before heads now : ℕ) → Goes n m p w es before heads → PointerAt m w.at q × (q < 2 ^ 14) → (q < w.at) × (w.pointers < n) → w' ≡ pointer_followed w q → now ≡ heads + 1 → Goes n m p w' es before now
goes_pointer before heads now g x back e count = rw e (g.0, going_pointer g.1 x.0 x.1 back.0 back.1, omega (arith, g.2))

pub broken_fault : (n : ℕ) (m : List ℕ) (r k : ℕ) (fs : List (List ℕ)) (e : NameFault) → BrokenAt m r e → StepFaultAt n m k fs r e
broken_fault n m r k fs ShortInput b = b
broken_fault n m r k fs BadLabelType b = b
broken_fault n m r k fs TooManyPointers b = absurd b
broken_fault n m r k fs LongName b = absurd b

pub goes_fault : {n : ℕ} {m : List ℕ} {p : ℕ} {w : Progress} {es : List ℕ} {e : NameFault} (before heads now : ℕ) → (g : Goes n m p w es before heads) → StepFaultAt n m w.pointers g.0 w.at e → now ≡ heads + 1 → (f : NameFaultAt n m p e) × (now ≡ before + length f.passed + f.pointers + 1)
goes_fault {w = w} before heads now g f count =
    (record { pointers = w.pointers; passed = g.0; stopped = w.at; walk = g.1.walk; at = f }, omega (arith, g.2))

pub long_fault : {n : ℕ} {m : List ℕ} {p : ℕ} {w : Progress} {es : List ℕ} {fs : List (List ℕ)} {e : NameFault} (o : ℕ) → Going n m p w es fs → (l : List ℕ) × (length l ≡ o) × LabelAt m w.at l → (e ≡ LongName) × (254 < w.len + 1 + o) → StepFaultAt n m w.pointers fs w.at e
long_fault {w = w} o g x long = rw long.0 (x.0, x.2, omega (arith, g.len, x.1, long.1))

pub follow_fault : {n : ℕ} {m : List ℕ} {r k q : ℕ} {e : NameFault} (fs : List (List ℕ)) → PointerAt m r q × (q < 2 ^ 14) → (e ≡ TooManyPointers) × ((r ≤ q) ⊎ (k ≡ n)) → StepFaultAt n m k fs r e
follow_fault {q = q} fs x bad = rw bad.0 (q, x.0, bad.1)

-- no more heads than 127 labels, n pointers and one
pub goes_few : {n : ℕ} {m : List ℕ} {p : ℕ} {w : Progress} {es : List ℕ} (before heads : ℕ) → Goes n m p w es before heads → heads + 1 ≤ before + 128 + n
goes_few before heads g = omega (arith, g.2, g.1.short, g.1.few_labels, g.1.few_pointers)
