-- What holds while a name is passed over.
use Rattle.std.proofs.Common.{◌≡◌, ℕ, zero, suc, ◌⊎◌, ◌+◌, ◌≤◌, ◌<◌, inl, inr, List, [], ◌∷◌, ◌++◌, length, refl, arith, length-append}
use Rattle.domain_label.specs.Wire.{wire}
use Rattle.domain_reading.specs.Heads.{BrokenAt}
use Rattle.domain_reading.specs.Grammar.{OctetAt, LabelAt, PointerAt, LabelRun}
use Rattle.domain_reading.specs.Grammar.Stop.{root, pointer}
use Rattle.domain_reading.specs.Faults.{Skips, SkipFault, SkipFaultAt}
use Rattle.domain_reading.specs.declared.fault.NameFault.{NameFault}
use Rattle.domain_reading.specs.declared.fault.NameFault.TheVariants.{ShortInput, BadLabelType, TooManyPointers, LongName}
use Rattle.domain_label.proofs.WireLaws.{length-wire_append}
use Rattle.domain_reading.proofs.NameOrFault.{head_at, is_root, is_label, is_pointer, is_cut, is_bad}
use Rattle.domain_reading.proofs.WhileReading.{flat_label}
use Rattle.std.proofs.lemmas.Bool.{cases_lt}

pub record Skipping (m : List ℕ) (p at len : ℕ) : Type 0 where
  pub passed : List (List ℕ)
  pub run : LabelRun m p passed at
  pub wire_len : len ≡ length (wire passed)
  pub short : len ≤ 255

pub skip_start : (m : List ℕ) (p : ℕ) → Skipping m p p 0
skip_start m p = record { passed = []; run = refl; wire_len = refl; short = omega arith }

pub skip_label : {m : List ℕ} {p at len k : ℕ} (n n' : ℕ) → Skipping m p at len → (l : List ℕ) × (length l ≡ k) × LabelAt m at l → n ≡ k → n' ≡ k → len + 1 + n ≤ 255 → Skipping m p (at + 1 + n') (len + 1 + n)
skip_label n n' s x e e' short =
    let k : length x.0 ≡ n = omega (arith, x.1, e) in
    let k' : length x.0 ≡ n' = omega (arith, x.1, e') in
    rw (← k') (rw (← k) (record {
      passed = s.passed ++ x.0 ∷ [];
      run = flat_label s.passed _ s.run x.2;
      wire_len = omega (arith, s.wire_len, length-wire_append s.passed (x.0 ∷ []), length-append x.0 []);
      short = omega (arith, k);
    }))

broken_at : (m : List ℕ) (r : ℕ) (fs : List (List ℕ)) (e : NameFault) → BrokenAt m r e → SkipFaultAt m fs r e
broken_at m r fs ShortInput b = b
broken_at m r fs BadLabelType b = b
broken_at m r fs TooManyPointers b = absurd b
broken_at m r fs LongName b = absurd b

pub skip_broken : {m : List ℕ} {p at len : ℕ} (e : NameFault) → Skipping m p at len → BrokenAt m at e → SkipFault m p e
skip_broken {m} {at = at} e s b = record { passed = s.passed; stopped = at; run = s.run; short = omega (arith, s.wire_len, s.short); at = broken_at m at s.passed e b }

pub skip_long : {m : List ℕ} {p at len k : ℕ} (n : ℕ) → Skipping m p at len → (l : List ℕ) × (length l ≡ k) × LabelAt m at l → n ≡ k → 255 < len + 1 + n → SkipFault m p LongName
skip_long {at = at} n s x e long = record { passed = s.passed; stopped = at; run = s.run; short = omega (arith, s.wire_len, s.short); at = inr (x.0, x.2, omega (arith, s.wire_len, x.1, e)) }

pub skip_long_root : {m : List ℕ} {p at len : ℕ} → Skipping m p at len → OctetAt m at 0 → len ≡ 255 → SkipFault m p LongName
skip_long_root {at = at} s x long = record { passed = s.passed; stopped = at; run = s.run; short = omega (arith, s.wire_len, s.short); at = inl (x, omega (arith, s.wire_len)) }

pub skip_root : {m : List ℕ} {p at len : ℕ} → Skipping m p at len → OctetAt m at 0 → (len ≡ 255 → ⊥) → Skips m p (at + 1)
skip_root {at = at} s x some = record { passed = s.passed; stop = root; front = record { stop = at; run = s.run; ends = (x, refl) }; short = omega (arith, s.wire_len, s.short) }

pub skip_pointer : {m : List ℕ} {p at len q : ℕ} → Skipping m p at len → PointerAt m at q → Skips m p (at + 2)
skip_pointer {at = at} {q = q} s x = record { passed = s.passed; stop = pointer q; front = record { stop = at; run = s.run; ends = (x, refl) }; short = omega (arith, s.wire_len, s.short) }

-- ---- one of the two always holds

skip_from : (fuel : ℕ) {m : List ℕ} {p at len : ℕ} → Skipping m p at len → 256 ≤ fuel + len → ((e : ℕ) × Skips m p e) ⊎ ((d : NameFault) × SkipFault m p d)
skip_from zero s enough = absurd (omega (arith, s.short))
skip_from (suc fuel) {m} {p} {at} {len} s enough = elim (head_at m at) [
  | is_root x ↦ elim (cases_lt len 255) [
    | inl few ↦ inl (at + 1, skip_root s x (λ full. omega (arith, few, full)))
    | inr full ↦ inr (LongName, skip_long_root s x (omega (arith, s.short)))
  ]
  | is_label l x ↦ elim (cases_lt 255 (len + 1 + length l)) [
    | inl long ↦ inr (LongName, skip_long (length l) s (l, refl, x) refl long)
    | inr short ↦ skip_from fuel (skip_label (length l) (length l) s (l, refl, x) refl refl short) (omega arith)
  ]
  | is_pointer q x ↦ inl (at + 2, skip_pointer s x)
  | is_cut c ↦ inr (ShortInput, skip_broken ShortInput s c)
  | is_bad i a b ↦ inr (BadLabelType, skip_broken BadLabelType s (i, a, b))
]

pub skips_or_not : (m : List ℕ) (p : ℕ) → ((e : ℕ) × Skips m p e) ⊎ ((d : NameFault) × SkipFault m p d)
skips_or_not m p = skip_from 256 (skip_start m p) (omega arith)
