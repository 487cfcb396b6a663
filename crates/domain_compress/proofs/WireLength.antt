-- How many octets the name at an offset has uncompressed.
use Rattle.std.proofs.Common.{◌≡◌, ℕ, ◌+◌, ◌≤◌, ◌<◌, ◌⊎◌, List, [], ◌∷◌, ◌++◌, length, refl, ap, subst, arith, add-one, length-append}
use Rattle.domain_label.specs.Wire.{wire, Root}
use Rattle.domain_label.proofs.CanonicalForm.{lowercase_size}
use Rattle.domain_label.proofs.WireLaws.{length-wire_append}
use Rattle.domain_reading.specs.Grammar.{OctetAt, LabelAt, PointerAt}
use Rattle.domain_reading.specs.Grammar.Reads.{root}
use Rattle.domain_reading.specs.Faults.{Followed, start, past_label, past_pointer}
use Rattle.domain_reading.specs.Heads.{BrokenAt}
use Rattle.domain_reading.specs.declared.fault.NameFault.{NameFault}
use Rattle.domain_reading.specs.declared.fault.NameFault.TheVariants.{TooManyPointers, LongName}
use Rattle.domain_reading.proofs.WhileReading.{broken_fault}
use Rattle.domain_reading.proofs.Reading.{reads_once}
use Rattle.domain_reading.proofs.NameOrFault.{walk_reads, names_or_fault}
use Rattle.domain_rdata.specs.ReadBack.{StandsAt}

-- A walk from p has passed labels of `len` octets, with their length octets, and stands at `at`.
pub record Walked (t : List ℕ) (p at len pointers : ℕ) : Type 0 where
  pub labels : List (List ℕ)
  pub walk : Followed 255 t p pointers labels at
  pub size : length (wire labels) ≡ len
  pub short : len ≤ 254
  pub few : pointers ≤ 255

pub walked_start : (t : List ℕ) (p : ℕ) → Walked t p p 0 0
walked_start t p = record { labels = []; walk = start; size = refl; short = omega arith; few = omega arith }

one_more : (ls : List (List ℕ)) (l : List ℕ) → length (wire (ls ++ l ∷ [])) ≡ length (wire ls) + (1 + length l)
one_more ls l = omega (arith, length-wire_append ls (l ∷ []), length-append l (wire []))

-- A label of n octets stands at r.
abbrev pub LabelThere : List ℕ → ℕ → ℕ → Type 0
LabelThere t r n = (l : List ℕ) × (length l ≡ n) × LabelAt t r l

pub walked_label : {t : List ℕ} {p at len pointers : ℕ} (n : ℕ) → Walked t p at len pointers → LabelThere t at n → len + (1 + n) ≤ 254 → Walked t p (at + (1 + n)) (len + (1 + n)) pointers
walked_label {t} {p} {at} {len} {pointers} n w x fits =
    let labels = w.labels ++ x.0 ∷ [] in
    record {
      labels = labels;
      walk = subst (λ r. Followed 255 t p pointers labels r) (omega (arith, x.1)) (past_label w.walk x.2 (omega (arith, w.size, x.1, fits)));
      size = omega (arith, one_more w.labels x.0, w.size, x.1);
      short = fits;
      few = w.few;
    }

pub walked_pointer : {t : List ℕ} {p at len pointers q : ℕ} → Walked t p at len pointers → PointerAt t at q → q < at → pointers < 255 → Walked t p q len (pointers + 1)
walked_pointer w x lt few = record {
  labels = w.labels;
  walk = rw add-one (past_pointer w.walk x lt few);
  size = w.size;
  short = w.short;
  few = omega (arith, few);
}

-- No name is read from p, since the walk can't go on.
pub none_broken : {t : List ℕ} {p at len pointers : ℕ} (fault : NameFault) → Walked t p at len pointers → BrokenAt t at fault → (ls : List (List ℕ)) → StandsAt t p ls → ⊥
none_broken {t} {at = at} {pointers = pointers} fault w b ls s =
    names_or_fault s.1 (record { pointers = pointers; passed = w.labels; stopped = at; walk = w.walk; at = broken_fault 255 t at pointers w.labels fault b })

pub none_back : {t : List ℕ} {p at len pointers q : ℕ} → Walked t p at len pointers → PointerAt t at q → ((at ≤ q) ⊎ (pointers ≡ 255)) → (ls : List (List ℕ)) → StandsAt t p ls → ⊥
none_back {at = at} {pointers = pointers} {q} w x why ls s =
    names_or_fault {e = TooManyPointers} s.1 (record { pointers = pointers; passed = w.labels; stopped = at; walk = w.walk; at = (q, x, why) })

pub none_long : {t : List ℕ} {p at len pointers : ℕ} (n : ℕ) → Walked t p at len pointers → LabelThere t at n → 254 < len + (1 + n) → (ls : List (List ℕ)) → StandsAt t p ls → ⊥
none_long {at = at} {pointers = pointers} n w x long ls s =
    names_or_fault {e = LongName} s.1 (record { pointers = pointers; passed = w.labels; stopped = at; walk = w.walk; at = (x.0, x.2, omega (arith, w.size, x.1, long)) })

-- The root is read where the walk stands, so the name has one octet more than the labels that were passed.
pub whole_size : {t : List ℕ} {p at len pointers : ℕ} → Walked t p at len pointers → OctetAt t at 0 → (ls : List (List ℕ)) → StandsAt t p ls → length (wire ls) ≡ len + 1
whole_size {t} {p} w x ls s =
    let same : s.0 ≡ w.labels ++ Root = (reads_once s.1.reads (walk_reads w.walk (root x))).1 in
    omega (arith, lowercase_size ls, ap (λ z. length (wire z)) s.2, lowercase_size s.0, ap (λ z. length (wire z)) same, length-wire_append w.labels Root, w.size)
