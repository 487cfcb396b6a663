-- The laws of fields.
use Rattle.std.specs.Prelude.{◌≡◌, ℕ, ◌≤◌, ◌<◌, Bool, true, false, List, Option, None, Some, if◌then◌else◌, length, refl}
use Rattle.std.proofs.Common.{arith, ap, subst, ◌∙◌}
use Rattle.domain_label.specs.Wire.{wire, IsAbsoluteName}
use Rattle.domain_label.proofs.CanonicalForm.{lowercase_size}
use Rattle.domain_label.proofs.WireLaws.{absolute_some}
use Rattle.domain_rdata.specs.FlatNames.{wire_reads_back}
use Rattle.domain_rdata.specs.RecordData.{NameOctets}
use Rattle.domain_fields.specs.Cases.{cased_labels}

abbrev known : Option ℕ → ℕ
known None = 0
known (Some n) = n

pub known_once : {a b : ℕ} → Some a ≡ Some b → a ≡ b
known_once e = ap known e

pub none_known : {n : ℕ} {A : Type 0} → None ≡ Some n → A
none_known {n} {A} e = let P : Option ℕ → Type 0 = λ o. elim o as (λ _. Type 0) [ None ↦ Unit {0} | Some n ↦ A ] in subst P e tt

-- the length of octets that are always the same
pub fixed_size : (o s : List ℕ) (len n : ℕ) → length o ≡ len → Some len ≡ Some n → s ≡ o → length s ≡ n
fixed_size o s len n has told is = ap length is ∙ (has ∙ known_once told)

-- octets that are always the same are never longer
pub no_longer : (o s : List ℕ) → s ≡ o → length s ≤ length o
no_longer o s is = omega (arith, ap length is)

-- a name has octets, in lowercase too
pub cased_some : (lowercase : Bool) (ls : List (List ℕ)) → IsAbsoluteName ls → 0 < length (wire (cased_labels lowercase ls))
cased_some true ls name = omega (arith, lowercase_size ls, absolute_some ls name.0)
cased_some false ls name = absolute_some ls name.0

-- the length of the canonical form of a name
pub cased_size : (lowercase : Bool) (ls : List (List ℕ)) (n : ℕ) → Some (length (wire ls)) ≡ Some n → length (wire (cased_labels lowercase ls)) ≡ n
cased_size true ls n told = lowercase_size ls ∙ known_once told
cased_size false ls n told = known_once told

-- the length of a name, where it is known
pub name_size : (ls : List (List ℕ)) (c : Bool) (n : ℕ) (t s : List ℕ) → (if c then None else Some (length (wire ls))) ≡ Some n → NameOctets ls c t s → length s ≡ n
name_size ls true n t s told name = none_known told
name_size ls false n t s told name = ap length (name.flat refl) ∙ known_once told

-- the octets of a name that isn't compressed
pub wire_octets : (ls : List (List ℕ)) (c : Bool) (t : List ℕ) → IsAbsoluteName ls → NameOctets ls c t (wire ls)
wire_octets ls c t name = record { read = wire_reads_back t ls name; flat = λ _. refl }
