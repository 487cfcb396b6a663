-- Readings with errors of any type.
use Rattle.std.specs.Prelude.{◌≡◌, ℕ, ◌≤◌, List, length}
use Rattle.domain_wire.specs.declared.error.ParseError.{ParseError}
use Rattle.domain_wire.specs.Refusals.{Refusal, refusal}
use Rattle.domain_wire.specs.Values.{IsReading}

-- Where values are, and where none is, as `IsReading` has it, with errors of any type, whose meaning is `said`.
pub record IsReadingOf {Seen E : Type 0} (said : E → Refusal) (At : List ℕ → ℕ → Seen → ℕ → Type 0) (No : List ℕ → ℕ → E → Type 0) : Type 0 where
  -- a value lies in the octets
  pub inside : (m : List ℕ) (p : ℕ) (it : Seen) (e : ℕ) → At m p it e → (p ≤ e) × (e ≤ length m)
  -- one value is at an offset, and it has one end
  pub one_value : (m : List ℕ) (p : ℕ) (a b : Seen) (e f : ℕ) → At m p a e → At m p b f → (a ≡ b) × (e ≡ f)
  -- where a value is none is missing
  pub not_both : (m : List ℕ) (p : ℕ) (it : Seen) (e : ℕ) (why : E) → At m p it e → No m p why → ⊥
  -- there is one error
  pub one_error : (m : List ℕ) (p : ℕ) (why other : E) → No m p why → No m p other → said why ≡ said other

pub any_reading : {Seen : Type 0} {At : List ℕ → ℕ → Seen → ℕ → Type 0} {No : List ℕ → ℕ → ParseError → Type 0} → IsReading At No → IsReadingOf refusal At No
any_reading law = record { inside = law.inside; one_value = law.one_value; not_both = law.not_both; one_error = law.one_fault }

pub parse_reading : {Seen : Type 0} {At : List ℕ → ℕ → Seen → ℕ → Type 0} {No : List ℕ → ℕ → ParseError → Type 0} → IsReadingOf refusal At No → IsReading At No
parse_reading law = record { inside = law.inside; one_value = law.one_value; not_both = law.not_both; one_fault = law.one_error }
